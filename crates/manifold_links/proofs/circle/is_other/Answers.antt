use Rattle.std.proofs.Common.{sym, ap, ◌∙◌}
use Rattle.manifold_links.proofs.circle.is_other.Goals as goal

pub returns : goal.returns
returns c = λ t. ap (λ p. p c.args.id) (sym c.faces.ensures.boundary) ∙ sym c.has.ensures ∙ t
