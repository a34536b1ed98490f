use Rattle.std.proofs.Common.{true, sym, ap, ◌∙◌}
use Rattle.manifold_links.proofs.FirstLaws.{precedes, first-next}
use Rattle.manifold_links.proofs.first.comes_before.Goals as goal

pub returns-in-None : goal.returns-in-None
returns-in-None c = λ xs F. first-next c.args.k.now xs c.args.id c.args.first true c.requires.there (sym (ap (precedes c.args.k.now c.args.id) c.in-None.is)) F

pub returns-in-Some : goal.returns-in-Some
returns-in-Some c = λ xs F.
    first-next c.args.k.now xs c.args.id c.args.first c.is_less.result c.requires.there
    (c.is_less.ensures ∙ sym (ap (precedes c.args.k.now c.args.id) c.in-Some.is)) F
