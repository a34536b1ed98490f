use Rattle.std.proofs.Common.{get_or, sym, ap, ◌∙◌}
use Rattle.manifolds.proofs.LinkLaws.{set_of-at}
use Rattle.manifold_links.proofs.circle.beyond.Goals as goal

pub returns-then-is_other : goal.returns-then-is_other
returns-then-is_other c =
    let faces = c.faces-face-items.result.now in
    let i = c.loop-face.face-index in
    (ap (λ p. p (get_or faces i 0)) (sym c.faces-face-items.ensures.boundary) ∙ set_of-at faces i c.loop-face-test.true, c.is_other.ensures c.if-is_other.true)
