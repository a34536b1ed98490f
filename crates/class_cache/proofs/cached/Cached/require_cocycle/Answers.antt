use Rattle.std.proofs.Common.{◌+◌, ℕ, List, sym, subst, ◌∙◌}
use Rattle.std.specs.Prelude.{IfSome}
use Rattle.class_cache.specs.Kept.{AreBoundaries}
use Rattle.class_cache.proofs.cached.Cached.require_cocycle.Goals as goal

pub is_cocycle-requires-clause-boundaries : goal.is_cocycle-requires-clause-boundaries
is_cocycle-requires-clause-boundaries c =
    let K = c.self.inside.model.now in
    let k = c.in-Some.kept.now in
    let I = (c.in-Some.ensures K c.self.invariant).1 in
    let B : AreBoundaries K (k.degree + 1) c.in-Some-boundaries.boundaries.items =
    subst (λ o. IfSome o (λ b. AreBoundaries K (k.degree + 1) b.items)) c.in-Some-boundaries.is I.boundaries in
    subst (λ (cs : List (List ℕ)). AreBoundaries K (c.args.a.now.degree + 1) cs) (sym c.deref.ensures.value)
    (subst (λ (p : ℕ). AreBoundaries K (p + 1) c.in-Some-boundaries.boundaries.items) ((c.in-Some.ensures K c.self.invariant).0 ∙ c.degree.ensures) B)
