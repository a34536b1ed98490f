use Rattle.std.proofs.Common.{◌≡◌, false, ℕ, List, length, sym, ap, subst, ◌∙◌, arith}
use Rattle.std.specs.List.{All}
use Rattle.std.specs.List.Sorted.{IsStrictlyIncreasing}
use Rattle.homology.specs.Sets.{Ids, set_of}
use Rattle.homology.specs.ListSums.{odd_over}
use Rattle.cochain_values.specs.Marks.{marked}
use Rattle.class_solver.proofs.AlongPhi.{marks-within}
use Rattle.class_cache.proofs.BoundaryTests.{boundaries-within, closed-found}
use Rattle.class_solver.proofs.TestedCocycles.{tested-cocycle}
use Rattle.class_cache.proofs.boundaries.is_cocycle.Goals as goal

pub marks_of-requires-clause-within : goal.marks_of-requires-clause-within
marks_of-requires-clause-within c =
    marks-within c.len.result (length c.args.m.now) c.ids.result.now c.args.a.now.ids (c.ids.ensures.ids ∙ c.support.ensures) c.requires.stands.there
    (ap length (sym c.complex-complex.ensures.same) ∙ sym c.len.ensures.count)

pub are_even-requires : goal.are_even-requires
are_even-requires c = λ k d lt j e h. omega (
  arith,
  boundaries-within c.args.m.now c.complex-complex.ensures.complex c.args.a.now.degree c.args.boundaries.now c.requires.boundaries k d lt j e h,
  ap length c.deref.ensures.value,
  c.in_ok-values.ensures.fits,
  c.len.ensures.count,
  ap length c.complex-complex.ensures.same,
)

pub returns : goal.returns
returns c = λ yes.
    let K = c.args.m.now in
    let p = c.args.a.now.degree in
    let a = set_of c.args.a.now.ids in
    let values : marked c.deref.result.now ≡ a = ap marked c.deref.ensures.value ∙ c.in_ok-values.ensures.set ∙ ap set_of (c.ids.ensures.ids ∙ c.support.ensures) in
    let P : Ids → Type 0 = λ v. All (λ (l : List ℕ). IsStrictlyIncreasing l × (odd_over l v ≡ false)) c.args.boundaries.now in
    tested-cocycle K p a
    (closed-found K c.complex-complex.ensures.complex p c.args.boundaries.now c.requires.boundaries a c.requires.stands (subst P values (c.are_even.ensures yes)))
