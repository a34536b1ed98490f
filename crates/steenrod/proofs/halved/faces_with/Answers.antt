use Rattle.std.proofs.Common.{◌≡◌, ◌+◌, ◌-◌, ◌%◌, ◌<◌, ◌≤◌, ◌&&◌, Bool, ℕ, true, false, cond, length, refl, sym, ap, ◌∙◌, arith}
use Rattle.std.specs.Prelude.{◌==◌, slice_index}
use Rattle.std.specs.List.{count_by, range_with_len, remove}
use Rattle.homology.specs.Complexes.{simplex_at}
use Rattle.products.specs.Products.{value_at}
use Rattle.cochain_values.specs.Marks.{marked}
use Rattle.complex_store.proofs.FrontLaws.{face-count}
use Rattle.steenrod.proofs.HalfLaws.{count-next, face-value}
use Rattle.steenrod.proofs.halved.faces_with.Goals as goal
use Rattle.steenrod.proofs.halved.faces_with.Goals.{then-counts, else-counts}

pub loop-place-preserved : goal.loop-place-preserved
loop-place-preserved c =
    let K = c.args.k.now in
    let s = simplex_at K c.args.id in
    let a = marked c.args.marks.now in
    let n : ℕ = c.loop-place.place in
    let p : ℕ → Bool = λ q. q % 2 == c.args.rest && value_at K a (remove s q) in
    let here : p n ≡ c.counts.result =
    ap (λ b. n % 2 == c.args.rest && b) (face-value K c.requires.complex a s c.faces-faces.result.now n c.faces-faces.ensures.faces c.requires.wide c.loop-place-test.true)
    ∙ sym c.counts.ensures in
    elim c.if-counts.branch [
      | then-counts w ↦ record { count = count-next p n true c.loop-place.count _ (here ∙ w.if-counts.true) w.count-is c.loop-place.invariant.count; few = omega (arith, w.count-is, c.loop-place.invariant.few) }
      | else-counts w ↦ record { count = count-next p n false c.loop-place.count _ (here ∙ w.if-counts.false) (w.count-is ∙ omega arith) c.loop-place.invariant.count; few = omega (arith, w.count-is, c.loop-place.invariant.few) }
    ]

pub returns : goal.returns
returns c =
    let K = c.args.k.now in
    let s = simplex_at K c.args.id in
    let a = marked c.args.marks.now in
    let p : ℕ → Bool = λ q. q % 2 == c.args.rest && value_at K a (remove s q) in
    let all : c.loop-place.place ≡ length s =
    omega (arith, c.loop-place-test.false, c.loop-place.auto.place-end, face-count K s c.faces-faces.result.now c.faces-faces.ensures.faces c.requires.wide) in
    c.loop-place.invariant.count ∙ ap (λ n. count_by p (range_with_len 0 n)) all
