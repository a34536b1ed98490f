use Rattle.std.proofs.Common.{◌≡◌, ℕ, ◌+◌, Bool, ◌&&◌, ◌||◌, ◌∷◌, [], length, nat_eq, take, sym, ap, ◌∙◌, arith}
use Rattle.homology.specs.Sets.{set_of}
use Rattle.homology.specs.ListSums.{odd_over}
use Rattle.homology.specs.Complexes.{simplex_at}
use Rattle.homology.specs.Kinds.{betti}
use Rattle.products.specs.Products.{value_at}
use Rattle.characteristic_classes.specs.Pairings.{pair}
use Rattle.elimination.specs.Rows.{entry}
use Rattle.wu_classes.proofs.KeptRows.{MoreEntries, cocycle-within, entries-more, points-pair, points-row}
use Rattle.wu_classes.proofs.point_rows.row_of_points.Goals as goal
use Rattle.wu_classes.proofs.point_rows.row_of_points.Goals.{then-an_odd_number_begin, else-an_odd_number_begin}

pub loop-k-init : goal.loop-k-init
loop-k-init c = record {
  width = c.in_ok-row.ensures.width ∙ c.betti.ensures;
  done = λ i lt. absurd (omega (arith, lt));
  rest = λ i le. ap (λ z. z i) c.in_ok-row.ensures.zeros;
}

pub an_odd_number_begin-requires-clause-within : goal.an_odd_number_begin-requires-clause-within
an_odd_number_begin-requires-clause-within c =
    let b = c.in-Some-kept_cocycle in
    (cocycle-within c.args.m.now c.complex-complex.ensures.complex c.args.n c.loop-k.k b.ensures.class c.complex-complex.result.now c.complex-complex.ensures.same
    b.cocycle.now c.ids.result.now b.ensures.cocycle c.ids.ensures.ids).0

pub an_odd_number_begin-requires-clause-dimension : goal.an_odd_number_begin-requires-clause-dimension
an_odd_number_begin-requires-clause-dimension c =
    let b = c.in-Some-kept_cocycle in
    (cocycle-within c.args.m.now c.complex-complex.ensures.complex c.args.n c.loop-k.k b.ensures.class c.complex-complex.result.now c.complex-complex.ensures.same
    b.cocycle.now c.ids.result.now b.ensures.cocycle c.ids.ensures.ids).1

pub loop-k-preserved : goal.loop-k-preserved
loop-k-preserved c =
    let K = c.args.m.now in
    let n = c.args.n in
    let k = c.loop-k.k in
    let old = c.loop-k.row in
    let new = c.if-an_odd_number_begin.row in
    let b = c.in-Some-kept_cocycle in
    let a = c.in-Some in
    let P : ℕ → Bool = λ i. pair K 0 (c.args.number ∷ []) (i ∷ []) in
    let value : c.an_odd_number_begin.result ≡ P k =
    c.an_odd_number_begin.ensures
    ∙ (λ i. odd_over (c.ids.ensures.ids i) (λ x. value_at (c.complex-complex.ensures.same i) (set_of a.points.now) (take 1 (simplex_at (c.complex-complex.ensures.same i) x))))
    ∙ points-pair K c.complex-complex.ensures.complex n c.requires.dimension c.args.number k a.ensures.class b.ensures.class a.points.now b.cocycle.now a.ensures.cocycle b.ensures.cocycle
    c.ids.ensures.ascending in
    let width : length new ≡ betti K n =
    elim c.if-an_odd_number_begin.branch as (λ _. length new ≡ betti K n) [
      | then-an_odd_number_begin w ↦ ap length w.row-is ∙ w.set.ensures.width ∙ c.loop-k.invariant.width
      | else-an_odd_number_begin w ↦ ap length w.row-is ∙ c.loop-k.invariant.width
    ] in
    let one : (q : ℕ) → entry new q ≡ ((P k && nat_eq q k) || entry old q) = λ q.
    elim c.if-an_odd_number_begin.branch as (λ _. entry new q ≡ ((P k && nat_eq q k) || entry old q)) [
      | then-an_odd_number_begin w ↦
          ap (λ r. entry r q) w.row-is ∙ w.set.ensures.set q ∙ ap (λ v. (v && nat_eq q k) || entry old q) (sym w.if-an_odd_number_begin.true ∙ value)
      | else-an_odd_number_begin w ↦
          ap (λ r. entry r q) w.row-is ∙ ap (λ v. (v && nat_eq q k) || entry old q) (sym w.if-an_odd_number_begin.false ∙ value)
    ] in
    let M : MoreEntries P new (k + 1) = entries-more P old new k (record { done = c.loop-k.invariant.done; rest = c.loop-k.invariant.rest }) one in
    record { width = width; done = M.done; rest = M.rest }

pub returns-clause-row : goal.returns-clause-row
returns-clause-row c =
    let all : c.loop-k.k ≡ betti c.args.m.now c.args.n = omega (arith, c.loop-k-test.false, c.loop-k.auto.k-end, c.betti-k-end.ensures) in
    points-row c.args.m.now c.args.n c.requires.dimension c.args.number c.loop-k.row c.loop-k.invariant.width
    (λ k lt. c.loop-k.invariant.done k (omega (arith, lt, all)))
