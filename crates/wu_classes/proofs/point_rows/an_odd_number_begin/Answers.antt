use Rattle.std.proofs.Common.{◌≡◌, ℕ, Bool, take, sym, ap, ◌∙◌}
use Rattle.std.specs.Prelude.{slice_index}
use Rattle.homology.specs.Parity.{xor}
use Rattle.homology.specs.Sets.{set_of}
use Rattle.homology.specs.Complexes.{simplex_at}
use Rattle.homology.proofs.ParityLaws.{xor-false}
use Rattle.products.specs.Products.{value_at}
use Rattle.f2_chains.proofs.Parities.{xor-true, parity-more}
use Rattle.wu_classes.proofs.point_rows.an_odd_number_begin.Goals as goal
use Rattle.wu_classes.proofs.point_rows.an_odd_number_begin.Goals.{then-begins, else-begins}

pub loop-x-preserved : goal.loop-x-preserved
loop-x-preserved c =
    let ids = c.args.ids.now in
    let a : ℕ → Bool = λ x. value_at c.args.complex.now (set_of c.args.points.now) (take 1 (simplex_at c.args.complex.now x)) in
    let k = c.loop-x.x-index in
    let step : c.if-begins.odd ≡ xor c.loop-x.odd (a (slice_index ids k)) =
    elim c.if-begins.branch [
      | then-begins w ↦ w.odd-is ∙ sym (xor-true c.loop-x.odd) ∙ ap (xor c.loop-x.odd) (sym w.if-begins.true ∙ c.begins.ensures)
      | else-begins w ↦ w.odd-is ∙ sym (xor-false c.loop-x.odd) ∙ ap (xor c.loop-x.odd) (sym w.if-begins.false ∙ c.begins.ensures)
    ] in
    parity-more ids k a c.loop-x.odd c.if-begins.odd c.loop-x-test.true c.loop-x.invariant step
