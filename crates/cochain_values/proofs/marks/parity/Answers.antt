use Rattle.std.proofs.Common.{◌≡◌, sym, ap, ◌∙◌}
use Rattle.std.specs.Prelude.{slice_index}
use Rattle.homology.specs.Parity.{xor}
use Rattle.homology.proofs.ParityLaws.{xor-false}
use Rattle.cochain_values.specs.Marks.{marked}
use Rattle.f2_chains.proofs.Parities.{xor-true, parity-more}
use Rattle.cochain_values.proofs.marks.parity.Goals as goal
use Rattle.cochain_values.proofs.marks.parity.Goals.{then-marks-id, else-marks-id}

pub loop-id-preserved : goal.loop-id-preserved
loop-id-preserved c =
    let ids = c.args.ids.now in
    let a = marked c.args.marks.now in
    let k = c.loop-id.id-index in
    let step : c.if-marks-id.odd ≡ xor c.loop-id.odd (a (slice_index ids k)) =
    elim c.if-marks-id.branch [
      | then-marks-id w ↦ w.odd-is ∙ sym (xor-true c.loop-id.odd) ∙ ap (xor c.loop-id.odd) (sym w.if-marks-id.true)
      | else-marks-id w ↦ w.odd-is ∙ sym (xor-false c.loop-id.odd) ∙ ap (xor c.loop-id.odd) (sym w.if-marks-id.false)
    ] in
    parity-more ids k a c.loop-id.odd c.if-marks-id.odd c.loop-id-test.true c.loop-id.invariant step
