use Rattle.std.proofs.Common.{◌≡◌, length, sym, ap, ◌∙◌}
use Rattle.std.specs.Prelude.{slice_index}
use Rattle.std.proofs.lemmas.List.{take_all}
use Rattle.homology.specs.Sets.{plus}
use Rattle.homology.specs.ListSums.{sum_over}
use Rattle.homology.proofs.SetLaws.{plus-empty}
use Rattle.cochain_values.specs.Marks.{marked}
use Rattle.cochain_values.proofs.MarkLaws.{sum-more}
use Rattle.cup_i.specs.Pairs.{pair_at}
use Rattle.cup_i.proofs.pairs.add_pairs_with.Goals as goal
use Rattle.cup_i.proofs.pairs.add_pairs_with.Goals.{in-Some, in_default}

pub loop-z-preserved : goal.loop-z-preserved
loop-z-preserved c =
    let φ = pair_at c.args.k.now c.args.i c.args.y in
    let zs = c.args.zs.now in
    let step : marked c.match-meeting.sum ≡ plus (marked c.loop-z.sum) (φ (slice_index zs c.loop-z.z-index)) =
    elim c.match-meeting.branch [
      | in-Some w ↦ ap marked w.sum-is ∙ w.toggle.ensures.set ∙ ap (plus (marked c.loop-z.sum)) (sym w.in-Some.ensures.1)
      | in_default w ↦ ap marked w.sum-is ∙ sym (plus-empty (marked c.loop-z.sum)) ∙ ap (plus (marked c.loop-z.sum)) (sym w.in_default.ensures)
    ] in
    let fits : length c.match-meeting.sum ≡ length c.loop-z.sum =
    elim c.match-meeting.branch [
      | in-Some w ↦ ap length w.sum-is ∙ w.toggle.ensures.fits
      | in_default w ↦ ap length w.sum-is
    ] in
    record {
      set = sum-more zs c.loop-z.z-index φ (marked c.args.sum.now) (marked c.loop-z.sum) (marked c.match-meeting.sum) c.loop-z-test.true c.loop-z.invariant.set step;
      fits = fits ∙ c.loop-z.invariant.fits;
    }

pub returns-clause-set : goal.returns-clause-set
returns-clause-set c =
    c.loop-z.invariant.set
    ∙ ap (λ l. plus (marked c.args.sum.now) (sum_over l (pair_at c.args.k.now c.args.i c.args.y)))
    (take_all c.loop-z.z-index c.args.zs.now c.loop-z-test.false)
