use Rattle.std.proofs.Common.{◌≡◌, ℕ, ◌+◌, ◌<◌, length, take, ap, ◌∙◌, arith}
use Rattle.std.specs.Prelude.{slice_index}
use Rattle.homology.specs.Sets.{set_of}
use Rattle.elimination.specs.Rows.{entry}
use Rattle.wu_classes.proofs.SumLaws.{row-found, row-missed}
use Rattle.wu_classes.proofs.pairing_rows.row_of_members.Goals as goal
use Rattle.wu_classes.proofs.pairing_rows.row_of_members.Goals.{in-Ok, in-Err}

pub loop-id-init : goal.loop-id-init
loop-id-init c = record { width = c.in_ok-row.ensures.width; entries = λ k lt. ap (λ z. z k) c.in_ok-row.ensures.zeros }

pub loop-id-preserved : goal.loop-id-preserved
loop-id-preserved c =
    let xs = c.args.simplices.now in
    let ids = c.args.chain.now in
    let i = c.loop-id.id-index in
    let x : ℕ = slice_index c.ids-id-items.result.now i in
    let here : x ≡ slice_index ids i = ap (λ l. slice_index l i) c.ids-id-items.ensures.ids in
    let lt : i < length ids = omega (arith, c.loop-id-test.true, ap length c.ids-id-items.ensures.ids) in
    record {
      width = elim c.match-binary_search.branch as (λ _. length c.match-binary_search.row ≡ length xs) [
        | in-Ok w ↦ ap length w.row-is ∙ w.set.ensures.width ∙ c.loop-id.invariant.width
        | in-Err w ↦ ap length w.row-is ∙ c.loop-id.invariant.width
      ];
      entries = λ k below. elim c.match-binary_search.branch as (λ _. entry c.match-binary_search.row k ≡ set_of (take (i + 1) ids) (slice_index xs k)) [
        | in-Ok w ↦
            ap (λ r. entry r k) w.row-is
            ∙ row-found xs ids i x c.binary_search.result c.loop-id.row c.requires.ascending lt here c.binary_search.ensures.position c.loop-id.invariant.entries
            w.in-Ok.place w.set.new.self w.in-Ok.is w.set.ensures.set k below
        | in-Err w ↦
            ap (λ r. entry r k) w.row-is
            ∙ row-missed xs ids i x c.binary_search.result c.loop-id.row c.requires.ascending lt here c.binary_search.ensures.position c.loop-id.invariant.entries
            w.in-Err.field-0 w.in-Err.is k below
      ];
    }
