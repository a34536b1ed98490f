use Rattle.std.proofs.Common.{List, ℕ, refl, subst}
use Rattle.std.proofs.lemmas.List.{take_all}
use Rattle.class_cache.specs.Kept.{IsSumOfRows}
use Rattle.class_cache.proofs.KeptLaws.{sum-none, sum-row}
use Rattle.class_cache.proofs.kept.sum_of_rows.Goals as goal

pub loop-number-init : goal.loop-number-init
loop-number-init c = sum-none c.args.rows.now c.args.numbers.now c.new-sum.result c.new-sum.ensures

pub loop-number-preserved : goal.loop-number-preserved
loop-number-preserved c =
    sum-row c.args.rows.now c.args.numbers.now c.loop-number.number-index _ c.loop-number.sum c.in-Some.row.now c.add.new.chain c.loop-number-test.true refl
    c.in-Some.ensures.1 c.in_ok-add.ensures c.loop-number.invariant

pub returns : goal.returns
returns c =
    subst (λ (l : List ℕ). IsSumOfRows c.args.rows.now l c.loop-number.sum) (take_all c.loop-number.number-index c.args.numbers.now c.loop-number-test.false) c.loop-number.invariant
