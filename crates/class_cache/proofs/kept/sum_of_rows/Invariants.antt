use Rattle.std.specs.Prelude.{take}
use Rattle.class_cache.specs.Kept.{IsSumOfRows}
use Rattle.class_cache.proofs.kept.sum_of_rows.Given as goal

abbrev pub invariant-loop-number : goal.invariant-loop-number
invariant-loop-number l = IsSumOfRows l.rows (take l.number-index l.numbers) l.sum
