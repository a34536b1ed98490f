use Rattle.std.proofs.Common.{arith}
use Rattle.facet_reader.proofs.Numerals.{room_for_digit}
use Rattle.facet_reader.proofs.run.value.Goals as goal

pub overflow_mul-value : goal.overflow_mul-value
overflow_mul-value c = omega (arith, room_for_digit c.loop-digit.digit-index c.loop-digit.value (omega arith) c.loop-digit.invariant.bound)

pub overflow_add-value : goal.overflow_add-value
overflow_add-value c = omega (arith, room_for_digit c.loop-digit.digit-index c.loop-digit.value (omega arith) c.loop-digit.invariant.bound)
