use Rattle.std.proofs.Common.{arith}
use Rattle.wu_classes.proofs.Sums.{total-more}
use Rattle.wu_classes.proofs.numbers.total.Goals as goal

pub overflow_add-total : goal.overflow_add-total
overflow_add-total c =
    omega (arith, total-more c.args.parts.now c.loop-k.k-index c.requires.degrees c.loop-k-test.true, c.from-total.ensures, c.loop-k.invariant, c.requires.few)
