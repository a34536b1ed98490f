use Rattle.std.specs.Prelude.{◌≡◌, sum, take}
use Rattle.wu_classes.proofs.numbers.total.Given as goal

abbrev pub invariant-loop-k : goal.invariant-loop-k
invariant-loop-k l = l.total ≡ sum (take l.k-index l.parts)
