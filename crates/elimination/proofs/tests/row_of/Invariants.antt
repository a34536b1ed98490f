use Rattle.std.specs.Prelude.{◌≡◌, length}
use Rattle.elimination.proofs.tests.row_of.Given as goal

abbrev pub invariant-loop-q : goal.invariant-loop-q
invariant-loop-q l = length l.row ≡ l.width
