use Rattle.std.specs.Prelude.{◌≡◌}
use Rattle.elimination.proofs.tests.identity.Given as goal

abbrev pub invariant-loop-k : goal.invariant-loop-k
invariant-loop-k l = l.basis.width ≡ l.width
