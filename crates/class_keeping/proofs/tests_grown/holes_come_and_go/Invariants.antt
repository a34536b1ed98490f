-- The cache becomes that of each model.
use Rattle.std.specs.Prelude.{◌≡◌}
use Rattle.class_keeping.proofs.tests_grown.holes_come_and_go.Given as goal

abbrev pub invariant-loop-more : goal.invariant-loop-more
invariant-loop-more g l = l.cache ≡ l.m
