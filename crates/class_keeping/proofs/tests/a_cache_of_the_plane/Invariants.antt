-- The cache stays that of the model.
use Rattle.std.specs.Prelude.{◌≡◌}
use Rattle.class_keeping.proofs.tests.a_cache_of_the_plane.Given as goal

abbrev pub invariant-loop : goal.invariant-loop
invariant-loop g l = l.cache ≡ l.m
