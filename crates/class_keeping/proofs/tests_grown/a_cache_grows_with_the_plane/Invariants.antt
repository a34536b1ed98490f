-- The cache becomes that of each model.
use Rattle.std.specs.Prelude.{◌≡◌}
use Rattle.class_keeping.proofs.tests_grown.a_cache_grows_with_the_plane.Given as goal

abbrev pub invariant-loop-s : goal.invariant-loop-s
invariant-loop-s g l = l.cache ≡ l.m
