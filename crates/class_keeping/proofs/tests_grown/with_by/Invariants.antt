-- The model grows.
use Rattle.class_cache.specs.Grown.{IsGrown}
use Rattle.class_keeping.proofs.tests_grown.with_by.Given as goal

abbrev pub invariant-loop-s : goal.invariant-loop-s
invariant-loop-s g l = IsGrown l.model l.grown
