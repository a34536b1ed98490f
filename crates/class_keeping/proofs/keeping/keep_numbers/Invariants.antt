use Rattle.class_cache.specs.Kept.{IsKept}
use Rattle.class_keeping.proofs.keeping.keep_numbers.Given as goal

abbrev pub invariant-loop-number : goal.invariant-loop-number
invariant-loop-number l = IsKept l.m l.kept
