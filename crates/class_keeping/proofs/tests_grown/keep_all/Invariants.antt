-- What is kept changes nothing that a contract sees.
use Rattle.std.specs.Prelude.{◌≡◌}
use Rattle.class_keeping.proofs.tests_grown.keep_all.Given as goal

abbrev pub invariant-loop-degree : goal.invariant-loop-degree
invariant-loop-degree l = l.cache ≡ l.fn.cache

abbrev pub invariant-loop-k : goal.invariant-loop-k
invariant-loop-k l = l.cache ≡ l.fn.cache
