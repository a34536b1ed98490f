-- The cache stays that of the model.
use Rattle.std.specs.Prelude.{◌≡◌}
use Rattle.class_keeping.proofs.tests.all_cocycles_of_a_graph.Given as goal

abbrev pub invariant-loop-k : goal.invariant-loop-k
invariant-loop-k g l = l.cache ≡ l.m
