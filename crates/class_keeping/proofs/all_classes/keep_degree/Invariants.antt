use Rattle.std.specs.Prelude.{◌≡◌}
use Rattle.class_keeping.proofs.all_classes.keep_degree.Given as goal

abbrev pub invariant-loop-number : goal.invariant-loop-number
invariant-loop-number l = l.cache ≡ l.fn.cache
