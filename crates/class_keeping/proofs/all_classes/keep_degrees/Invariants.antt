use Rattle.std.specs.Prelude.{◌≡◌}
use Rattle.class_keeping.proofs.all_classes.keep_degrees.Given as goal

abbrev pub invariant-loop-p : goal.invariant-loop-p
invariant-loop-p l = l.cache ≡ l.fn.cache
