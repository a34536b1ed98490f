use Rattle.std.specs.Prelude.{◌≡◌}
use Rattle.session_core.proofs.prepare.prepare.Given as goal

abbrev pub invariant-loop-question : goal.invariant-loop-question
invariant-loop-question l = l.cache ≡ l.m
