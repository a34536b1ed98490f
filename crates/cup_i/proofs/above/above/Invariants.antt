use Rattle.std.specs.Prelude.{◌+◌}
use Rattle.homology.specs.Sets.{set_of}
use Rattle.cup_i.specs.Above.{IsAbove}
use Rattle.cup_i.proofs.above.above.Given as goal

abbrev pub invariant-loop-done : goal.invariant-loop-done
invariant-loop-done l = IsAbove l.k l.behind (set_of l.a.ids) (l.a.degree + 1 + l.done) l.level.items
