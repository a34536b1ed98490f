use Rattle.std.specs.Prelude.{◌≡◌}
use Rattle.class_keeping.proofs.growth.grow_each.Given as goal

abbrev pub invariant-loop-degree : goal.invariant-loop-degree
invariant-loop-degree l = record {
  old : l.old ≡ l.fn.old;
  grown : l.grown ≡ l.m;
}
