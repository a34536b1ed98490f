use Rattle.std.specs.Prelude.{◌≡◌, length}
use Rattle.class_keeping.specs.Tables.{IsTable}
use Rattle.class_keeping.proofs.table.table.Given as goal

abbrev pub invariant-loop-place : goal.invariant-loop-place
invariant-loop-place l = record {
  table : IsTable l.m l.degree l.place l.table.items;
  fits : length l.table.items ≡ length l.m;
}
