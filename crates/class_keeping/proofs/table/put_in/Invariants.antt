use Rattle.std.specs.Prelude.{◌≡◌, ℕ, [], length, slice_index_or, take}
use Rattle.homology.specs.Sets.{plus, set_of}
use Rattle.class_keeping.specs.Tables.{where_odd}
use Rattle.class_keeping.proofs.table.put_in.Given as goal

abbrev pub invariant-loop-h : goal.invariant-loop-h
invariant-loop-h l = record {
  rows : (h : ℕ) → set_of (slice_index_or l.table h []) ≡ plus (set_of (slice_index_or l.fn.table h [])) (where_odd (take l.h-index l.ids) h l.t);
  fits : length l.table ≡ length l.fn.table;
}
