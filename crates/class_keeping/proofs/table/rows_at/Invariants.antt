use Rattle.std.specs.Prelude.{◌≡◌, ℕ, ◌<◌, [], length, slice_index, slice_index_or}
use Rattle.homology.specs.Sets.{Ids, set_of}
use Rattle.class_cache.specs.Kept.{AreRows}
use Rattle.class_keeping.proofs.table.rows_at.Given as goal

abbrev pub invariant-loop-h : goal.invariant-loop-h
invariant-loop-h l = record {
  rows : (each : ℕ → Ids) → ((j : ℕ) → j < length l.simplices → set_of (slice_index_or l.table (slice_index l.simplices j) []) ≡ each j) → AreRows each l.rows.items;
  count : length l.rows.items ≡ l.h-index;
}
