use Rattle.std.specs.Prelude.{◌≡◌, ℕ, ◌<◌, [], length, slice_index, slice_index_or}
use Rattle.homology.specs.Sets.{set_of}
use Rattle.elimination.specs.Rows.{entry, row_at}
use Rattle.wu_classes.proofs.pairing_rows.rows_at.Given as goal

abbrev pub invariant-loop-h : goal.invariant-loop-h
invariant-loop-h l = record {
  count : length l.rows.items ≡ l.h-index;
  widths : (j : ℕ) → j < l.h-index → length (row_at l.rows.items j) ≡ length l.second;
  entries : (j : ℕ) → j < l.h-index → (k : ℕ) → k < length l.second
      → entry (row_at l.rows.items j) k ≡ set_of (slice_index_or l.chains (slice_index l.first j) []) (slice_index l.second k);
}
