use Rattle.std.specs.Prelude.{◌≡◌, ℕ, ◌<◌, length}
use Rattle.elimination.specs.Rows.{entry, row_at}
use Rattle.wu_classes.proofs.columns.columns.Given as goal

abbrev pub invariant-loop-place : goal.invariant-loop-place
invariant-loop-place l = record {
  count : length l.columns.items ≡ l.place;
  widths : (k : ℕ) → k < l.place → length (row_at l.columns.items k) ≡ length l.basis.rows;
  entries : (k : ℕ) → k < l.place → (j : ℕ) → j < length l.basis.rows → entry (row_at l.columns.items k) j ≡ entry (row_at l.basis.rows j) k;
}
