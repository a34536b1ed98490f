use Rattle.std.specs.Prelude.{◌≡◌, ℕ, ◌<◌, ◌≤◌, false, length}
use Rattle.elimination.specs.Rows.{entry, row_at}
use Rattle.wu_classes.proofs.columns.column.Given as goal

abbrev pub invariant-loop-j : goal.invariant-loop-j
invariant-loop-j l = record {
  width : length l.column ≡ length l.basis.rows;
  done : (i : ℕ) → i < l.j → entry l.column i ≡ entry (row_at l.basis.rows i) l.place;
  rest : (i : ℕ) → l.j ≤ i → entry l.column i ≡ false;
}
