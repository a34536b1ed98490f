use Rattle.std.specs.Prelude.{◌≡◌, ℕ, ◌<◌, ◌≤◌, false, length}
use Rattle.elimination.specs.Rows.{entry, row_at}
use Rattle.wu_classes.proofs.columns.diagonal.Given as goal

abbrev pub invariant-loop-j : goal.invariant-loop-j
invariant-loop-j l = record {
  width : length l.row ≡ length l.basis.rows;
  done : (i : ℕ) → i < l.j → entry l.row i ≡ entry (row_at l.basis.rows i) i;
  rest : (i : ℕ) → l.j ≤ i → entry l.row i ≡ false;
}
