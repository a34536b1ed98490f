use Rattle.std.specs.Prelude.{◌≡◌, ℕ, ◌<◌, ◌≤◌, false, length, slice_index}
use Rattle.homology.specs.Sets.{set_of}
use Rattle.elimination.specs.Rows.{entry}
use Rattle.wu_classes.proofs.row.read_at.Given as goal

abbrev pub invariant-loop-k : goal.invariant-loop-k
invariant-loop-k l = record {
  width : length l.row ≡ length l.simplices;
  done : (i : ℕ) → i < l.k → entry l.row i ≡ set_of l.chain (slice_index l.simplices i);
  rest : (i : ℕ) → l.k ≤ i → entry l.row i ≡ false;
}
