use Rattle.std.specs.Prelude.{◌≡◌, ℕ, [], length, slice_index_or}
use Rattle.wu_classes.proofs.face_sums.no_chains.Given as goal

abbrev pub invariant-loop-k : goal.invariant-loop-k
invariant-loop-k l = record {
  empty : (h : ℕ) → slice_index_or l.sums.items h [] ≡ [];
  count : length l.sums.items ≡ l.k;
}
