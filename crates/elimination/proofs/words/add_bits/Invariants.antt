use Rattle.std.specs.Prelude.{◌≡◌, ℕ, ◌<◌, ◌≤◌, slice_index_or, bit_xor}
use Rattle.elimination.proofs.words.add_bits.Given as goal

abbrev pub invariant-loop-i : goal.invariant-loop-i
invariant-loop-i l = record {
  done : (k : ℕ) → k < l.i → slice_index_or l.words k 0 ≡ bit_xor (slice_index_or l.fn.words k 0) (slice_index_or l.others k 0);
  rest : (k : ℕ) → l.i ≤ k → slice_index_or l.words k 0 ≡ slice_index_or l.fn.words k 0;
}
