use Rattle.std.specs.Prelude.{◌≡◌, ℕ, [], length, slice_index_or}
use Rattle.class_keeping.proofs.table.no_chains.Given as goal

abbrev pub invariant-loop-k : goal.invariant-loop-k
invariant-loop-k l = record {
  empty : (h : ℕ) → slice_index_or l.table.items h [] ≡ [];
  count : length l.table.items ≡ l.k;
}
