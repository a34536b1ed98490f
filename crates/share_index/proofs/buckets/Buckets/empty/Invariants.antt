use Rattle.std.proofs.Common.{◌≡◌, ℕ, length, slice_index_or, None}
use Rattle.share_index.proofs.buckets.Buckets.empty.Given as goal

abbrev pub invariant-loop : goal.invariant-loop
invariant-loop l = record {
  count : length l.last.items ≡ l.counter;
  none : (b : ℕ) → slice_index_or l.last.items b None ≡ None;
}
