use Rattle.std.specs.Prelude.{◌≡◌, ◌+◌, ℕ, count_by, length, nat_eq, slice_index_or, take}
use Rattle.manifold_links.proofs.counts.count_all.Given as goal

abbrev pub invariant-loop-id : goal.invariant-loop-id
invariant-loop-id l = record {
  counted : (q : ℕ) → slice_index_or l.counts q 0 ≡ slice_index_or l.fn.counts q 0 + count_by (λ t. nat_eq q t) (take l.id-index l.ids);
  fits : length l.counts ≡ length l.fn.counts;
}
