use Rattle.std.specs.Prelude.{◌≡◌, ℕ, None, length, slice_index_or}
use Rattle.class_keeping.proofs.keeping.without_cocycles.Given as goal

abbrev pub invariant-loop-k : goal.invariant-loop-k
invariant-loop-k l = record {
  none : (j : ℕ) → slice_index_or l.rows.items j None ≡ None;
  count : length l.rows.items ≡ l.k;
}
