-- What a chunk ends as, once a `&mut` into it has ended.
use Rattle.std.specs.Prelude.{ℕ, List, Result, slice_set}
use Rattle.std.specs.Borrow.{Fml, RattleType, MutBor, LendsIfOk}
use Rattle.share_rows.specs.contracts.chunk.Chunk.{the_row}
use Rattle.share_rows.specs.Packs.{with_leaf}

-- the item at the index is the last value written through r, and at `Err` the chunk stays as it is
abbrev pub lends_item : (R : RattleType) → MutBor (List R.Denot) → ℕ → {E : Type 0} → Result (MutBor R.Denot) E → Fml
lends_item R c i r = LendsIfOk (the_row R) R c r (λ w. slice_set c.now i w) c.now

-- the same of the q-th leaf of a top
abbrev pub lends_leaf : (R : RattleType) → MutBor (List (List (List R.Denot))) → ℕ → {E : Type 0} → Result (MutBor (List R.Denot)) E → Fml
lends_leaf R c q r = LendsIfOk (the_row (the_row (the_row R))) (the_row R) c r (λ w. with_leaf c.now q w) c.now
