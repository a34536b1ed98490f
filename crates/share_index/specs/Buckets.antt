-- Places of entries in buckets, by the hashes of their keys: the remainder of a hash modulo the number of buckets.
--     bound o                  how many places there are up to o
--     IsLast hs m b n o        of the first n places, o is the last in the bucket b of m
--     IsFiled hs last before       each bucket has its last place, and each place the one before it in its bucket
--     StaysFiled old new       what holds of the places in the old buckets holds in the new ones
use Rattle.std.specs.Prelude.{◌≡◌, ℕ, ◌+◌, ◌<◌, ◌≤◌, ◌%◌, List, length, slice_index_or, Option, None, Some}

-- how many places there are up to this one
abbrev pub bound : Option ℕ → ℕ
bound None = 0
bound (Some j) = j + 1

-- of the first n places, o is the last whose hash belongs in the bucket b of m
pub record IsLast (hs : List ℕ) (m b n : ℕ) (o : Option ℕ) : Type 0 where
  pub within : bound o ≤ n
  pub here : (j : ℕ) → o ≡ Some j → slice_index_or hs j 0 % m ≡ b
  pub all : (k : ℕ) → k < n → slice_index_or hs k 0 % m ≡ b → k < bound o

-- the first places are in their buckets
pub record IsFiled (hs : List ℕ) (last before : List (Option ℕ)) : Type 0 where
  pub few : length before ≤ length hs
  pub some : 0 < length before → 0 < length last
  pub bucket : (b : ℕ) → b < length last → IsLast hs (length last) b (length before) (slice_index_or last b None)
  pub place : (j : ℕ) → j < length before → IsLast hs (length last) (slice_index_or hs j 0 % length last) j (slice_index_or before j None)
