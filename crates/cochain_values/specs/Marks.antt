-- Sets as marks.
--     marked marks      the set of the places with `true`
--     below n a         the members of a that are less than n
--     IsListed a n xs   xs lists these, ascending
use Rattle.std.specs.Prelude.{◌≡◌, ◌<◌, ℕ, Bool, false, ◌&&◌, List, nat_lt, slice_index_or}
use Rattle.std.specs.List.{All}
use Rattle.std.specs.List.Sorted.{IsStrictlyIncreasing}
use Rattle.homology.specs.Sets.{Ids, set_of}

abbrev pub marked : List Bool → Ids
marked marks = λ q. slice_index_or marks q false

abbrev pub below : ℕ → Ids → Ids
below n a = λ q. nat_lt q n && a q

pub record IsListed (a : Ids) (n : ℕ) (xs : List ℕ) : Type 0 where
  pub set : set_of xs ≡ below n a
  pub ascending : IsStrictlyIncreasing xs
  pub less : All (λ t. t < n) xs
