-- A map that finds the members of a list at their places.
--     FindsPlaces same es xs      each member of xs is found at its first place, and nothing else is found
use Rattle.std.specs.Prelude.{◌≡◌, ℕ, Bool, List, position}
use Rattle.share_index.specs.Entries.{value_at}

-- the value of each key is its first place in the list, and a key that is not in the list has none
abbrev pub FindsPlaces : {K : Type 0} → (K → K → Bool) → List (K × ℕ) → List K → Type 0
FindsPlaces {K} same es xs = (q : K) → value_at same es q ≡ position (same q) xs
