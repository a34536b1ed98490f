-- The first in simplex order of the simplices with listed ids, as it is found.
--     IsFirst K xs first     first is the id of a first one of the ids xs; none, where xs has none
use Rattle.std.specs.Prelude.{◌≡◌, ℕ, ◌<◌, List, length, Option, Some, None}
use Rattle.homology.specs.Complexes.{Complex, simplex_at}
use Rattle.manifolds.specs.Closed.{first_of}

abbrev pub IsFirst : Complex → List ℕ → Option ℕ → Type 0
IsFirst K xs None = first_of K xs ≡ None
IsFirst K xs (Some id) = (id < length K) × (first_of K xs ≡ Some (simplex_at K id))
