-- Simplices that make a complex one after another.
--     InTurn L      each of L is accepted after those before it
--     IsFresh L     each of L is not among those before it
use Rattle.std.specs.Prelude.{◌≡◌, ℕ, ◌<◌, false, [], length, take, slice_index_or}
use Rattle.homology.specs.Complexes.{Complex}
use Rattle.homology.specs.Growth.{Accepted, is_there, judge}

abbrev pub InTurn : Complex → Type 0
InTurn L = (i : ℕ) → i < length L → judge (take i L) (slice_index_or L i []) ≡ Accepted

abbrev pub IsFresh : Complex → Type 0
IsFresh L = (i : ℕ) → i < length L → is_there (take i L) (slice_index_or L i []) ≡ false
