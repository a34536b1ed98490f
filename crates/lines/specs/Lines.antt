-- The line: the list of all that was accepted, in order.
--     Entry                 a simplex that came in, a cut, or a return to a version; each with its caller
--     Grown, next g e       what has grown up to some place of a line, and what the entry e makes of it
--     grown L               what the line L has grown to
--     simplices L           the simplices of the line, in the order of their ids
--     version L v           version v: those of the entries before the v-th cut; version 0 is empty
--     cuts L, returns L     the number of its cuts, and of its returns
--     Follows L e           the entry e may stand behind the line L
--     IsLegal L             each entry may stand behind those before it
-- A return changes the simplices, and the line gets no shorter by it. Source: versions after Driscoll, Sarnak, Sleator and
-- Tarjan, "Making data structures persistent" (1989), section 1; the limits are this project's own.
use Rattle.std.specs.Prelude.{◌≡◌, ℕ, ◌-◌, ◌<◌, ◌≤◌, Bool, true, false, List, [], ◌∷◌, ◌++◌, length, take, count_by, slice_index_or}
use Rattle.std.specs.List.{fold}
use Rattle.homology.specs.Complexes.{Complex}
use Rattle.homology.specs.Growth.{Accepted, judge}

-- callers have the numbers below
abbrev pub callers : ℕ
callers = 16

-- the most cuts of a line
abbrev pub cut_capacity : ℕ
cut_capacity = 16384

-- the most returns of a line
abbrev pub return_capacity : ℕ
return_capacity = 64

pub data Entry : Type 0 where
  -- caller, simplex
  Attach : ℕ → List ℕ → Entry
  -- caller
  Cut : ℕ → Entry
  -- caller, version
  Back : ℕ → ℕ → Entry

abbrev pub Line : Type 0
Line = List Entry

-- the simplices, and the versions from version 0 on
pub record Grown : Type 0 where
  pub complex : Complex
  pub versions : List Complex

abbrev pub next : Grown → Entry → Grown
next g (Attach c s) = record g { complex = g.complex ++ s ∷ [] }
next g (Cut c) = record g { versions = g.versions ++ g.complex ∷ [] }
next g (Back c v) = record g { complex = slice_index_or g.versions v [] }

abbrev pub nothing : Grown
nothing = record { complex = []; versions = [] ∷ [] }

unfoldable pub grown : Line → Grown
grown L = fold next nothing L

abbrev pub simplices : Line → Complex
simplices L = (grown L).complex

abbrev pub version : Line → ℕ → Complex
version L v = slice_index_or (grown L).versions v []

abbrev pub is_cut : Entry → Bool
is_cut (Attach c s) = false
is_cut (Cut c) = true
is_cut (Back c v) = false

abbrev pub is_return : Entry → Bool
is_return (Attach c s) = false
is_return (Cut c) = false
is_return (Back c v) = true

abbrev pub cuts : Line → ℕ
cuts L = count_by is_cut L

abbrev pub returns : Line → ℕ
returns L = count_by is_return L

abbrev pub Follows : Line → Entry → Type 0
Follows L (Attach c s) = (c < callers) × (judge (simplices L) s ≡ Accepted)
Follows L (Cut c) = (c < callers) × (cuts L < cut_capacity)
Follows L (Back c v) = (c < callers) × (v ≤ cuts L) × (returns L < return_capacity)

-- the entry at place k; past the end a cut
abbrev pub entry_at : Line → ℕ → Entry
entry_at L k = slice_index_or L k (Cut 0)

pub record IsLegal (L : Line) : Type 0 where
  pub each : (k : ℕ) → k < length L → Follows (take k L) (entry_at L k)
