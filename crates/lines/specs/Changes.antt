-- What a line is asked for, and how it is judged.
--     Change             a simplex, a list of facets, a cut, or a return to a version
--     Refusal            why it does not come in: a simplex is there, with this id; a face of it is missing; the line has as
--                        much as it may have; or there is no such version, since there are this many
--     attached c L       the simplices of L as entries of the caller c
--     last F             the last of the facets F
--     judged L c x       the entries that the change x of the caller c adds to the line L, or why it adds none
-- A change is judged on the whole line, and comes in whole or not at all.
use Rattle.std.specs.Prelude.{ℕ, ◌+◌, ◌-◌, cond, List, [], ◌∷◌, length, map, nat_le, nat_lt, slice_index_or, Result, Ok, Err}
use Rattle.homology.specs.Complexes.{Complex}
use Rattle.homology.specs.Growth.{Verdict, Accepted, There, MissingFace, Full, capacity, judge, new_simplices}
use Rattle.lines.specs.Lines.{Entry, Line, simplices, cuts, returns, cut_capacity, return_capacity}
use Rattle.lines.specs.Lines as entry

pub data Change : Type 0 where
  Attach : List ℕ → Change
  Facet : List (List ℕ) → Change
  Cut : Change
  Back : ℕ → Change

pub data Refusal : Type 0 where
  IsThere : ℕ → Refusal
  LacksFace : List ℕ → Refusal
  IsFull : ℕ → Refusal
  NoVersion : ℕ → Refusal

abbrev pub attached : ℕ → Complex → Line
attached c L = map (λ s. entry.Attach c s) L

abbrev pub last : Complex → List ℕ
last F = slice_index_or F (length F - 1) []

abbrev pub judged_so : ℕ → List ℕ → Verdict → Result Line Refusal
judged_so c s Accepted = Ok (entry.Attach c s ∷ [])
judged_so c s (There id) = Err (IsThere id)
judged_so c s (MissingFace t) = Err (LacksFace t)
judged_so c s (Full n) = Err (IsFull n)

-- what facets add to a complex K
abbrev pub judged_facets : ℕ → Complex → Complex → Result Line Refusal
judged_facets c K new = cond (nat_le (length K + length new) capacity) (Ok (attached c new)) (Err (IsFull (length K)))

abbrev pub judged_cut : ℕ → ℕ → Result Line Refusal
judged_cut c made = cond (nat_lt made cut_capacity) (Ok (entry.Cut c ∷ [])) (Err (IsFull cut_capacity))

-- a version that is not there is told before a line that is full
abbrev pub judged_return : ℕ → ℕ → ℕ → ℕ → Result Line Refusal
judged_return c v made taken =
    cond (nat_lt made v) (Err (NoVersion made)) (cond (nat_lt taken return_capacity) (Ok (entry.Back c v ∷ [])) (Err (IsFull return_capacity)))

abbrev pub judged : Line → ℕ → Change → Result Line Refusal
judged L c (Attach s) = judged_so c s (judge (simplices L) s)
judged L c (Facet F) = judged_facets c (simplices L) (new_simplices (simplices L) F)
judged L c Cut = judged_cut c (cuts L)
judged L c (Back v) = judged_return c v (cuts L) (returns L)
