-- The places of held versions.
--     first_named ns x      the place of the first of the names that is x
--     stands_for ns k p     one of the names stands for the place p, or p is k
--     root_at roots p       the line of the root at the place p
--     with_root roots p L   with the root of the line L at the place p, or behind all
--     held_by roots ns      the names, each with the line that it stands for
--     IsKept                what a session keeps: places are those of roots, and there is room for all that may come
use Rattle.std.specs.Prelude.{◌≡◌, ℕ, ◌<◌, ◌≤◌, Bool, cond, ◌||◌, ◌==◌, List, [], ◌∷◌, ◌++◌, length, map, nat_lt, slice_index_or, slice_set, Option, Some, None, Vec}
use Rattle.std.specs.List.{All, list_any}
use Rattle.std.specs.Vec.{vec_capacity}
use Rattle.std.specs.declared.alloc.Global.{Global}
use Rattle.homology.specs.Simplices.{same_list}
use Rattle.homology.specs.Complexes.{Complex}
use Rattle.lines.specs.Lines.{Line, cuts, version}
use Rattle.lines.specs.Callers.{name_capacity}
use Rattle.session_core.specs.declared.kept.Named.{Named}

abbrev pub first_named : List Named → List ℕ → Option ℕ
first_named [] x = None
first_named (n ∷ names) x = cond (same_list n.name x) (Some n.place) (first_named names x)

abbrev pub stands_for : List Named → ℕ → ℕ → Bool
stands_for names kept place = kept == place || list_any (λ n. n.place == place) names

abbrev pub root_at : List Line → ℕ → Line
root_at roots place = slice_index_or roots place []

abbrev pub with_root : List Line → ℕ → Line → List Line
with_root roots place L = cond (nat_lt place (length roots)) (slice_set roots place L) (roots ++ L ∷ [])

abbrev pub held_by : List Line → List Named → List (List ℕ × Line)
held_by roots names = map (λ n. (n.name, root_at roots n.place)) names

-- the complex of the root at a place
abbrev pub complex_at : List Line → ℕ → Complex
complex_at roots place = version (root_at roots place) (cuts (root_at roots place))

-- a place for each name, one for the version in use, and one for that of which the most was found
abbrev pub root_capacity : ℕ
root_capacity = 66

pub record IsKept (names : Vec Named Global) (roots : Vec Line Global) (in_use cached : ℕ) (cache : Complex) : Type 0 where
  pub few : length names.items ≤ name_capacity
  pub room : name_capacity ≤ vec_capacity names
  pub room_for_roots : root_capacity ≤ vec_capacity roots
  pub places : All (λ n. n.place < length roots.items) names.items
  pub used : in_use < length roots.items
  pub cached_there : cached < length roots.items
  pub found : cache ≡ complex_at roots.items cached
