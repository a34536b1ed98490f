-- What is kept of the canonical cocycles of a complex.
--     AreRows each rows             each of the listed cocycles, as far as they are there, is the one of its place
--     AreCycles K hs cycles         cycles are those of the classes that were born with the essential simplices hs
--     AreMarksOf K a marks          marks has the members of a, with a place for each simplex of K
--     AreBoundaries K p cs          cs are the boundaries of the simplices of dimension p
--     IsKept K k                    k has the essential simplices of its degree, and canonical cocycles of K, one a class
--     AreKept K ks                  the same of each of a list, where that of degree d stands at place d
--     IsSumOfRows rows numbers c    the cocycles at the places of these numbers are there, and c is their sum
--     IsSumOfClasses K p numbers a  a is the sum of the canonical cocycles of the classes of degree p with these numbers
use Rattle.std.specs.Prelude.{◌≡◌, ℕ, ◌+◌, ◌<◌, Bool, List, [], ◌∷◌, length, slice_index, slice_index_or, Option, None, IfSome, Ok}
use Rattle.std.specs.List.{All}
use Rattle.homology.specs.Sets.{Ids, set_of}
use Rattle.homology.specs.ListSums.{sum_over}
use Rattle.homology.specs.Complexes.{Complex, IsComplex}
use Rattle.homology.specs.Chains.{boundary_of}
use Rattle.homology.specs.Kinds.{betti, ids}
use Rattle.cohomology.specs.Classes.{essentials, canonical}
use Rattle.cohomology.specs.Words.{numbered}
use Rattle.at_model.specs.Maps.{IsCycle}
use Rattle.cochain_values.specs.Cochains.{Graded, StandsOn}
use Rattle.cochain_values.specs.Marks.{marked}
use Rattle.class_solver.specs.Refusals.{IsTestedCocycle}
use Rattle.class_cache.specs.declared.kept.Kept.{Kept}

abbrev pub AreRows : (ℕ → Ids) → List (Option (List ℕ)) → Type 0
AreRows each rows = (j : ℕ) → IfSome (slice_index_or rows j None) (λ c. set_of c ≡ each j)

-- the canonical cocycle of one class
abbrev pub own : Complex → ℕ → ℕ → Ids
own K p k = set_of (canonical K p (k ∷ []))

pub record AreCycles (K : Complex) (hs : List ℕ) (cycles : List (List ℕ)) : Type 0 where
  pub count : length cycles ≡ length hs
  pub each : (j : ℕ) → j < length hs → IsCycle K (slice_index hs j) (set_of (slice_index_or cycles j []))

pub record AreMarksOf (K : Complex) (a : Ids) (marks : List Bool) : Type 0 where
  pub fits : length marks ≡ length K
  pub set : marked marks ≡ a

pub record AreBoundaries (K : Complex) (p : ℕ) (cs : List (List ℕ)) : Type 0 where
  pub count : length cs ≡ length (ids K p)
  pub each : (j : ℕ) → j < length (ids K p) → set_of (slice_index_or cs j []) ≡ boundary_of K (slice_index (ids K p) j)

pub record IsKept (K : Complex) (k : Kept) : Type 0 where
  pub complex : IsComplex K
  pub essential : k.essential.items ≡ essentials K k.degree
  pub cocycles : AreRows (own K k.degree) k.cocycles.items
  pub count : length k.cocycles.items ≡ betti K k.degree
  pub cycles : IfSome k.cycles (λ c. AreCycles K k.essential.items c.items)
  pub boundaries : IfSome k.boundaries (λ b. AreBoundaries K (k.degree + 1) b.items)

abbrev pub AreKept : Complex → List (Option Kept) → Type 0
AreKept K ks = (d : ℕ) → IfSome (slice_index_or ks d None) (λ k. (k.degree ≡ d) × IsKept K k)

abbrev pub IsSumOfRows : List (Option (List ℕ)) → List ℕ → List ℕ → Type 0
IsSumOfRows rows numbers c = (each : ℕ → Ids) → AreRows each rows → All (λ k. k < length rows) numbers × (set_of c ≡ sum_over numbers each)

pub record IsSumOfClasses (K : Complex) (p : ℕ) (numbers : List ℕ) (a : Graded) : Type 0 where
  pub degree : a.degree ≡ p
  pub sum : numbered (betti K p) (own K p) numbers ≡ Ok (set_of a.ids)
  pub stands : StandsOn K a
  pub closed : IsTestedCocycle K p (set_of a.ids)
