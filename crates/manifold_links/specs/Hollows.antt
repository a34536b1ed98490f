-- The boundary of a simplex.
--     Up L                no simplex of L comes before one that stands earlier
--     IsHollow L v r      L has, in simplex order, the nonempty faces of the simplex with the first vertex v and the others r, but not that
--                         simplex; r is at least one
use Rattle.std.specs.Prelude.{◌≡◌, ℕ, ◌<◌, ◌≤◌, true, false, List, [], ◌∷◌, length}
use Rattle.std.specs.List.{remove}
use Rattle.std.specs.Ordering.{is_lt}
use Rattle.homology.specs.Simplices.{IsSimplex}
use Rattle.homology.specs.Order.{simplex_cmp}
use Rattle.homology.specs.Complexes.{Complex, IsComplex, simplex_at}
use Rattle.homology.specs.Growth.{is_there}
use Rattle.manifolds.specs.Closed.{lies_in}

abbrev pub Up : Complex → Type 0
Up [] = Unit {0}
Up (t ∷ L) = ((u : List ℕ) → is_there L u ≡ true → is_lt (simplex_cmp u t) ≡ false) × Up L

pub record IsHollow (L : Complex) (v : ℕ) (r : List ℕ) : Type 0 where
  pub complex : IsComplex L
  pub up : Up L
  pub simplex : IsSimplex (v ∷ r)
  pub faces : (k : ℕ) → k < length (v ∷ r) → is_there L (remove (v ∷ r) k) ≡ true
  pub within : (t : ℕ) → t < length L → lies_in (simplex_at L t) (v ∷ r) ≡ true
  pub proper : (t : ℕ) → t < length L → length (simplex_at L t) ≤ length r
  pub wide : 0 < length r
