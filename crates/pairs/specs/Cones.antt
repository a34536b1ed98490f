-- A complex with a cone over a part of it.
--     IsConed K A v L     L is the complex K with a cone over its part A: its simplices are those of K, the apex v, which is no vertex of K, and v
--                         in front of each simplex of A. The order of attachment is any
--     with_cone K A v     K, then v, then v in front of each simplex of A
-- Where L is a complex, v is less than the vertices of A, since it stands in front of them.
-- Source: cones, Munkres, Elements of Algebraic Topology, section 8. The relative homology of a pair is the reduced homology of the whole with
-- a cone over the part: A. Hatcher, Algebraic Topology, section 2.1.
use Rattle.std.specs.Prelude.{◌≡◌, ℕ, true, false, ◌⊎◌, List, [], ◌∷◌, ◌++◌, map}
use Rattle.homology.specs.Complexes.{Complex}
use Rattle.homology.specs.Growth.{is_there}
use Rattle.pairs.specs.Pairs.{IsPart}

pub record IsConed (K A : Complex) (v : ℕ) (L : Complex) : Type 0 where
  pub whole : IsPart L K
  pub apex : is_there L (v ∷ []) ≡ true
  pub joined : (t : List ℕ) → is_there A t ≡ true → is_there L (v ∷ t) ≡ true
  pub only : (s : List ℕ) → is_there L s ≡ true
      → (is_there K s ≡ true) ⊎ ((t : List ℕ) × (s ≡ v ∷ t) × ((t ≡ []) ⊎ (is_there A t ≡ true)))
  pub fresh : (t : List ℕ) → is_there K (v ∷ t) ≡ false

abbrev pub with_cone : Complex → Complex → ℕ → Complex
with_cone K A v = K ++ (v ∷ []) ∷ map (λ t. v ∷ t) A
