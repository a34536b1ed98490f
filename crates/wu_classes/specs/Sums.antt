-- Sums of the map f of the contraction over faces of simplices.
--     AreMaps K maps           maps has f of each simplex of K, in the order of the ids
--     meets K f p h q x        whether h is in f of the face of x of its first p + 1 vertices, and q in f of that of the others and the last
--                              of these
--     AreEnds K p x c b        h is in c and q in b exactly where this is so
--     where_odd xs h a         a where h stands an odd number of times in xs, else empty
--     AreSums K p xs sums      at each h are the q for which this is so at an odd number of the simplices xs: the sum of f of the back faces
--                              of those with h in f of the front face
use Rattle.std.specs.Prelude.{◌≡◌, ℕ, ◌+◌, ◌<◌, Bool, ◌&&◌, List, [], nat_eq, length, take, drop, slice_index_or}
use Rattle.homology.specs.Sets.{Ids, set_of}
use Rattle.homology.specs.ListSums.{odd_over, sum_over}
use Rattle.homology.specs.Complexes.{Complex, simplex_at}
use Rattle.homology.specs.Contractions.{IsContraction}
use Rattle.products.specs.Products.{value_at}
use Rattle.at_model.specs.Maps.{IsF}

pub record AreMaps (K : Complex) (maps : List (List ℕ)) : Type 0 where
  pub count : length maps ≡ length K
  pub each : (t : ℕ) → t < length K → IsF K t (set_of (slice_index_or maps t []))

abbrev pub meets : Complex → (ℕ → Ids) → ℕ → ℕ → ℕ → ℕ → Bool
meets K f p h q x = value_at K (λ t. f t h) (take (p + 1) (simplex_at K x)) && value_at K (λ t. f t q) (drop p (simplex_at K x))

abbrev pub AreEnds : Complex → ℕ → ℕ → List ℕ → List ℕ → Type 0
AreEnds K p x c b = (f g phi : ℕ → Ids) → IsContraction K f g phi → (h q : ℕ) → (set_of c h && set_of b q) ≡ meets K f p h q x

abbrev pub where_odd : List ℕ → ℕ → Ids → Ids
where_odd xs h a = λ q. odd_over xs (λ x. nat_eq h x) && a q

abbrev pub AreSums : Complex → ℕ → List ℕ → List (List ℕ) → Type 0
AreSums K p xs sums = (f g phi : ℕ → Ids) → IsContraction K f g phi → (h : ℕ)
    → set_of (slice_index_or sums h []) ≡ sum_over xs (λ x q. meets K f p h q x)
