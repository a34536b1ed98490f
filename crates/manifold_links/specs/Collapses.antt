-- Collapses around a simplex x: of its open star, which stands for the simplices of its link.
--     is_above K x y          whether the simplex with id x is a face of that with id y, and another
--     is_gone f ps y          whether y is f, or in one of the pairs ps
--     IsFree K x f ps a b     a is over x, and a face of codimension one of b, which is not gone; any other simplex with this face is gone
--     IsCollapse K x f ps     each of the pairs ps, the last of which stands first, is free when those behind it are gone
--     IsPoint K x f ps v      v is a coface of x, and every other simplex over x is gone
-- Beside the pairs f alone is taken away: a simplex over x of the greatest dimension, or, where f is no id, nothing.
-- Source: J. H. C. Whitehead, Simplicial spaces, nuclei and m-groups (1939), for elementary collapses; R. Forman, Morse theory for cell
-- complexes (1998), for those of what one cell leaves.
use Rattle.std.specs.Prelude.{◌≡◌, ℕ, ◌<◌, Bool, true, false, ◌&&◌, ◌||◌, List, [], ◌∷◌, length, nat_eq, nat_lt}
use Rattle.homology.specs.Complexes.{Complex, incidence, simplex_at}
use Rattle.manifolds.specs.Closed.{lies_in}

abbrev pub is_above : Complex → ℕ → ℕ → Bool
is_above K x y = nat_lt (length (simplex_at K x)) (length (simplex_at K y)) && lies_in (simplex_at K x) (simplex_at K y)

abbrev pub is_gone : ℕ → List (ℕ × ℕ) → ℕ → Bool
is_gone f [] y = nat_eq y f
is_gone f (pair ∷ ps) y = nat_eq y pair.0 || (nat_eq y pair.1 || is_gone f ps y)

pub record IsFree (K : Complex) (x f : ℕ) (ps : List (ℕ × ℕ)) (a b : ℕ) : Type 0 where
  pub there : a < length K
  pub above : is_above K x a ≡ true
  pub below : b < length K
  pub face : incidence K a b ≡ true
  pub left : is_gone f ps b ≡ false
  pub alone : (t : ℕ) → t < length K → incidence K a t ≡ true → nat_eq t b ≡ false → is_gone f ps t ≡ true

abbrev pub IsCollapse : Complex → ℕ → ℕ → List (ℕ × ℕ) → Type 0
IsCollapse K x f [] = Unit {0}
IsCollapse K x f (pair ∷ ps) = IsFree K x f ps pair.0 pair.1 × IsCollapse K x f ps

pub record IsPoint (K : Complex) (x f : ℕ) (ps : List (ℕ × ℕ)) (v : ℕ) : Type 0 where
  pub below : v < length K
  pub coface : incidence K x v ≡ true
  pub others : (y : ℕ) → y < length K → is_above K x y ≡ true → nat_eq y v ≡ false → is_gone f ps y ≡ true
