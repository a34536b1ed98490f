-- Sums over splittings, vertex by vertex.
--     split_sum k A B s     the sum over the splittings of s with k shared vertices, the single ones before the first shared one
--                           going to the first list, of A at the first list times B at the second
--     after A u             A at the lists that begin with u, by what follows u
--     beyond K side u       the values of the factor of a side at the lists that begin with u
--     IsSide K side n       the side has a factor, and its face is a simplex of as many vertices as the degree of the factor asks
--                           for and its surplus more, n at least
-- Source: N. E. Steenrod, Products of cocycles and extensions of mappings, 1947.
use Rattle.std.specs.Prelude.{◌≡◌, ℕ, ◌+◌, ◌<◌, ◌≤◌, Bool, true, ◌&&◌, List, ◌++◌, length}
use Rattle.homology.specs.Complexes.{Complex, simplex_at}
use Rattle.cochain_values.specs.Marks.{marked}
use Rattle.products.specs.Products.{odd_of, value_at}
use Rattle.products.specs.Splittings.{splittings}
use Rattle.cup_i.specs.Factors.{IsFactor}
use Rattle.cup_i.specs.declared.splitting.Side.{Side}

unfoldable pub split_sum : ℕ → (List ℕ → Bool) → (List ℕ → Bool) → List ℕ → Bool
split_sum k A B s = odd_of (splittings k true s) (λ p. A p.0 && B p.1)

abbrev pub after : (List ℕ → Bool) → List ℕ → List ℕ → Bool
after A u = λ p. A (u ++ p)

abbrev pub beyond : Complex → Side → List ℕ → List ℕ → Bool
beyond K side u = after (value_at K (marked side.factor.now.marks.items)) u

pub record IsSide (K : Complex) (side : Side) (n : ℕ) : Type 0 where
  pub factor : IsFactor K side.factor.now
  pub there : side.face < length K
  pub width : length (simplex_at K side.face) ≡ side.factor.now.degree + 1 + side.surplus
  pub ends : n ≤ length (simplex_at K side.face)
