-- The cap product of a cochain and a chain.
--     cap K p a c     for each member [v_0 .. v_n] of c with the value one of a at [v_0 .. v_p], the simplex [v_p .. v_n] is added;
--                     a is a cochain of degree p
-- Source: cap products, Munkres, Elements of Algebraic Topology, section 66, over two elements. Which of the two faces goes into
-- the cochain is a convention: here the front face, so that a stands on the left in the cup product of which this is the transpose.
use Rattle.std.specs.Prelude.{ℕ, ◌+◌, ◌&&◌, length, take, drop}
use Rattle.homology.specs.Parity.{odd}
use Rattle.homology.specs.Sets.{Ids}
use Rattle.homology.specs.Simplices.{same_list}
use Rattle.homology.specs.Complexes.{Complex, simplex_at}
use Rattle.products.specs.Products.{value_at}

unfoldable pub cap : Complex → ℕ → Ids → Ids → Ids
cap K p a c = λ x.
    odd (length K) (λ t. c t && (value_at K a (take (p + 1) (simplex_at K t)) && same_list (drop p (simplex_at K t)) (simplex_at K x)))
