-- The terms of a cap product.
--     back_of K p a t     the back face of t, from its vertex p on, where the value of the cochain a at its front face with p + 1
--                         vertices is one; and empty elsewhere
-- Source: cap products, Munkres, Elements of Algebraic Topology, section 66.
use Rattle.std.specs.Prelude.{ℕ, ◌+◌, ◌&&◌, take, drop}
use Rattle.homology.specs.Sets.{Ids}
use Rattle.homology.specs.Simplices.{same_list}
use Rattle.homology.specs.Complexes.{Complex, simplex_at}
use Rattle.products.specs.Products.{value_at}

abbrev pub back_of : Complex → ℕ → Ids → ℕ → Ids
back_of K p a t = λ x. value_at K a (take (p + 1) (simplex_at K t)) && same_list (drop p (simplex_at K t)) (simplex_at K x)
