-- The terms of a product by pairs.
--     pair_of K i s w     the simplices at which two lists of vertices count in a cup-i product: those along which their walk passes
--     pair_at K i y z     the same of two simplices of K
-- Source: N. E. Steenrod, Products of cocycles and extensions of mappings, 1947.
use Rattle.std.specs.Prelude.{ℕ, suc, true, List}
use Rattle.homology.specs.Sets.{Ids}
use Rattle.homology.specs.Complexes.{Complex, simplex_at}
use Rattle.products.specs.Splittings.{walks}

abbrev pub pair_of : Complex → ℕ → List ℕ → List ℕ → Ids
pair_of K i s w = λ x. walks (suc i) true s w (simplex_at K x)

abbrev pub pair_at : Complex → ℕ → ℕ → ℕ → Ids
pair_at K i y z = pair_of K i (simplex_at K y) (simplex_at K z)
