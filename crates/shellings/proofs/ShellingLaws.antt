-- Refusals in their order.
use Rattle.std.proofs.Common.{◌≡◌, ℕ, true, false, List}
use Rattle.std.specs.Prelude.{Some}
use Rattle.homology.specs.Complexes.{Complex}
use Rattle.homology.specs.Growth.{is_there}
use Rattle.manifolds.specs.Links.{link, degrees_left}
use Rattle.shellings.specs.Shellings.{NotThere, fault, shelling}

-- what is not there is told first
pub shelling-absent : (K : Complex) (s : List ℕ) (F : List (List ℕ)) → is_there K s ≡ false → shelling K s F ≡ Some (NotThere s)
unfolding shelling
shelling-absent K s F e = rw e

-- of a simplex that is there the list alone decides
pub shelling-present :
    (K : Complex) (s : List ℕ) (F : List (List ℕ)) → is_there K s ≡ true
    → shelling K s F ≡ fault (link K s) (degrees_left K s) F
unfolding shelling
shelling-present K s F e = rw e
