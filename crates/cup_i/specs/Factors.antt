-- The factors of a product.
--     IsFactor K f      f has the marks of a cochain of K of its degree
use Rattle.std.specs.Prelude.{◌≡◌, length}
use Rattle.homology.specs.Complexes.{Complex, IsComplex}
use Rattle.homology.specs.Chains.{IsChain}
use Rattle.cochain_values.specs.Marks.{marked}
use Rattle.cup_i.specs.declared.factor.Factor.{Factor}

pub record IsFactor (K : Complex) (f : Factor) : Type 0 where
  pub complex : IsComplex K
  pub cochain : IsChain K f.degree (marked f.marks.items)
  pub fits : length f.marks.items ≡ length K
