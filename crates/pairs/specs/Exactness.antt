-- What the maps of the exact sequence of a pair reach, up to coboundaries: K a complex, A a part of it.
--     ComesFromWhole K A p a     some cocycle of K restricts to one that differs from the cocycle a of A by a coboundary of A
--     ComesFromPair K A p z      some relative cocycle differs from the cocycle z of K by a coboundary of K
--     ComesFromPart K A p r      the connecting cochain of some cocycle of A of degree p differs from the relative cocycle r, of degree p + 1,
--                                by a relative coboundary
-- Source: the exact cohomology sequence of a pair, Munkres, Elements of Algebraic Topology, section 43.
use Rattle.std.specs.Prelude.{ℕ, suc}
use Rattle.homology.specs.Sets.{Ids, plus}
use Rattle.homology.specs.Complexes.{Complex}
use Rattle.homology.specs.Chains.{IsCocycle, IsCoboundary}
use Rattle.pairs.specs.Pairs.{moved, IsRelativeCocycle, IsRelativeCoboundary}
use Rattle.pairs.specs.Sequences.{connecting_cochain}

pub record ComesFromWhole (K A : Complex) (p : ℕ) (a : Ids) : Type 0 where
  pub whole : Ids
  pub cocycle : IsCocycle K p whole
  pub same : IsCoboundary A p (plus a (moved K A whole))

pub record ComesFromPair (K A : Complex) (p : ℕ) (z : Ids) : Type 0 where
  pub relative : Ids
  pub cocycle : IsRelativeCocycle K A p relative
  pub same : IsCoboundary K p (plus z relative)

pub record ComesFromPart (K A : Complex) (p : ℕ) (r : Ids) : Type 0 where
  pub part : Ids
  pub cocycle : IsCocycle A p part
  pub same : IsRelativeCoboundary K A (suc p) (plus r (connecting_cochain K A part))
