use Rattle.std.proofs.Common.{ℕ, add-one, sym, subst}
use Rattle.std.specs.List.Sorted.{IsStrictlyIncreasing}
use Rattle.homology.specs.Sets.{Ids, set_of}
use Rattle.homology.specs.Complexes.{Complex}
use Rattle.homology.specs.Chains.{IsChain, IsCoboundary}
use Rattle.homology.specs.Contractions.{cycle_of}
use Rattle.factors.proofs.Existence.{contraction-exists}
use Rattle.cohomology.specs.Classes.{IsCanonicalBound, canonical_bound}
use Rattle.cohomology.proofs.BoundLaws.{bound-found, bound-one, canonical_bound-zero}
use Rattle.cohomology.proofs.bound_laws.one_bound.Goals as goal

-- the search in degree q finds the bound of degree p
abbrev Found : Complex → ℕ → Ids → ℕ → Type 0
Found K p e q =
    IsChain K q e → IsCoboundary K q e
    → IsCanonicalBound K p e (set_of (canonical_bound K q e)) × IsStrictlyIncreasing (canonical_bound K q e)

pub returns : goal.returns
returns c = record {
  found = λ K ok p e.
      let H = contraction-exists K ok in
      subst (Found K p e) (sym (add-one p)) (bound-found K ok H.f (cycle_of K H.phi) H.phi H.is p e);
  one = bound-one;
  zero = canonical_bound-zero;
}
