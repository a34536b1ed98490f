use Rattle.homology.specs.Contractions.{cycle_of}
use Rattle.factors.proofs.Existence.{contraction-exists}
use Rattle.cohomology.proofs.Canonicals.{canonical-found, canonical-one}
use Rattle.cohomology.proofs.canonical_laws.one_canonical.Goals as goal

pub returns : goal.returns
returns c = record {
  found = λ K ok p w W. let H = contraction-exists K ok in canonical-found K ok H.f (cycle_of K H.phi) H.phi H.is p w W;
  one = canonical-one;
}
