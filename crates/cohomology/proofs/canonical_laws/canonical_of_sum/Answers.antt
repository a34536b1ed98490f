use Rattle.homology.specs.Contractions.{cycle_of}
use Rattle.factors.proofs.Existence.{contraction-exists}
use Rattle.cohomology.proofs.ClassLaws.{canonical-sum}
use Rattle.cohomology.proofs.canonical_laws.canonical_of_sum.Goals as goal

pub returns : goal.returns
returns c = λ K ok p. let H = contraction-exists K ok in canonical-sum K ok H.f (cycle_of K H.phi) H.phi H.is p
