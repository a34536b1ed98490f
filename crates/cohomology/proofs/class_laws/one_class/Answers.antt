use Rattle.homology.specs.Contractions.{cycle_of}
use Rattle.factors.proofs.Existence.{contraction-exists}
use Rattle.cohomology.proofs.ClassLaws.{class-found, class-one, class_of-canonical}
use Rattle.cohomology.proofs.class_laws.one_class.Goals as goal

pub returns : goal.returns
returns c = record {
  found = λ K ok p. let H = contraction-exists K ok in class-found K ok H.f (cycle_of K H.phi) H.phi H.is p;
  one = λ K ok p. let H = contraction-exists K ok in class-one K ok H.f (cycle_of K H.phi) H.phi H.is p;
  canonical = λ K ok p. let H = contraction-exists K ok in class_of-canonical K ok H.f (cycle_of K H.phi) H.phi H.is p;
}
