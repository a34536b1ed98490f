use Rattle.homology.specs.Contractions.{cycle_of}
use Rattle.factors.proofs.Existence.{contraction-exists}
use Rattle.cohomology.proofs.ClassLaws.{class-same, class-differ, class-zero, class-bounds}
use Rattle.cohomology.proofs.class_laws.same_class.Goals as goal

pub returns : goal.returns
returns c = record {
  same = λ K ok p a b A B. let H = contraction-exists K ok in (class-differ K ok H.f (cycle_of K H.phi) H.phi H.is p a b A B, class-same K ok H.f (cycle_of K H.phi) H.phi H.is p a b A B);
  zero = λ K ok p a A. let H = contraction-exists K ok in (class-bounds K ok H.f (cycle_of K H.phi) H.phi H.is p a A, class-zero K ok H.f (cycle_of K H.phi) H.phi H.is p a A);
}
