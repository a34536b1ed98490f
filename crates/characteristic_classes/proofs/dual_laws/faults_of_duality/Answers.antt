use Rattle.characteristic_classes.proofs.DualLaws.{dual-told, dual-not_closed, dual-degenerate}
use Rattle.characteristic_classes.proofs.dual_laws.faults_of_duality.Goals as goal

pub returns : goal.returns
returns c = record {
  not_closed = λ K why. dual-not_closed {A = Unit {0}} K why tt;
  degenerate = λ K n p w. dual-degenerate {A = Unit {0}} K n p w tt;
  none = λ K n. dual-told {A = Unit {0}} K n tt;
}
