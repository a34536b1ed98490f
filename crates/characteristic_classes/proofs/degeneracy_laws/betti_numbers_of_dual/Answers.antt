use Rattle.characteristic_classes.proofs.BettiLaws.{betti-few, betti-same}
use Rattle.characteristic_classes.proofs.degeneracy_laws.betti_numbers_of_dual.Goals as goal

pub returns : goal.returns
returns c = record { few = betti-few; same = betti-same }
