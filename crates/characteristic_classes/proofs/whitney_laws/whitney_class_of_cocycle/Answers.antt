use Rattle.characteristic_classes.proofs.WhitneyLaws.{whitney-cocycle, whitney-word}
use Rattle.characteristic_classes.proofs.whitney_laws.whitney_class_of_cocycle.Goals as goal

pub returns : goal.returns
returns c = record { cocycle = whitney-cocycle; word = whitney-word }
