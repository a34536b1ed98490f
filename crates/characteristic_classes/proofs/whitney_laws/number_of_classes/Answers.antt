use Rattle.characteristic_classes.proofs.WhitneyLaws.{number-other}
use Rattle.characteristic_classes.proofs.whitney_laws.number_of_classes.Goals as goal

pub returns : goal.returns
returns c = number-other
