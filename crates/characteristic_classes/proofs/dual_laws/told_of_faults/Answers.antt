use Rattle.characteristic_classes.proofs.DualLaws.{duality-refuses, wu-refuses, whitney-refuses, number-refuses}
use Rattle.characteristic_classes.proofs.dual_laws.told_of_faults.Goals as goal

pub returns : goal.returns
returns c = record { duality = duality-refuses; wu = wu-refuses; whitney = whitney-refuses; number = number-refuses }
