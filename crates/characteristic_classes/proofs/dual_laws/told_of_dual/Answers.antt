use Rattle.characteristic_classes.proofs.DualLaws.{duality-told, wu-told, whitney-told, number-told, number-off}
use Rattle.characteristic_classes.proofs.dual_laws.told_of_dual.Goals as goal

pub returns : goal.returns
returns c = record { duality = duality-told; wu = wu-told; whitney = whitney-told; number = number-told; sum = number-off }
