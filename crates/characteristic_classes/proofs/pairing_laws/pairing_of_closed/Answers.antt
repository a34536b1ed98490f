use Rattle.characteristic_classes.proofs.PairingLaws.{pair-turned, pair-classes}
use Rattle.characteristic_classes.proofs.pairing_laws.pairing_of_closed.Goals as goal

pub returns : goal.returns
returns c = record { symmetric = pair-turned; classes = pair-classes }
