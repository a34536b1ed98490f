use Rattle.characteristic_classes.proofs.PairingLaws.{pair-left, pair-right, pair-terms}
use Rattle.characteristic_classes.proofs.pairing_laws.pairing_of_words.Goals as goal

pub returns : goal.returns
returns c = record { first = pair-left; second = pair-right; entries = pair-terms }
