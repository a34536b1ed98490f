use Rattle.characteristic_classes.proofs.PairingLaws.{one-word, word-cocycle, cocycle-terms}
use Rattle.characteristic_classes.proofs.pairing_laws.cocycle_of_word.Goals as goal

pub returns : goal.returns
returns c = record { one = one-word; cocycle = word-cocycle; terms = cocycle-terms }
