use Rattle.characteristic_classes.proofs.PairingLaws.{pairing-count, pairing-row, row-width, row-entry, row-beyond}
use Rattle.characteristic_classes.proofs.pairing_laws.entries_of_pairing.Goals as goal

pub returns : goal.returns
returns c = record { count = pairing-count; row = pairing-row; width = row-width; entry = row-entry; beyond = row-beyond }
