use Rattle.characteristic_classes.proofs.PairingLaws.{pair-row, pair-row_of}
use Rattle.characteristic_classes.proofs.pairing_laws.row_by_contraction.Goals as goal

pub returns : goal.returns
returns c = record { row = pair-row; of_chain = pair-row_of }
