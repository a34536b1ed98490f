use Rattle.characteristic_classes.proofs.PairingLaws.{top-products}
use Rattle.characteristic_classes.proofs.SquareLaws.{top-squares, top-square_class}
use Rattle.characteristic_classes.proofs.top_laws.values_of_operations.Goals as goal

pub returns : goal.returns
returns c = record { product = top-products; square = top-squares; class = top-square_class }
