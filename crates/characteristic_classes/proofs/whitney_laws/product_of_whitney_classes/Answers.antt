use Rattle.characteristic_classes.proofs.WhitneyLaws.{product-cocycle}
use Rattle.characteristic_classes.proofs.whitney_laws.product_of_whitney_classes.Goals as goal

pub returns : goal.returns
returns c = product-cocycle
