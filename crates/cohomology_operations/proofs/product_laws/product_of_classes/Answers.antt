use Rattle.cohomology_operations.proofs.ClassLaws.{product-cocycle, product-cohomologous, product-class}
use Rattle.cohomology_operations.proofs.product_laws.product_of_classes.Goals as goal

pub returns : goal.returns
returns c = record { cocycle = product-cocycle; cohomologous = product-cohomologous; class = product-class }
