use Rattle.cohomology_operations.proofs.ChangeLaws.{product-changes}
use Rattle.cohomology_operations.proofs.cochain_laws.product_of_changes.Goals as goal

pub returns : goal.returns
returns c = product-changes
