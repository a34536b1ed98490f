use Rattle.cohomology_operations.proofs.ChangeLaws.{cup-exchanged}
use Rattle.cohomology_operations.proofs.cochain_laws.product_exchanged.Goals as goal

pub returns : goal.returns
returns c = cup-exchanged
