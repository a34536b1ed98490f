use Rattle.cohomology_operations.proofs.ChangeLaws.{square-change}
use Rattle.cohomology_operations.proofs.cochain_laws.square_of_change.Goals as goal

pub returns : goal.returns
returns c = square-change
