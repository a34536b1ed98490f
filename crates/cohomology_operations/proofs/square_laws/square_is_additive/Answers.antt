use Rattle.cohomology_operations.proofs.SquareLaws.{square-additive}
use Rattle.cohomology_operations.proofs.square_laws.square_is_additive.Goals as goal

pub returns : goal.returns
returns c = square-additive
