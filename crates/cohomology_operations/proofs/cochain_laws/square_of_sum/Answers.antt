use Rattle.cohomology_operations.proofs.ChangeLaws.{square-sum}
use Rattle.cohomology_operations.proofs.cochain_laws.square_of_sum.Goals as goal

pub returns : goal.returns
returns c = square-sum
