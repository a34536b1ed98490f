use Rattle.operation_spaces.proofs.SpaceLaws.{value-linear}
use Rattle.operation_spaces.proofs.operation_laws.operations_are_linear.Goals as goal

pub returns : goal.returns
returns c = value-linear
