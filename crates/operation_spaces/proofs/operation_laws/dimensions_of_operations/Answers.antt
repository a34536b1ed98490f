use Rattle.operation_spaces.proofs.SpaceLaws.{dimensions-add}
use Rattle.operation_spaces.proofs.operation_laws.dimensions_of_operations.Goals as goal

pub returns : goal.returns
returns c = dimensions-add
