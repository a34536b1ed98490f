use Rattle.operation_spaces.proofs.SpaceLaws.{kernel-space, image-space, decomposable-space}
use Rattle.operation_spaces.proofs.operation_laws.spaces_of_operations.Goals as goal

pub returns : goal.returns
returns c = record { kernel = kernel-space; image = image-space; decomposable = decomposable-space }
