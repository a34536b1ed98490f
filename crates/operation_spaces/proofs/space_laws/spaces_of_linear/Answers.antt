use Rattle.operation_spaces.proofs.RankLaws.{kernel-subspace, image-subspace}
use Rattle.operation_spaces.proofs.space_laws.spaces_of_linear.Goals as goal

pub returns : goal.returns
returns c = record { kernel = kernel-subspace; image = image-subspace }
