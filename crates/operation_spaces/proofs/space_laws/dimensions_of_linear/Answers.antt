use Rattle.operation_spaces.proofs.RankLaws.{rank}
use Rattle.operation_spaces.proofs.space_laws.dimensions_of_linear.Goals as goal

pub returns : goal.returns
returns c = rank
