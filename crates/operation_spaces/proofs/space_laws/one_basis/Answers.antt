use Rattle.operation_spaces.proofs.BasisLaws.{basis-found, basis-one}
use Rattle.operation_spaces.proofs.space_laws.one_basis.Goals as goal

pub returns : goal.returns
returns c = record { found = basis-found; one = basis-one }
