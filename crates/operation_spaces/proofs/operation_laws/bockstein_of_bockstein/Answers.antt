use Rattle.operation_spaces.proofs.DoubleBockstein.{bockstein-twice}
use Rattle.operation_spaces.proofs.SpaceLaws.{class-twice}
use Rattle.operation_spaces.proofs.operation_laws.bockstein_of_bockstein.Goals as goal

pub returns : goal.returns
returns c = record { coboundary = bockstein-twice; class = class-twice }
