use Rattle.cohomology_operations.proofs.SquareLaws.{square-cocycle, square-cohomologous, square-class}
use Rattle.cohomology_operations.proofs.square_laws.square_of_class.Goals as goal

pub returns : goal.returns
returns c = record { cocycle = square-cocycle; cohomologous = square-cohomologous; class = square-class }
