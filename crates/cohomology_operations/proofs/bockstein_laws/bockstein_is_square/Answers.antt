use Rattle.cohomology_operations.proofs.BocksteinLaws.{bockstein-square, bockstein-zero}
use Rattle.cohomology_operations.proofs.bockstein_laws.bockstein_is_square.Goals as goal

pub returns : goal.returns
returns c = record { square = bockstein-square; degree_zero = bockstein-zero }
