use Rattle.cohomology_operations.proofs.SquareLaws.{square-zero, square-degree, square-beyond, square-chain}
use Rattle.cohomology_operations.proofs.square_laws.squares_by_degree.Goals as goal

pub returns : goal.returns
returns c = record { zero = square-zero; degree = square-degree; beyond = square-beyond; chain = square-chain }
