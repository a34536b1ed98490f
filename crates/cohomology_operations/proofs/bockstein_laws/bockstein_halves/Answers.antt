use Rattle.cohomology_operations.proofs.BocksteinLaws.{faces-even}
use Rattle.cohomology_operations.proofs.bockstein_laws.bockstein_halves.Goals as goal

pub returns : goal.returns
returns c = faces-even
