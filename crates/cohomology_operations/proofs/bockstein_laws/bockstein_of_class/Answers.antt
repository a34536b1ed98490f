use Rattle.cohomology_operations.proofs.BocksteinLaws.{bockstein-cocycle, bockstein-cohomologous, bockstein-class, bockstein-sum}
use Rattle.cohomology_operations.proofs.bockstein_laws.bockstein_of_class.Goals as goal

pub returns : goal.returns
returns c = record {
  cocycle = bockstein-cocycle;
  cohomologous = bockstein-cohomologous;
  class = bockstein-class;
  sum = bockstein-sum;
}
