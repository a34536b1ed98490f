use Rattle.cohomology_operations.proofs.CohomologousLaws.{products-zero, squares-zero, bocksteins-zero}
use Rattle.cohomology_operations.proofs.cohomologous_laws.results_of_cohomologous_cocycles.Goals as goal

pub returns : goal.returns
returns c = record { product = products-zero; square = squares-zero; bockstein = bocksteins-zero }
