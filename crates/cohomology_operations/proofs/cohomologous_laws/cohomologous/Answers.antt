use Rattle.cohomology_operations.proofs.CohomologousLaws.{cohomologous-apart, cohomologous-sound, cohomologous-found, first-difference}
use Rattle.cohomology_operations.proofs.cohomologous_laws.cohomologous.Goals as goal

pub returns-clause-cohomologous : goal.returns-clause-cohomologous
returns-clause-cohomologous c = λ K ok p a b A B. (cohomologous-sound K ok p p a b A B, cohomologous-found K ok p a b)

pub returns-clause-degrees : goal.returns-clause-degrees
returns-clause-degrees c = cohomologous-apart

pub returns-clause-differs : goal.returns-clause-differs
returns-clause-differs c = λ K ok p a b A B why e. let D = first-difference K ok p a b A B why e in (D.number, D.is, D.below, D.there, D.before)
