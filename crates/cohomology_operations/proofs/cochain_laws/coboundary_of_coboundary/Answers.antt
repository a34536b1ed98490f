use Rattle.cohomology_operations.proofs.ChangeLaws.{coboundary-coboundary, cocycle-closed}
use Rattle.cohomology_operations.proofs.cochain_laws.coboundary_of_coboundary.Goals as goal

pub returns-clause-twice : goal.returns-clause-twice
returns-clause-twice c = coboundary-coboundary

pub returns-clause-of_cocycle : goal.returns-clause-of_cocycle
returns-clause-of_cocycle c = λ K ok p a A. cocycle-closed K p a A
