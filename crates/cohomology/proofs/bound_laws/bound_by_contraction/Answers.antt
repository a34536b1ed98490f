use Rattle.cohomology.proofs.BoundLaws.{bound-values}
use Rattle.cohomology.proofs.bound_laws.bound_by_contraction.Goals as goal

pub returns : goal.returns
returns c = bound-values
