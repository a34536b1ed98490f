use Rattle.cohomology.proofs.ClassLaws.{class_of-list, class_of-bound}
use Rattle.cohomology.proofs.class_laws.class_by_contraction.Goals as goal

pub returns : goal.returns
returns c = record { class = class_of-list; bound = class_of-bound }
