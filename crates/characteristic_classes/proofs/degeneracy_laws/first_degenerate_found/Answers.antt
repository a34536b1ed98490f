use Rattle.characteristic_classes.proofs.DegeneracyLaws.{first-found}
use Rattle.characteristic_classes.proofs.degeneracy_laws.first_degenerate_found.Goals as goal

pub returns : goal.returns
returns c = first-found
