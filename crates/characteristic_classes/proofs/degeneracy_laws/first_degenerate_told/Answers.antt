use Rattle.characteristic_classes.proofs.DegeneracyLaws.{first-told}
use Rattle.characteristic_classes.proofs.degeneracy_laws.first_degenerate_told.Goals as goal

pub returns : goal.returns
returns c = first-told
