use Rattle.characteristic_classes.proofs.DegeneracyLaws.{same-greatest}
use Rattle.characteristic_classes.proofs.degeneracy_laws.one_degenerate.Goals as goal

pub returns : goal.returns
returns c = same-greatest
