use Rattle.characteristic_classes.proofs.DegeneracyLaws.{none-degenerate, degenerate-none}
use Rattle.characteristic_classes.proofs.degeneracy_laws.no_degenerate.Goals as goal

pub returns : goal.returns
returns c = record { none = none-degenerate; each = degenerate-none }
