use Rattle.characteristic_classes.proofs.DegeneracyLaws.{degenerate-row, row-degenerate}
use Rattle.characteristic_classes.proofs.degeneracy_laws.degenerate_by_rows.Goals as goal

pub returns : goal.returns
returns c = λ K ok p v V. (degenerate-row K ok p v V, row-degenerate K ok p v V)
