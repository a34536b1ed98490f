use Rattle.characteristic_classes.proofs.DegeneracyLaws.{degenerate-places, places-degenerate}
use Rattle.characteristic_classes.proofs.degeneracy_laws.degenerate_by_sum_of_rows.Goals as goal

pub returns : goal.returns
returns c = λ K ok p v V. (degenerate-places K ok p v V, places-degenerate K ok p v V)
