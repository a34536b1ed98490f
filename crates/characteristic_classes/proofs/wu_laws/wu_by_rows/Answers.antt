use Rattle.characteristic_classes.proofs.WuLaws.{rows-wu, wu-rows}
use Rattle.characteristic_classes.proofs.wu_laws.wu_by_rows.Goals as goal

pub returns : goal.returns
returns c = λ K ok n shut k le v V. (wu-rows K ok n shut k le v V, rows-wu K ok n shut k le v V)
