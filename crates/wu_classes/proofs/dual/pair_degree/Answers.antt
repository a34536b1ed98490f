use Rattle.std.proofs.Common.{[]}
use Rattle.elimination.specs.Rows.{Given}
use Rattle.wu_classes.proofs.dual.pair_degree.Goals as goal

no_rows : Given
no_rows = record { width = 0; rows = [] }

pub pairing-requires-clause-earlier : goal.pairing-requires-clause-earlier
pairing-requires-clause-earlier c = λ q lt. (c.requires.earlier q no_rows lt).free
