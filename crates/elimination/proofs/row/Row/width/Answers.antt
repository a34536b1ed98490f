use Rattle.elimination.proofs.BitLaws.{width-row}
use Rattle.elimination.proofs.row.Row.width.Goals as goal

pub returns : goal.returns
returns c = width-row c.self.inside.width c.self.inside.words.items c.args.self.now c.self.view_is
