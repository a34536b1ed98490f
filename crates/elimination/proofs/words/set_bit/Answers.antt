use Rattle.std.proofs.Common.{refl}
use Rattle.elimination.proofs.BitLaws.{bit-set}
use Rattle.elimination.proofs.words.set_bit.Goals as goal

pub returns : goal.returns
returns c = bit-set c.args.words.now _ c.args.place c.requires refl
