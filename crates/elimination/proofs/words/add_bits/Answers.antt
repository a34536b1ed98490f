use Rattle.std.proofs.Common.{arith}
use Rattle.elimination.proofs.BitLaws.{bit-xor, words-done}
use Rattle.elimination.proofs.words.add_bits.Goals as goal

pub returns : goal.returns
returns c =
    let ws = c.args.words.now in
    let us = c.args.others.now in
    bit-xor ws us c.loop-i.words (words-done ws us c.loop-i.words c.loop-i.i (omega arith) c.requires c.loop-i.invariant.done c.loop-i.invariant.rest)
