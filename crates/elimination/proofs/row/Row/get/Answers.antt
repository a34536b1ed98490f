use Rattle.std.proofs.Common.{◌<◌, sym, ap, ◌∙◌, length, arith}
use Rattle.elimination.specs.Rows.{entry}
use Rattle.elimination.specs.Bits.{bit}
use Rattle.elimination.proofs.BitLaws.{width-row, word-within, entry-row_of}
use Rattle.elimination.proofs.row.Row.get.Goals as goal

pub bit-requires : goal.bit-requires
bit-requires c =
    let n = c.self.inside.width in
    let ws = c.self.inside.words.items in
    let lt : c.args.place < n = omega (arith, c.requires, width-row n ws c.args.self.now c.self.view_is) in
    word-within n c.args.place (length c.deref.result.now) lt (ap length c.deref.ensures.value ∙ c.self.invariant)

pub returns : goal.returns
returns c =
    let n = c.self.inside.width in
    let ws = c.self.inside.words.items in
    let q = c.args.place in
    let lt : q < n = omega (arith, c.requires, width-row n ws c.args.self.now c.self.view_is) in
    c.bit.ensures ∙ ap (λ l. bit l q) c.deref.ensures.value ∙ sym (entry-row_of n ws q lt) ∙ ap (λ r. entry r q) c.self.view_is
