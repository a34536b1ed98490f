use Rattle.std.proofs.Common.{◌<◌, ◌||◌, nat_eq, ap, ◌∙◌, length, refl, arith}
use Rattle.elimination.specs.Rows.{entry}
use Rattle.elimination.specs.Bits.{bit}
use Rattle.elimination.proofs.BitLaws.{width-row, word-within, given-bit}
use Rattle.elimination.proofs.row.Row.set.Goals as goal

pub set_bit-requires : goal.set_bit-requires
set_bit-requires c =
    let n = c.self.inside.width in
    let ws = c.self.inside.words.items in
    let lt : c.args.place < n = omega (arith, c.requires, width-row n ws c.args.self.now c.self.view_is) in
    word-within n c.args.place (length c.deref_mut.result.now) lt (ap length c.deref_mut.ensures.value ∙ c.self.invariant)

pub returns-clause-set : goal.returns-clause-set
returns-clause-set c =
    let n = c.self.inside.width in
    let ws = c.self.inside.words.items in
    let p = c.args.place in
    let lt : p < n = omega (arith, c.requires, width-row n ws c.args.self.now c.self.view_is) in
    λ q.
    given-bit n c.self.inside.words.len ws c.set_bit.new.words _ p lt c.self.inside.words.ok.0
    (c.set_bit.auto.words ∙ ap length c.deref_mut.ensures.value) refl
    (λ t. c.set_bit.ensures t ∙ ap (λ l. nat_eq t p || bit l t) c.deref_mut.ensures.value) q
    ∙ ap (λ r. nat_eq q p || entry r q) c.self.view_is
