use Rattle.std.proofs.Common.{sym, ap, ◌∙◌, length, refl}
use Rattle.std.specs.Int.{div_ceil}
use Rattle.homology.specs.Parity.{xor}
use Rattle.homology.specs.Sets.{plus}
use Rattle.elimination.specs.Rows.{entry}
use Rattle.elimination.specs.Bits.{bit}
use Rattle.elimination.proofs.BitLaws.{same-width, given-plus}
use Rattle.elimination.proofs.row.Row.add.Goals as goal

pub add_bits-requires : goal.add_bits-requires
add_bits-requires c =
    let ws = c.self.inside.words.items in
    let us = c.other.inside.words.items in
    ap length c.deref_mut.ensures.value
    ∙ c.self.invariant
    ∙ ap (λ n. div_ceil n 64)
    (same-width c.self.inside.width c.other.inside.width ws us c.args.self.now c.args.other.now c.self.view_is c.other.view_is c.requires)
    ∙ sym c.other.invariant
    ∙ sym (ap length c.deref.ensures.value)

pub returns-clause-sum : goal.returns-clause-sum
returns-clause-sum c =
    let ws = c.self.inside.words.items in
    let us = c.other.inside.words.items in
    given-plus c.self.inside.width c.other.inside.width c.self.inside.words.len ws us c.add_bits.new.words _
    (same-width c.self.inside.width c.other.inside.width ws us c.args.self.now c.args.other.now c.self.view_is c.other.view_is c.requires)
    c.self.inside.words.ok.0 (c.add_bits.auto.words ∙ ap length c.deref_mut.ensures.value) refl
    (λ q. c.add_bits.ensures q ∙ (λ i. xor (bit (c.deref_mut.ensures.value i) q) (bit (c.deref.ensures.value i) q)))
    ∙ (λ i. plus (entry (c.self.view_is i)) (entry (c.other.view_is i)))
