use Rattle.std.proofs.Common.{length, sym, ap, ◌∙◌, eqb-true}
use Rattle.homology.specs.Sets.{set_of}
use Rattle.wu_classes.proofs.Zeros.{none-empty, zero-class}
use Rattle.wu_classes.proofs.whitney.word_of.Goals as goal

pub returns-then-is_empty-clause-word : goal.returns-then-is_empty-clause-word
returns-then-is_empty-clause-word c =
    let a = c.args.a.now in
    let ids = c.ids.result.now in
    c.new-numbers.ensures.items
    ∙ sym
    (zero-class c.args.m.now c.complex-complex.ensures.complex a.degree (set_of a.ids)
    (ap set_of (sym (c.ids.ensures.ids ∙ c.support.ensures)) ∙ none-empty ids (eqb-true (length ids) 0 (sym c.is_empty.ensures ∙ c.if-is_empty.true))))
