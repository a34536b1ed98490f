use Rattle.std.proofs.Common.{length, sym, ap, ◌∙◌, eqb-true}
use Rattle.homology.specs.Sets.{set_of}
use Rattle.wu_classes.proofs.Zeros.{none-empty, zero-square}
use Rattle.wu_classes.proofs.whitney.has_no_square.Goals as goal

pub returns-then-is_empty : goal.returns-then-is_empty
returns-then-is_empty c = λ t K.
    let a = c.args.a.now in
    let ids = c.ids.result.now in
    zero-square K c.args.k a.degree (set_of a.ids)
    (ap set_of (sym (c.ids.ensures.ids ∙ c.support.ensures)) ∙ none-empty ids (eqb-true (length ids) 0 (sym c.is_empty.ensures ∙ t)))
