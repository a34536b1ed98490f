use Rattle.std.proofs.Common.{Ok, Err, sym, ap, ◌∙◌, rules}
use Rattle.characteristic_classes.specs.WuClasses.{Sum, stiefel_whitney_number}
use Rattle.wu_classes.specs.Refusals.{NumberRefuses}
use Rattle.wu_classes.specs.declared.refusal.NumberRefusal.TheVariants as number
use Rattle.wu_classes.proofs.Refusing.{number-refuses, number-value, number-sum}
use Rattle.wu_classes.proofs.numbers.sw_number.Goals as goal

pub returns-in_err-dual-clause-refused : goal.returns-in_err-dual-clause-refused
returns-in_err-dual-clause-refused c =
    let K = c.args.version.now in
    let r = c.in_err-dual.field-0.0 in
    let refused : NumberRefuses (stiefel_whitney_number K c.args.parts.now) (number.Wu r) = number-refuses K c.args.parts.now r c.in_err-dual.ensures.refused in
    search rules

pub returns-then-sum-from-clause-refused : goal.returns-then-sum-from-clause-refused
returns-then-sum-from-clause-refused c =
    let K = c.args.version.now in
    let parts = c.args.parts.now in
    let D = c.in_ok-dual.ensures.dual in
    number-sum K parts c.in_ok-dual.dual.dim D.top.closed D.none
    (λ same. c.if-sum-from.true (c.total-sum.ensures ∙ same ∙ D.top.top ∙ sym c.from.ensures))
    ∙ (λ i. Err (Sum (sym c.total-sum.ensures i) (D.top.top i)))

pub returns-clause-number : goal.returns-clause-number
returns-clause-number c =
    let K = c.args.version.now in
    let parts = c.args.parts.now in
    let D = c.in_ok-dual.ensures.dual in
    number-value K parts c.in_ok-dual.dual.dim D.top.closed D.none
    (sym c.total-sum.ensures ∙ c.if-sum-from.false ∙ c.from.ensures ∙ sym D.top.top)
    ∙ ap Ok (sym c.in_ok-number.ensures)
