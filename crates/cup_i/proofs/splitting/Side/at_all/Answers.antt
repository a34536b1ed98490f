use Rattle.std.proofs.Common.{sym, ◌∙◌, arith}
use Rattle.homology.specs.Complexes.{simplex_at}
use Rattle.homology.proofs.ParityLaws.{nat_eq-apart}
use Rattle.cochain_values.specs.Marks.{marked}
use Rattle.products.proofs.ValueLaws.{value_at-there}
use Rattle.cup_i.proofs.FactorLaws.{value-other}
use Rattle.cup_i.proofs.splitting.Side.at_all.Goals as goal

pub returns-then-self-eq0 : goal.returns-then-self-eq0
returns-then-self-eq0 c =
    let side = c.args.self.now in
    c.at.ensures ∙ sym (value_at-there c.args.k.now c.requires.factor.complex (marked side.factor.now.marks.items) side.face c.requires.there)

pub returns-else-self-eq0 : goal.returns-else-self-eq0
returns-else-self-eq0 c =
    let K = c.args.k.now in
    let side = c.args.self.now in
    nat_eq-apart side.surplus 0 c.if-self-eq0.false
    ∙ sym (value-other K c.requires.factor.complex side.factor.now.degree (marked side.factor.now.marks.items) c.requires.factor.cochain (simplex_at K side.face)
    (λ e. c.if-self-eq0.false (omega (arith, e, c.requires.width))))
