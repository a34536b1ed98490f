use Rattle.std.proofs.Common.{Ok, sym, ap, ◌∙◌, subst, rules}
use Rattle.characteristic_classes.specs.Pairings.{duality, pairings}
use Rattle.wu_classes.specs.Refusals.{WuRefuses}
use Rattle.wu_classes.proofs.Refusing.{duality-is, dual-refuses, dual-value}
use Rattle.wu_classes.proofs.pairing.duality.Goals as goal

pub returns-in_err-dual-clause-refused : goal.returns-in_err-dual-clause-refused
returns-in_err-dual-clause-refused c =
    let K = c.args.version.now in
    let r = c.in_err-dual.field-0.0 in
    let refused : WuRefuses (duality K) r =
    subst (λ v. WuRefuses v r) (sym (duality-is K)) (dual-refuses K (pairings K) r c.in_err-dual.ensures.refused) in
    search rules

pub returns-clause-rows : goal.returns-clause-rows
returns-clause-rows c =
    let K = c.args.version.now in
    let D = c.in_ok-dual.ensures.dual in
    duality-is K ∙ dual-value K (pairings K) c.in_ok-dual.dual.dim D.top.closed D.none ∙ ap Ok (sym c.in_ok-pairing.ensures)
