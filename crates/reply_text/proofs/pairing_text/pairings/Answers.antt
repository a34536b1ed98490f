use Rattle.std.proofs.lemmas.Result.{err_from_is_err_and}
use Rattle.reply_text.proofs.Fronts.{BeginsWith-trans}
use Rattle.reply_text.proofs.Joins.{pairings-appended}
use Rattle.reply_text.proofs.pairing_text.pairings.Goals as goal

pub loop-degree-preserved : goal.loop-degree-preserved
loop-degree-preserved c =
    let one = rw c.as_slice.ensures.value at c.in_ok-pairing.ensures.text in
    pairings-appended c.args.out.now.items c.loop-degree.out.items c.pairing.new.out.items c.args.pairings.now c.loop-degree.degree c.index-pairings-degree.result
    c.loop-degree-test.true c.index-pairings-degree.is c.loop-degree.invariant one

pub returns-in_err-pairing-clause-kept : goal.returns-in_err-pairing-clause-kept
returns-in_err-pairing-clause-kept c =
    let answer = err_from_is_err_and c.from_residual.result c.from_residual.ensures.1 in
    rw (answer.1) (BeginsWith-trans _ _ _ (_, c.loop-degree.invariant) c.in_err-pairing.ensures.kept)
