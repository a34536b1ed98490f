use Rattle.std.proofs.lemmas.Result.{err_from_is_err_and}
use Rattle.reply_text.proofs.Fronts.{BeginsWith-trans}
use Rattle.reply_text.proofs.pairing_text.row.Goals as goal

pub returns-in_err-bit-clause-kept : goal.returns-in_err-bit-clause-kept
returns-in_err-bit-clause-kept c =
    let answer = err_from_is_err_and c.from_residual.result c.from_residual.ensures.1 in
    rw (answer.1) (BeginsWith-trans _ _ _ (_, c.loop-value.invariant) c.in_err-bit.ensures.kept)
