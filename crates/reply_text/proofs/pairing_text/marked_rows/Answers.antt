use Rattle.std.proofs.lemmas.Result.{err_from_is_err_and}
use Rattle.reply_text.proofs.Fronts.{BeginsWith-trans}
use Rattle.reply_text.proofs.pairing_text.marked_rows.Goals as goal

pub returns-in_err-row-clause-kept : goal.returns-in_err-row-clause-kept
returns-in_err-row-clause-kept c =
    let answer = err_from_is_err_and c.from_residual-in_err-row.result c.from_residual-in_err-row.ensures.1 in
    let to_mark = BeginsWith-trans _ _ c.extend_from_slice.new.self.items (_, c.loop-bits.invariant) (_, c.in_ok-extend_from_slice.ensures.items) in
    rw (answer.1) (BeginsWith-trans _ _ _ to_mark c.in_err-row.ensures.kept)
