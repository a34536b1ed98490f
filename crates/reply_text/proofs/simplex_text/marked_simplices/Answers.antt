use Rattle.std.proofs.lemmas.Result.{err_from_is_err_and}
use Rattle.reply_text.proofs.Fronts.{BeginsWith-trans}
use Rattle.reply_text.proofs.simplex_text.marked_simplices.Goals as goal

pub returns-in_err-simplex-clause-kept : goal.returns-in_err-simplex-clause-kept
returns-in_err-simplex-clause-kept c =
    let answer = err_from_is_err_and c.from_residual-in_err-simplex.result c.from_residual-in_err-simplex.ensures.1 in
    let to_mark = BeginsWith-trans _ _ c.push.new.self.items (_, c.loop-s.invariant) (_, c.in_ok-push.ensures.items) in
    rw (answer.1) (BeginsWith-trans _ _ _ to_mark c.in_err-simplex.ensures.kept)
