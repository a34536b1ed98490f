use Rattle.std.proofs.lemmas.Result.{err_from_is_err_and}
use Rattle.answers.proofs.Settling.{graded-stops}
use Rattle.answers.proofs.words.sum_of_classes.Goals as goal

pub returns-in_err-a-clause-word : goal.returns-in_err-a-clause-word
returns-in_err-a-clause-word c =
    let p = err_from_is_err_and c.from_residual.result c.from_residual.ensures.1 in
    let refused = rw (c.get.ensures.value) at c.in_err-a.ensures.refused in
    rw (p.1) (graded-stops c.args.degree _ _ p.0 refused p.2)
