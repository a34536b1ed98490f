use Rattle.std.proofs.Common.{ap}
use Rattle.std.proofs.lemmas.Result.{err_from_is_err_and}
use Rattle.transcript.specs.Words.{with_degree}
use Rattle.answers.proofs.Settling.{graded-stops}
use Rattle.answers.proofs.words.chain.Goals as goal

pub returns-in_err-chain-in-Cycles-clause-word : goal.returns-in_err-chain-in-Cycles-clause-word
returns-in_err-chain-in-Cycles-clause-word c =
    let p = err_from_is_err_and c.from_residual-in_err-chain-in-Cycles.result c.from_residual-in_err-chain-in-Cycles.ensures.1 in
    let refused = rw (c.model.ensures, c.get-in-Cycles.ensures.value, c.items-in-Cycles.ensures) at c.in_err-chain-in-Cycles.ensures.refused in
    rw (p.1, c.in-Cycles.is) (graded-stops c.in-Cycles.degree _ _ p.0 refused p.2)

pub returns-in_ok-chain-in-Cycles-clause-word : goal.returns-in_ok-chain-in-Cycles-clause-word
returns-in_ok-chain-in-Cycles-clause-word c =
    let sum = rw (c.model.ensures, c.get-in-Cycles.ensures.value, c.items-in-Cycles.ensures) at c.in_ok-chain-in-Cycles.ensures.sum in
    rw (c.in-Cycles.is, c.get-in-Cycles-2.ensures.value) (ap (with_degree c.in-Cycles.degree) sum)
