use Rattle.std.proofs.Common.{arith}
use Rattle.std.proofs.lemmas.Grind.{common_steps}
use Rattle.reply_text.proofs.Joins.{simplex_text-first}
use Rattle.reply_text.proofs.simplex_text.simplex.Goals as goal

pub returns-clause-text : goal.returns-clause-text
returns-clause-text c =
    let parts = simplex_text-first _ _ _ c.in-Some.ensures.cases.0 in grind (arith, common_steps)
