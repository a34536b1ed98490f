use Rattle.std.proofs.Common.{arith}
use Rattle.std.proofs.lemmas.Grind.{common_steps}
use Rattle.reply_text.proofs.Joins.{simplices_text-first}
use Rattle.reply_text.proofs.simplex_text.joined_simplices.Goals as goal

pub returns-in_ok-simplex-in-Some-clause-text : goal.returns-in_ok-simplex-in-Some-clause-text
returns-in_ok-simplex-in-Some-clause-text c =
    let parts = simplices_text-first _ _ _ c.in-Some.ensures.cases.0 in grind (arith, common_steps)
