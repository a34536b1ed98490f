use Rattle.std.proofs.Common.{arith}
use Rattle.std.proofs.lemmas.Grind.{common_steps}
use Rattle.reply_text.proofs.Joins.{rows_text-first}
use Rattle.reply_text.proofs.pairing_text.joined_rows.Goals as goal

pub returns-in_ok-row-in-Some-clause-text : goal.returns-in_ok-row-in-Some-clause-text
returns-in_ok-row-in-Some-clause-text c =
    let parts = rows_text-first _ _ _ c.in-Some.ensures.cases.0 in grind (arith, common_steps)
