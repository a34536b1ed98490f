use Rattle.std.proofs.Common.{arith}
use Rattle.std.proofs.lemmas.Grind.{common_steps}
use Rattle.reply_text.proofs.Joins.{classes_text-first}
use Rattle.reply_text.proofs.class_text.classes.Goals as goal

pub returns-in_ok-number-in-Some-clause-text : goal.returns-in_ok-number-in-Some-clause-text
returns-in_ok-number-in-Some-clause-text c =
    let parts = classes_text-first _ _ _ c.in-Some.ensures.cases.0 in grind (arith, common_steps)
