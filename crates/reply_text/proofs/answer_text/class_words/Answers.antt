-- Each class with its degree is the class of its word.
use Rattle.std.proofs.Common.{arith}
use Rattle.std.proofs.lemmas.Grind.{common_steps}
use Rattle.std.proofs.lemmas.List.Folds.{flat_map-map}
use Rattle.std.proofs.lemmas.Result.{err_from_is_err_and}
use Rattle.reply_text.proofs.Fronts.{BeginsWith-trans}
use Rattle.reply_text.proofs.answer_text.class_words.Goals as goal

pub returns-clause-text : goal.returns-clause-text
returns-clause-text c = grind (arith, common_steps, flat_map-map)

pub returns-in_err-class_word-clause-kept : goal.returns-in_err-class_word-clause-kept
returns-in_err-class_word-clause-kept c =
    let answer = err_from_is_err_and c.from_residual.result c.from_residual.ensures.1 in
    rw (answer.1) (BeginsWith-trans _ _ _ (_, c.loop-word.invariant) c.in_err-class_word.ensures.kept)
