use Rattle.std.proofs.lemmas.Result.{err_from_is_err_and}
use Rattle.language.specs.Arguments.{number_word}
use Rattle.facet_reader.proofs.PlaceLaws.{one-taken, refuses_missing, refuses_bad}
use Rattle.facet_reader.proofs.words.Words.number.Goals as goal

pub returns-in_err-word-clause-value : goal.returns-in_err-word-clause-value
returns-in_err-word-clause-value c =
    let p = err_from_is_err_and c.from_residual.result c.from_residual.ensures.1 in
    rw (p.1, p.2) (refuses_missing (number_word c.args.low c.args.high) c.args.self.now _ c.in_err-word.ensures.word)

pub returns-in-Ok-clause-value : goal.returns-in-Ok-clause-value
returns-in-Ok-clause-value c =
    one-taken (number_word c.args.low c.args.high) c.args.self.now c.word.new.self (record { column = c.in_ok-word.word.column; bytes = c.in_ok-word.word.bytes.now }) c.in-Ok.number c.in_ok-word.ensures.word c.in_ok-word.ensures.line c.in-Ok.ensures.value

pub returns-in-Err-clause-value : goal.returns-in-Err-clause-value
returns-in-Err-clause-value c =
    refuses_bad (number_word c.args.low c.args.high) c.args.self.now (record { column = c.in_ok-word.word.column; bytes = c.in_ok-word.word.bytes.now }) c.word.new.self.words c.in-Err.kind c.bad.result c.in_ok-word.ensures.word c.in-Err.ensures.value c.bad.ensures
