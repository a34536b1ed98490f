use Rattle.std.proofs.lemmas.Result.{err_from_is_err_and}
use Rattle.language.specs.Arguments.{chain_word}
use Rattle.facet_reader.specs.Meanings.{chain_meant}
use Rattle.facet_reader.proofs.PlaceLaws.{one-taken, refuses_missing, refuses_word}
use Rattle.facet_reader.proofs.words.Words.chain.Goals as goal

pub returns-in_err-word : goal.returns-in_err-word
returns-in_err-word c =
    let p = err_from_is_err_and c.from_residual.result c.from_residual.ensures.1 in
    rw (p.1, p.2) (refuses_missing chain_word c.args.self.now _ c.in_err-word.ensures.word)

pub returns-in-Ok : goal.returns-in-Ok
returns-in-Ok c =
    one-taken chain_word c.args.self.now c.word.new.self (record { column = c.in_ok-word.word.column; bytes = c.in_ok-word.word.bytes.now }) (chain_meant c.in-Ok.chain) c.in_ok-word.ensures.word c.in_ok-word.ensures.line c.in-Ok.ensures

pub returns-in-Err : goal.returns-in-Err
returns-in-Err c =
    refuses_word chain_word c.args.self.now (record { column = c.in_ok-word.word.column; bytes = c.in_ok-word.word.bytes.now }) c.word.new.self.words c.in-Err.refusal c.refused.result c.in_ok-word.ensures.word c.in-Err.ensures c.refused.ensures
