use Rattle.std.proofs.Common.{rules, tests}
use Rattle.language.specs.Arguments.{caller_word}
use Rattle.facet_reader.proofs.PlaceLaws.{one-taken, refuses_bad}
use Rattle.facet_reader.proofs.words.Words.caller.Goals as goal

pub returns-in-Ok : goal.returns-in-Ok
returns-in-Ok c =
    (search (rules, tests), one-taken caller_word c.args.self.now c.word.new.self (record { column = c.in_ok-word.word.column; bytes = c.in_ok-word.word.bytes.now }) c.in-Ok.caller c.in_ok-word.ensures.word c.in_ok-word.ensures.line c.in-Ok.ensures)

pub returns-in-Err : goal.returns-in-Err
returns-in-Err c =
    (search (rules, tests), refuses_bad caller_word c.args.self.now (record { column = c.in_ok-word.word.column; bytes = c.in_ok-word.word.bytes.now }) c.word.new.self.words c.in-Err.kind c.bad.result c.in_ok-word.ensures.word c.in-Err.ensures c.bad.ensures)
