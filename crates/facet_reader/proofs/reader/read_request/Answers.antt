use Rattle.std.proofs.Common.{◌∙◌}
use Rattle.std.proofs.lemmas.Result.{err_from_is_err_and}
use Rattle.facet_reader.specs.Meanings.{request_meant}
use Rattle.language.specs.Grammar.{reading}
use Rattle.facet_reader.proofs.ReadingLaws.{reading-then, reading-refused, asked-refused, asked-made, told}
use Rattle.facet_reader.proofs.reader.read_request.Goals as goal

pub returns-in_err-caller-clause-bad : goal.returns-in_err-caller-clause-bad
returns-in_err-caller-clause-bad c = λ b is.
    let p = err_from_is_err_and c.from_residual.result c.from_residual.ensures.1 in
    told (reading c.args.line.now) _ b (reading-refused c.args.line.now c.of-words.result _ c.of-words.ensures.line c.of-words.ensures.words c.in_err-caller.ensures) (cc (p.1, p.2))

pub returns-in_err-request-clause-bad : goal.returns-in_err-request-clause-bad
returns-in_err-request-clause-bad c = λ b is.
    let p = err_from_is_err_and c.from_residual-in_err-request.result c.from_residual-in_err-request.ensures.1 in
    reading-then c.args.line.now c.of-words.result c.caller.new.self c.in_ok-caller.caller c.of-words.ensures.line c.of-words.ensures.words c.in_ok-caller.ensures
    ∙ told _ _ b (asked-refused c.in_ok-caller.caller c.caller.new.self _ c.in_err-request.ensures) (cc (p.1, p.2))

pub returns-clause-asked : goal.returns-clause-asked
returns-clause-asked c =
    reading-then c.args.line.now c.of-words.result c.caller.new.self c.in_ok-caller.caller c.of-words.ensures.line c.of-words.ensures.words c.in_ok-caller.ensures
    ∙ asked-made c.in_ok-caller.caller c.caller.new.self (request_meant c.in_ok-request.request) c.in_ok-request.ensures
