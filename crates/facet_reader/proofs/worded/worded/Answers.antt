use Rattle.std.proofs.Common.{rules, tests}
use Rattle.std.proofs.lemmas.Result.{err_from_is_err_and}
use Rattle.language.specs.declared.fault.FaultKind.TheVariants.{Request, Word}
use Rattle.language.specs.Grammar.{chosen, requests, sames, step_form, verb_form}
use Rattle.facet_reader.proofs.FormLaws.{chosen-form, chosen-none, chosen-missing, request-step, request-question, request-same, request-unknown}
use Rattle.facet_reader.proofs.worded.worded.Goals as goal

pub returns-in_err-word : goal.returns-in_err-word
returns-in_err-word c =
    let p = err_from_is_err_and c.from_residual.result c.from_residual.ensures.1 in
    rw (p.1, p.2, c.in_err-word.ensures.word.1) (chosen-missing Request requests c.args.words.now c.in_err-word.ensures.word.0)

pub returns-in-Some : goal.returns-in-Some
returns-in-Some c =
    let has = request-step c.in_ok-word.word.bytes.now (step_form c.in-Some.kind) c.in-Some.ensures in
    rw (chosen-form Request requests c.args.words.now c.word.new.self (record { column = c.in_ok-word.word.column; bytes = c.in_ok-word.word.bytes.now }) (step_form c.in-Some.kind) c.in_ok-word.ensures.word c.in_ok-word.ensures.line has) c.step.ensures

pub returns-in_err-question : goal.returns-in_err-question
returns-in_err-question c =
    let p = err_from_is_err_and c.from_residual-in_err-question.result c.from_residual-in_err-question.ensures.1 in
    let no_step = rw c.in_default.is at c.step_of.ensures in
    let has = request-question c.in_ok-word.word.bytes.now (verb_form c.in-Some-verb_of.verb) no_step c.in-Some-verb_of.ensures in
    rw (p.1, p.2, chosen-form Request requests c.args.words.now c.word.new.self (record { column = c.in_ok-word.word.column; bytes = c.in_ok-word.word.bytes.now }) (verb_form c.in-Some-verb_of.verb) c.in_ok-word.ensures.word c.in_ok-word.ensures.line has) c.in_err-question.ensures

pub returns-in-Some-verb_of : goal.returns-in-Some-verb_of
returns-in-Some-verb_of c =
    let no_step = rw c.in_default.is at c.step_of.ensures in
    let has = request-question c.in_ok-word.word.bytes.now (verb_form c.in-Some-verb_of.verb) no_step c.in-Some-verb_of.ensures in
    rw (chosen-form Request requests c.args.words.now c.word.new.self (record { column = c.in_ok-word.word.column; bytes = c.in_ok-word.word.bytes.now }) (verb_form c.in-Some-verb_of.verb) c.in_ok-word.ensures.word c.in_ok-word.ensures.line has) c.in_ok-question.ensures

pub returns-in_err-question-2 : goal.returns-in_err-question-2
returns-in_err-question-2 c =
    let p = err_from_is_err_and c.from_residual-in_err-question-2.result c.from_residual-in_err-question-2.ensures.1 in
    let no_step = rw c.in_default.is at c.step_of.ensures in
    let no_question = rw c.in_default-verb_of.is at c.verb_of.ensures in
    let has = request-same c.in_ok-word.word.bytes.now no_step no_question (search (rules, tests)) in
    rw (p.1, p.2, chosen-form Request requests c.args.words.now c.word.new.self (record { column = c.in_ok-word.word.column; bytes = c.in_ok-word.word.bytes.now }) (chosen Word sames) c.in_ok-word.ensures.word c.in_ok-word.ensures.line has) c.in_err-question-2.ensures

pub returns-then-is_same : goal.returns-then-is_same
returns-then-is_same c =
    let no_step = rw c.in_default.is at c.step_of.ensures in
    let no_question = rw c.in_default-verb_of.is at c.verb_of.ensures in
    let has = request-same c.in_ok-word.word.bytes.now no_step no_question (search (rules, tests)) in
    rw (chosen-form Request requests c.args.words.now c.word.new.self (record { column = c.in_ok-word.word.column; bytes = c.in_ok-word.word.bytes.now }) (chosen Word sames) c.in_ok-word.ensures.word c.in_ok-word.ensures.line has) c.in_ok-question-2.ensures

pub returns : goal.returns
returns c =
    let no_step = rw c.in_default.is at c.step_of.ensures in
    let no_question = rw c.in_default-verb_of.is at c.verb_of.ensures in
    let lacks = request-unknown c.in_ok-word.word.bytes.now no_step no_question (search (rules, tests)) in
    rw c.bad.ensures (chosen-none Request requests c.args.words.now (record { column = c.in_ok-word.word.column; bytes = c.in_ok-word.word.bytes.now }) c.word.new.self.words c.in_ok-word.ensures.word lacks)
