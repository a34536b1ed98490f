use Rattle.std.proofs.lemmas.Result.{err_from_is_err_and}
use Rattle.language.specs.declared.fault.FaultKind.TheVariants.{Word}
use Rattle.language.specs.Grammar.{sames, verb_form}
use Rattle.facet_reader.proofs.FormLaws.{chosen-form, chosen-none, chosen-missing}
use Rattle.facet_reader.proofs.question.same.Goals as goal

pub returns-in_err-word : goal.returns-in_err-word
returns-in_err-word c =
    let p = err_from_is_err_and c.from_residual.result c.from_residual.ensures.1 in
    rw (p.1, p.2, c.in_err-word.ensures.word.1) (chosen-missing Word sames c.args.words.now c.in_err-word.ensures.word.0)

pub returns-in-Some : goal.returns-in-Some
returns-in-Some c =
    rw (chosen-form Word sames c.args.words.now c.word.new.self (record { column = c.in_ok-word.word.column; bytes = c.in_ok-word.word.bytes.now }) (verb_form c.in-Some.verb) c.in_ok-word.ensures.word c.in_ok-word.ensures.line c.in-Some.ensures) c.question.ensures

pub returns-in-None : goal.returns-in-None
returns-in-None c =
    rw c.bad.ensures (chosen-none Word sames c.args.words.now (record { column = c.in_ok-word.word.column; bytes = c.in_ok-word.word.bytes.now }) c.word.new.self.words c.in_ok-word.ensures.word c.in-None.ensures)
