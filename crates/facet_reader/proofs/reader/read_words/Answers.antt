use Rattle.std.proofs.Common.{◌∙◌, rules, tests}
use Rattle.std.proofs.lemmas.Result.{err_from_is_err_and}
use Rattle.facet_reader.proofs.ReadingLaws.{request-blank, request-comment, request-facet, request-worded}
use Rattle.facet_reader.proofs.reader.read_words.Goals as goal

pub returns-in_default : goal.returns-in_default
returns-in_default c = request-blank c.args.words.now (search (rules, tests))

pub returns-then-begins_comment : goal.returns-then-begins_comment
returns-then-begins_comment c = request-comment c.args.words.now c.in-Some.first (search (rules, tests)) (search (rules, tests))

pub returns-in_err-facet : goal.returns-in_err-facet
returns-in_err-facet c =
    let p = err_from_is_err_and c.from_residual.result c.from_residual.ensures.1 in
    rw (p.1, p.2, request-facet c.args.words.now c.in-Some.first (search (rules, tests)) (search (rules, tests)) (search (rules, tests)) (search (rules, tests))) c.in_err-facet.ensures

pub returns-then-is_digit : goal.returns-then-is_digit
returns-then-is_digit c =
    request-facet c.args.words.now c.in-Some.first (search (rules, tests)) (search (rules, tests)) (search (rules, tests)) (search (rules, tests))
    ∙ c.in_ok-facet.ensures

pub returns : goal.returns
returns c =
    rw (request-worded c.args.words.now c.in-Some.first (search (rules, tests)) (search (rules, tests)) (search (rules, tests)) (search (rules, tests))) c.worded.ensures
