use Rattle.std.proofs.Common.{sym, ◌∙◌, rules, tests}
use Rattle.facet_reader.specs.Meanings.{signs_meant}
use Rattle.facet_reader.proofs.Bodies.{no_colon}
use Rattle.facet_reader.proofs.graded.graded_word.Goals as goal

pub returns-then-colon-word : goal.returns-then-colon-word
returns-then-colon-word c =
    no_colon (signs_meant c.args.signs.now) c.args.word.now (search (rules, tests)) (sym c.colon-colon.ensures.place ∙ c.if-colon-word.true)
