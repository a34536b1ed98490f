use Rattle.std.proofs.Common.{◌∙◌, rules, tests}
use Rattle.std.proofs.lemmas.Iterator.{YieldsList-from_slice}
use Rattle.std.proofs.lemmas.Iterator.Search.{find_from_yields_List}
use Rattle.homology.specs.Simplices.{same_list}
use Rattle.language.specs.Verbs.{step_text}
use Rattle.language.specs.Grammar.{step_form}
use Rattle.language.specs.declared.step.TheConstants.{STEPS}
use Rattle.facet_reader.proofs.FormLaws.{found-has}
use Rattle.facet_reader.proofs.step.step_of.Goals as goal

pub returns : goal.returns
returns c =
    let found = find_from_yields_List (λ v. same_list c.args.word.now (step_text v)) _ _ c.find.result c.find.ensures.ran (YieldsList-from_slice STEPS (cc)) (λ x b q k. search (rules, tests)) in
    found-has step_text step_form STEPS c.args.word.now _ (c.copied.ensures ∙ found)
