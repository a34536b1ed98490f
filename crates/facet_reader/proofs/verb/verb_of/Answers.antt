use Rattle.std.proofs.Common.{◌∙◌, rules, tests}
use Rattle.std.proofs.lemmas.Iterator.{YieldsList-from_slice}
use Rattle.std.proofs.lemmas.Iterator.Search.{find_from_yields_List}
use Rattle.homology.specs.Simplices.{same_list}
use Rattle.language.specs.Verbs.{verb_text}
use Rattle.language.specs.Grammar.{verb_form}
use Rattle.language.specs.declared.verb.TheConstants.{VERBS}
use Rattle.facet_reader.proofs.FormLaws.{found-has}
use Rattle.facet_reader.proofs.verb.verb_of.Goals as goal

pub returns : goal.returns
returns c =
    let found = find_from_yields_List (λ v. same_list c.args.word.now (verb_text v)) _ _ c.find.result c.find.ensures.ran (YieldsList-from_slice VERBS (cc)) (λ x b q k. search (rules, tests)) in
    found-has verb_text verb_form VERBS c.args.word.now _ (c.copied.ensures ∙ found)
