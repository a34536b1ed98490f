use Rattle.std.proofs.Common.{◌==◌, rules, tests}
use Rattle.std.proofs.lemmas.Iterator.Consumers.{YieldsList-at}
use Rattle.std.proofs.lemmas.Iterator.Search.{all_from_yields_List}
use Rattle.std.proofs.lemmas.Iterator.Splits.{YieldsList-from_slice_split}
use Rattle.std.proofs.lemmas.Iterator.Adapters.{YieldsList-from_skip}
use Rattle.language.specs.Brackets.{is_blank}
use Rattle.facet_reader.proofs.brackets.all_blank.Goals as goal

pub returns : goal.returns
returns c =
    all_from_yields_List is_blank _ _ _ c.all.ensures.ran
    (YieldsList-from_skip c.args.count (YieldsList-at c.skip.ensures.source (YieldsList-from_slice_split _ (λ x. x == 93) c.args.list.now c.split.ensures.rest c.split.ensures.done c.split.ensures.closure (λ x r q k. search (rules, tests)))) c.skip.ensures.count)
    (λ x r q k. search (rules, tests))
