use Rattle.std.proofs.Common.{◌==◌, ◌∙◌, ap, sym, rules, tests}
use Rattle.std.specs.List.{list_all}
use Rattle.std.proofs.lemmas.Iterator.Search.{all_from_yields_List}
use Rattle.std.proofs.lemmas.Iterator.Splits.{YieldsList-from_slice_split}
use Rattle.language.specs.Arguments.{has_shape}
use Rattle.facet_reader.proofs.Passes.{listed_some, all_of_none}
use Rattle.facet_reader.proofs.simplex_list.all_shaped.Goals as goal

pub returns-then-is_empty : goal.returns-then-is_empty
returns-then-is_empty c = all_of_none has_shape c.args.list.now (search (rules, tests))

pub returns : goal.returns
returns c =
    all_from_yields_List has_shape _ _ _ c.all.ensures.ran
    (YieldsList-from_slice_split _ (λ x. x == 44) c.args.list.now c.split.ensures.rest c.split.ensures.done c.split.ensures.closure (λ x r q k. search (rules, tests)))
    (λ x r q k. search (rules, tests))
    ∙ ap (list_all has_shape) (sym (listed_some c.args.list.now (search (rules, tests))))
