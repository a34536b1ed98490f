use Rattle.std.proofs.Common.{◌==◌, map, drop, ap, ◌∙◌, rules, tests}
use Rattle.std.proofs.lemmas.Iterator.Consumers.{YieldsList-turn, YieldsList-end}
use Rattle.std.proofs.lemmas.Iterator.Splits.{YieldsList-from_slice_split}
use Rattle.language.specs.Arguments.{is_short, value, parts}
use Rattle.facet_reader.specs.Lists.{is_behind}
use Rattle.facet_reader.proofs.Passes.{passes_at}
use Rattle.facet_reader.proofs.item_list.numbers_of.Goals as goal

pub item_value-requires-clause-run : goal.item_value-requires-clause-run
item_value-requires-clause-run c =
    let turn = YieldsList-turn (YieldsList-from_slice_split _ (λ x. x == 43) c.args.list.now (cc) (cc) (cc) (λ x r q k. search (rules, tests))) c.loop-word.yielded _ c.loop-word.yielded_by _ _ c.in-Some.word c.in-Some.is c.next.ensures.steps in
    passes_at is_behind (parts 43 c.args.list.now) _ _ c.requires.runs turn

pub item_value-requires-clause-short : goal.item_value-requires-clause-short
item_value-requires-clause-short c =
    let turn = YieldsList-turn (YieldsList-from_slice_split _ (λ x. x == 43) c.args.list.now (cc) (cc) (cc) (λ x r q k. search (rules, tests))) c.loop-word.yielded _ c.loop-word.yielded_by _ _ c.in-Some.word c.in-Some.is c.next.ensures.steps in
    passes_at (λ w. is_short (drop 1 w)) (parts 43 c.args.list.now) _ _ c.requires.short turn

pub returns : goal.returns
returns c =
    let whole = YieldsList-end (YieldsList-from_slice_split _ (λ x. x == 43) c.args.list.now (cc) (cc) (cc) (λ x r q k. search (rules, tests))) c.loop-word.yielded _ c.loop-word.yielded_by _ _ c.in-None.is c.next.ensures.steps in
    c.loop-word.invariant ∙ ap (map (λ w. value (drop 1 w))) whole.0
