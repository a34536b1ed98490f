use Rattle.std.proofs.Common.{◌≡◌, ◌==◌, false, Ok, length, map, ap, ◌∙◌, sym, subst, rules, tests}
use Rattle.std.specs.List.{list_all}
use Rattle.std.proofs.lemmas.Iterator.Consumers.{YieldsList-turn, YieldsList-end}
use Rattle.std.proofs.lemmas.Iterator.Splits.{YieldsList-from_slice_split}
use Rattle.std.proofs.lemmas.List.Folds.{list_all_at}
use Rattle.language.specs.Arguments.{has_shape, has_numbers, is_narrow, parts, in_order, vertices}
use Rattle.facet_reader.specs.Lists.{is_simple}
use Rattle.facet_reader.proofs.Passes.{listed_some, passes_at, made_simple, made_not}
use Rattle.facet_reader.proofs.simplex_list.simplices_of.Goals as goal

pub simplex_of-requires-clause-shape : goal.simplex_of-requires-clause-shape
simplex_of-requires-clause-shape c =
    let turn = YieldsList-turn (YieldsList-from_slice_split _ (λ x. x == 44) c.args.list.now (cc) (cc) (cc) (λ x r q k. search (rules, tests))) c.loop-word.yielded _ c.loop-word.yielded_by _ _ c.in-Some.word c.in-Some.is c.next.ensures.steps in
    passes_at has_shape (parts 44 c.args.list.now) _ _ (ap (list_all has_shape) (sym (listed_some c.args.list.now (search (rules, tests)))) ∙ c.requires.shape) turn

pub simplex_of-requires-clause-numbers : goal.simplex_of-requires-clause-numbers
simplex_of-requires-clause-numbers c =
    let turn = YieldsList-turn (YieldsList-from_slice_split _ (λ x. x == 44) c.args.list.now (cc) (cc) (cc) (λ x r q k. search (rules, tests))) c.loop-word.yielded _ c.loop-word.yielded_by _ _ c.in-Some.word c.in-Some.is c.next.ensures.steps in
    passes_at has_numbers (parts 44 c.args.list.now) _ _ (ap (list_all has_numbers) (sym (listed_some c.args.list.now (search (rules, tests)))) ∙ c.requires.numbers) turn

pub simplex_of-requires-clause-narrow : goal.simplex_of-requires-clause-narrow
simplex_of-requires-clause-narrow c =
    let turn = YieldsList-turn (YieldsList-from_slice_split _ (λ x. x == 44) c.args.list.now (cc) (cc) (cc) (λ x r q k. search (rules, tests))) c.loop-word.yielded _ c.loop-word.yielded_by _ _ c.in-Some.word c.in-Some.is c.next.ensures.steps in
    passes_at is_narrow (parts 44 c.args.list.now) _ _ (ap (list_all is_narrow) (sym (listed_some c.args.list.now (search (rules, tests)))) ∙ c.requires.narrow) turn

pub returns-in-None-simplex_of : goal.returns-in-None-simplex_of
returns-in-None-simplex_of c =
    let turn = YieldsList-turn (YieldsList-from_slice_split _ (λ x. x == 44) c.args.list.now (cc) (cc) (cc) (λ x r q k. search (rules, tests))) c.loop-word.yielded _ c.loop-word.yielded_by _ _ c.in-Some.word c.in-Some.is c.next.ensures.steps in
    made_not c.args.list.now (ap (list_all is_simple) (listed_some c.args.list.now (search (rules, tests))) ∙ list_all_at is_simple (parts 44 c.args.list.now) (length c.loop-word.yielded) c.in-Some.word.now turn.0 (subst (λ s. is_simple s ≡ false) turn.1 c.in-None-simplex_of.ensures))

pub returns : goal.returns
returns c =
    let whole = YieldsList-end (YieldsList-from_slice_split _ (λ x. x == 44) c.args.list.now (cc) (cc) (cc) (λ x r q k. search (rules, tests))) c.loop-word.yielded _ c.loop-word.yielded_by _ _ c.in-None.is c.next.ensures.steps in
    let all = whole.0 ∙ sym (listed_some c.args.list.now (search (rules, tests))) in
    made_simple c.args.list.now (ap (list_all is_simple) (sym all) ∙ c.loop-word.invariant.simple) ∙ ap Ok (ap (map (λ s. in_order (vertices s))) (sym all) ∙ sym c.loop-word.invariant.made)
