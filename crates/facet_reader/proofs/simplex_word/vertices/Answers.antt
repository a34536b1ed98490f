use Rattle.std.proofs.Common.{◌≡◌, ◌<◌, ◌≤◌, ◌==◌, length, map, get_or, arith, rules, tests, ap, ◌∙◌}
use Rattle.std.proofs.lemmas.Bool.Decides.{nat_tests}
use Rattle.std.proofs.lemmas.Iterator.Consumers.{YieldsList-turn, YieldsList-end}
use Rattle.std.proofs.lemmas.Iterator.Splits.{YieldsList-from_slice_split}
use Rattle.std.proofs.lemmas.List.{length-map}
use Rattle.language.specs.Arguments.{vertex_runs, is_run, is_short, value, most}
use Rattle.facet_reader.proofs.Passes.{passes_at, digits_of_run}
use Rattle.facet_reader.proofs.simplex_word.vertices.Goals as goal

-- the runs of the word come one by one
turn : (c : goal.After-vertices-1) → (length c.loop-run.yielded < length (vertex_runs c.args.word.now)) × (c.in-Some.run'.now ≡ get_or (vertex_runs c.args.word.now) (length c.loop-run.yielded) c.in-Some.run'.now)
turn c = YieldsList-turn (YieldsList-from_slice_split _ (λ x. x == 45) c.args.word.now (cc) (cc) (cc) (λ x r q k. search (rules, tests))) c.loop-run.yielded _ c.loop-run.yielded_by _ _ c.in-Some.run' c.in-Some.is c.next.ensures.steps

pub value-requires-clause-digits : goal.value-requires-clause-digits
value-requires-clause-digits c =
    digits_of_run c.in-Some.run'.now (passes_at is_run (vertex_runs c.args.word.now) _ _ c.requires.shape (turn c))

pub value-requires-clause-short : goal.value-requires-clause-short
value-requires-clause-short c =
    let short = passes_at is_short (vertex_runs c.args.word.now) _ _ c.requires.numbers (turn c) in
    grind (arith, nat_tests)

pub push-requires : goal.push-requires
push-requires c =
    let narrow : length (vertex_runs c.args.word.now) ≤ most = grind (arith, nat_tests) in
    let here = YieldsList-turn (YieldsList-from_slice_split _ (λ x. x == 45) c.args.word.now (cc) (cc) (cc) (λ x r q k. search (rules, tests))) c.loop-run.yielded _ c.loop-run.yielded_by _ _ c.in-Some.run' c.in-Some.is c.next.ensures.steps in
    let count = ap length c.loop-run.invariant ∙ length-map _ value ∙ length-map c.loop-run.yielded (λ x. x.now) in
    (search rules, omega arith)

pub returns : goal.returns
returns c =
    let whole = YieldsList-end (YieldsList-from_slice_split _ (λ x. x == 45) c.args.word.now (cc) (cc) (cc) (λ x r q k. search (rules, tests))) c.loop-run.yielded _ c.loop-run.yielded_by _ _ c.in-None.is c.next.ensures.steps in
    c.loop-run.invariant ∙ ap (map value) whole.0
