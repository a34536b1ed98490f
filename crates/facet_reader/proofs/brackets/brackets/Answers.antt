use Rattle.std.proofs.Common.{◌≡◌, ◌-◌, ◌==◌, true, false, drop, take, ap, ◌∙◌, arith, rules, tests}
use Rattle.std.specs.List.{list_all}
use Rattle.std.proofs.lemmas.List.Splits.{length-slice_split}
use Rattle.language.specs.declared.fault.FaultKind.TheVariants.{Word}
use Rattle.language.specs.Arguments.{provided, parts}
use Rattle.language.specs.Brackets.{is_blank, facets_word}
use Rattle.facet_reader.proofs.Bracketing.{list-few, list-ends}
use Rattle.facet_reader.proofs.brackets.brackets.Goals as goal

pub returns-then-ends-lt2 : goal.returns-then-ends-lt2
returns-then-ends-lt2 c =
    list-few c.args.list.now (omega (arith, length-slice_split (λ x. x == 93) c.args.list.now, c.brackets_in-ends.ensures, c.if-ends-lt2.true))

pub returns-then-not-all_blank : goal.returns-then-not-all_blank
returns-then-not-all_blank c =
    let n = c.brackets_in-ends.result - 1 in
    let ws = parts 93 c.args.list.now in
    let count = length-slice_split (λ x. x == 93) c.args.list.now in
    let ends = list-ends c.args.list.now n (omega (arith, count, c.brackets_in-ends.ensures, c.if-ends-lt2.false)) (omega (arith, c.if-ends-lt2.false)) in
    let other : list_all is_blank (drop n ws) ≡ false = search (rules, tests) in
    ends ∙ ap (λ b. provided b Word (facets_word (take n ws))) other

pub returns : goal.returns
returns c =
    let n = c.brackets_in-ends.result - 1 in
    let ws = parts 93 c.args.list.now in
    let count = length-slice_split (λ x. x == 93) c.args.list.now in
    let ends = list-ends c.args.list.now n (omega (arith, count, c.brackets_in-ends.ensures, c.if-ends-lt2.false)) (omega (arith, c.if-ends-lt2.false)) in
    let blank : list_all is_blank (drop n ws) ≡ true = search (rules, tests) in
    rw (ends ∙ ap (λ b. provided b Word (facets_word (take n ws))) blank) c.facets_of.ensures
