use Rattle.std.proofs.Common.{◌≡◌, ◌∙◌, true, false, Ok, refl, sym, ap}
use Rattle.std.proofs.lemmas.Bool.{false≢true}
use Rattle.language.specs.declared.fault.FaultKind.TheVariants.{Repeat}
use Rattle.language.specs.Arguments.{provided, is_distinct, in_order}
use Rattle.facet_reader.proofs.Order.{no_repeat_distinct, only_order, refused_repeats}
use Rattle.facet_reader.proofs.Bracketing.{facet-read, numbers-few}
use Rattle.facet_reader.proofs.brackets.facet.Goals as goal

pub returns-in_default-from_vertices : goal.returns-in_default-from_vertices
returns-in_default-from_vertices c =
    let ns = c.in_ok-numbers.numbers.items in
    let read = facet-read c.args.mark c.args.part.now c.in-Some.rest.now c.in-Some-behind.words.now (Ok ns) c.in-Some.ensures.0 c.in-Some.ensures.1 c.in-Some-behind.ensures.0 c.in-Some-behind.ensures.1 c.in_ok-numbers.ensures in
    let few = numbers-few c.in-Some-behind.words.now ns c.in_ok-numbers.ensures in
    let given : c.as_slice.result.now ≡ ns = c.as_slice.ensures.value in
    let twice : is_distinct ns ≡ false = refused_repeats ns few.0 few.1 (rw (← given) (λ h. false≢true (c.in_default-from_vertices.ensures.taken.1 h))) in
    read ∙ ap (λ b. provided b Repeat (Ok (in_order ns))) twice

pub returns : goal.returns
returns c =
    let ns = c.in_ok-numbers.numbers.items in
    let read = facet-read c.args.mark c.args.part.now c.in-Some.rest.now c.in-Some-behind.words.now (Ok ns) c.in-Some.ensures.0 c.in-Some.ensures.1 c.in-Some-behind.ensures.0 c.in-Some-behind.ensures.1 c.in_ok-numbers.ensures in
    let given : c.as_slice.result.now ≡ ns = c.as_slice.ensures.value in
    let distinct : is_distinct ns ≡ true = no_repeat_distinct ns (rw (← given) ((c.in-Ok.ensures.taken.0 refl).2)) in
    let is = only_order ns c.in-Ok.facet distinct c.in-Ok.ensures.simplex.ascending (rw (← given) c.in-Ok.ensures.value) in
    read ∙ ap (λ b. provided b Repeat (Ok (in_order ns))) distinct ∙ ap Ok (sym is)
