use Rattle.std.proofs.Common.{◌≡◌, ◌≤◌, ◌==◌, length, arith, refl}
use Rattle.std.proofs.lemmas.Bool.{false≢true}
use Rattle.std.proofs.lemmas.Bool.Decides.{nat_tests}
use Rattle.std.proofs.lemmas.List.{length-map}
use Rattle.std.proofs.lemmas.List.Splits.{length-slice_split}
use Rattle.language.specs.Arguments.{vertices, vertex_runs, value, most}
use Rattle.facet_reader.proofs.Order.{no_repeat_distinct, only_order, refused_repeats}
use Rattle.facet_reader.proofs.simplex_word.simplex_of.Goals as goal

pub returns-in-Ok : goal.returns-in-Ok
returns-in-Ok c =
    let given : c.as_slice.result.now ≡ vertices c.args.word.now = cc in
    let distinct = no_repeat_distinct (vertices c.args.word.now) (rw (← given) ((c.in-Ok.ensures.taken.0 refl).2)) in
    (distinct, only_order (vertices c.args.word.now) c.in-Ok.simplex distinct c.in-Ok.ensures.simplex.ascending (rw (← given) c.in-Ok.ensures.value))

pub returns-in-Err : goal.returns-in-Err
returns-in-Err c =
    let given : c.as_slice.result.now ≡ vertices c.args.word.now = cc in
    let long = length-map (vertex_runs c.args.word.now) value in
    let parts = length-slice_split (λ x. x == 45) c.args.word.now in
    let narrow : length (vertex_runs c.args.word.now) ≤ most = grind (arith, nat_tests) in
    refused_repeats (vertices c.args.word.now) (omega arith) (omega arith) (rw (← given) (λ h. false≢true (c.in-Err.ensures.taken.1 h)))
