use Rattle.std.proofs.Common.{◌≡◌, [], ◌∷◌, ◌++◌, Ok, sym, ap, ◌∙◌}
use Rattle.std.proofs.lemmas.Bool.{false≢true}
use Rattle.std.proofs.lemmas.Result.{err_from_is_err_and}
use Rattle.language.specs.Language.{Facet}
use Rattle.facet_reader.proofs.Order.{distinct_times, only_order}
use Rattle.facet_reader.proofs.ReadingLaws.{facet-made, facet-refused}
use Rattle.facet_reader.proofs.words.Words.facet.Goals as goal

pub unreachable-requires : goal.unreachable-requires
unreachable-requires c =
    let taken = rw c.as_slice.ensures.value at c.in_default.ensures.taken.1 in
    false≢true (taken (c.in_ok-vertices.ensures.some, c.in_ok-vertices.ensures.narrow, distinct_times c.in_ok-vertices.vertices.items c.in_ok-vertices.ensures.distinct))

pub returns-in_err-vertices : goal.returns-in_err-vertices
returns-in_err-vertices c =
    let p = err_from_is_err_and c.from_residual.result c.from_residual.ensures.1 in
    rw (p.1, p.2) (facet-refused c.args.self.now _ c.in_err-vertices.ensures.value)

pub returns : goal.returns
returns c =
    let moved = rw c.as_slice.ensures.value at c.in-Ok.ensures.value in
    let is = only_order c.in_ok-vertices.vertices.items c.in-Ok.simplex c.in_ok-vertices.ensures.distinct c.in-Ok.ensures.simplex.ascending moved in
    let alone : c.new.result ≡ c.in-Ok.simplex ∷ [] = c.new.ensures ∙ c.in-Ok-push.ensures.items ∙ ap (λ l. l ++ c.in-Ok.simplex ∷ []) c.new-facets.ensures.items in
    facet-made c.args.self.now c.in-Ok.simplex c.in_ok-vertices.vertices.items c.in_ok-vertices.ensures.value is ∙ ap (λ F. Ok (Facet F)) (sym alone)
