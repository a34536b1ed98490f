use Rattle.std.proofs.Common.{◌≡◌, ◌+◌, ◌-◌, ◌≤◌, ◌∷◌, ◌++◌, [], length, sym, ap, subst, ◌∙◌, arith}
use Rattle.std.specs.Prelude.{IfSome, position}
use Rattle.std.proofs.lemmas.List.{get_or_read}
use Rattle.homology.specs.Simplices.{IsSimplex, same_list}
use Rattle.homology.specs.Complexes.{Complex}
use Rattle.homology.specs.Growth.{capacity, is_there, new_simplices}
use Rattle.facet_growth.specs.Facets.{InTurn}
use Rattle.lines.specs.Lines.{Line, simplices}
use Rattle.lines.specs.Changes.{attached, last}
use Rattle.lines.specs.Changes as change
use Rattle.lines.proofs.ChangeLaws.{facets-there}
use Rattle.version_roots.specs.Judged.{Added}
use Rattle.version_roots.specs.declared.growing.Growing.TheVariants as state
use Rattle.version_roots.proofs.BookLaws.{book-attached, facet-added}
use Rattle.version_roots.proofs.book.Book.facet.Goals as goal

pub attach_in_turn-requires : goal.attach_in_turn-requires
attach_in_turn-requires c =
    rw c.as_slice-2.ensures.value (subst (λ o. IfSome o (λ v. InTurn c.in-Standing.model v.items)) c.in-Some.is c.in_ok-simplices.ensures.turns)

pub id_of-id-requires : goal.id_of-id-requires
id_of-id-requires c = λ simplex.
    let F = c.args.facets.now in
    let K = c.in-Standing.model in
    let s = c.index-facets-facets.result in
    let is : s ≡ last F = get_or_read F (length F - 1) s (omega (arith, c.requires.some)) c.index-facets-facets.is [] in
    let new : c.in-Some.simplices.items ≡ new_simplices K F =
    subst (λ o. IfSome o (λ v. v.items ≡ new_simplices c.in-Standing.model F)) c.in-Some.is c.in_ok-simplices.ensures.simplices in
    let grown = c.in_default-attach_in_turn.ensures.all ∙ ap (λ (S : Complex). K ++ S) (c.as_slice-2.ensures.value ∙ new) in
    (λ i. is_there (grown i) (is i)) ∙ facets-there K F c.requires.some (subst IsSimplex is simplex)

pub invariant_of-self-2 : goal.invariant_of-self-2
invariant_of-self-2 c =
    let J = c.self.inside.root in
    let L = c.in_ok-root.root in
    let F = c.args.facets.now in
    let S = c.in-Some.simplices.items in
    let both : state.Standing c.in-Standing.model ≡ state.Standing (simplices c.line.result.now) = sym c.in-Standing.is ∙ c.in_ok-revive.ensures.revived in
    let stands : c.in-Standing.model ≡ simplices c.line.result.now = (cc both) in
    let here : c.in-Standing.model ≡ simplices J = stands ∙ ap simplices c.line.ensures in
    let longer : L ≡ J ++ attached c.args.caller S = c.in_ok-root.ensures ∙ ap (λ (M : Complex). J ++ attached c.args.caller M) c.as_slice.ensures.value in
    book-attached J L c.args.caller S c.attach_in_turn.new.model ([] ∷ c.self.inside.versions.items) longer
    (c.in_default-attach_in_turn.ensures.all ∙ (λ i. here i ++ c.as_slice-2.ensures.value i)) c.self.invariant.1

pub returns-clause-added : goal.returns-clause-added
returns-clause-added c =
    let J = c.self.inside.root in
    let L = c.in_ok-root.root in
    let F = c.args.facets.now in
    let S = c.in-Some.simplices.items in
    let both : state.Standing c.in-Standing.model ≡ state.Standing (simplices c.line.result.now) = sym c.in-Standing.is ∙ c.in_ok-revive.ensures.revived in
    let stands : c.in-Standing.model ≡ simplices c.line.result.now = (cc both) in
    let here : c.in-Standing.model ≡ simplices J = stands ∙ ap simplices c.line.ensures in
    let longer : L ≡ J ++ attached c.args.caller S = c.in_ok-root.ensures ∙ ap (λ (M : Complex). J ++ attached c.args.caller M) c.as_slice.ensures.value in
    let new : S ≡ new_simplices c.in-Standing.model F =
    subst (λ o. IfSome o (λ v. v.items ≡ new_simplices c.in-Standing.model F)) c.in-Some.is c.in_ok-simplices.ensures.simplices in
    let fits : length c.in-Standing.model + length S ≤ capacity =
    subst (λ o. IfSome o (λ v. length c.in-Standing.model + length v.items ≤ capacity)) c.in-Some.is c.in_ok-simplices.ensures.fits in
    subst (λ (M : Line). Added M c.args.caller (change.Facet F) L) c.self.view_is
    (facet-added J L c.args.caller F S (new ∙ ap (λ (K : Complex). new_simplices K F) here) (omega (arith, fits, ap length here)) longer)

pub returns-clause-id : goal.returns-clause-id
returns-clause-id c =
    let J = c.self.inside.root in
    let L = c.in_ok-root.root in
    let F = c.args.facets.now in
    let S = c.in-Some.simplices.items in
    let both : state.Standing c.in-Standing.model ≡ state.Standing (simplices c.line.result.now) = sym c.in-Standing.is ∙ c.in_ok-revive.ensures.revived in
    let stands : c.in-Standing.model ≡ simplices c.line.result.now = (cc both) in
    let here : c.in-Standing.model ≡ simplices J = stands ∙ ap simplices c.line.ensures in
    let longer : L ≡ J ++ attached c.args.caller S = c.in_ok-root.ensures ∙ ap (λ (M : Complex). J ++ attached c.args.caller M) c.as_slice.ensures.value in
    let more = book-attached J L c.args.caller S c.attach_in_turn.new.model ([] ∷ c.self.inside.versions.items) longer
    (c.in_default-attach_in_turn.ensures.all ∙ (λ i. here i ++ c.as_slice-2.ensures.value i)) c.self.invariant.1 in
    let s = c.index-facets-facets.result in
    let is : s ≡ last F = get_or_read F (length F - 1) s (omega (arith, c.requires.some)) c.index-facets-facets.is [] in
    (λ i. position (same_list (sym is i)) (sym more.0 i)) ∙ c.id_of-id.ensures
