use Rattle.std.proofs.Common.{◌≡◌, ◌∷◌, ◌++◌, [], refl, sym, ap, subst, ◌∙◌, arith}
use Rattle.lines.specs.Lines.{Line, Cut, grown, simplices}
use Rattle.lines.specs.Changes as change
use Rattle.version_roots.specs.Judged.{Added}
use Rattle.version_roots.specs.Kept.{Stands}
use Rattle.version_roots.specs.declared.growing.Growing.{Growing}
use Rattle.version_roots.specs.declared.growing.Growing.TheVariants as state
use Rattle.version_roots.proofs.BookLaws.{book-more, cut-added}
use Rattle.version_roots.proofs.book.Book.cut.Goals as goal

pub invariant_of-self-2 : goal.invariant_of-self-2
invariant_of-self-2 c =
    let J = c.self.inside.root in
    let L = c.in_ok-root.root in
    let both : state.Standing c.in-Standing.model ≡ state.Standing (simplices c.line.result.now) = sym c.in-Standing.is ∙ c.in_ok-revive.ensures.revived in
    let stands : c.in-Standing.model ≡ simplices c.line.result.now = (cc both) in
    let kept : c.in_ok-kept.kept ≡ simplices J = c.in_ok-kept.ensures ∙ stands ∙ ap simplices c.line.ensures in
    let more = book-more J L (Cut c.args.caller) (simplices J) ([] ∷ c.push.new.self.items) c.in_ok-root.ensures refl
    (ap (λ V. [] ∷ V) c.in-Ok.ensures.items ∙ (λ i. c.self.invariant.1 i ++ kept i ∷ [])) in
    (subst (λ (g : Growing). Stands g (grown L).complex) (sym c.in_ok-revive.ensures.revived) (ap simplices c.line.ensures ∙ more.0), more.1)

pub returns-clause-added : goal.returns-clause-added
returns-clause-added c =
    subst (λ (J : Line). Added J c.args.caller change.Cut c.in_ok-root.root) c.self.view_is
    (cut-added c.self.inside.root c.in_ok-root.root c.args.caller (omega (arith, c.if-version-ge-MOST_CUTS.false, c.version.ensures)) c.in_ok-root.ensures)
