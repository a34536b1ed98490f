use Rattle.std.proofs.Common.{◌≡◌, ◌∷◌, ◌++◌, [], sym, ap, ◌∙◌}
use Rattle.lines.specs.Lines.{Attach, simplices}
use Rattle.version_roots.specs.declared.growing.Growing.TheVariants as state
use Rattle.version_roots.proofs.BookLaws.{book-more}
use Rattle.version_roots.proofs.book.Book.attach.Goals as goal

pub invariant_of-self-2 : goal.invariant_of-self-2
invariant_of-self-2 c =
    let both : state.Standing c.in-Standing.model ≡ state.Standing (simplices c.line.result.now) = sym c.in-Standing.is ∙ c.in_ok-revive.ensures.revived in
    let stands : c.in-Standing.model ≡ simplices c.line.result.now = (cc both) in
    book-more c.self.inside.root c.push.new.self (Attach c.args.caller c.args.simplex) c.attach.new.model ([] ∷ c.self.inside.versions.items) c.in_default-push.ensures.pushed
    (c.in_ok-id.ensures.grown ∙ (λ i. (stands ∙ ap simplices c.line.ensures) i ++ c.copy.ensures i ∷ [])) c.self.invariant.1
