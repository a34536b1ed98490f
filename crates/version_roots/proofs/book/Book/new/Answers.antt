use Rattle.std.proofs.Common.{◌∷◌, [], sym, ap, ◌∙◌}
use Rattle.lines.specs.Lines.{Grown, grown}
use Rattle.version_roots.proofs.BookLaws.{grown-nothing}
use Rattle.version_roots.proofs.book.Book.new.Goals as goal

pub invariant_of-result : goal.invariant_of-result
invariant_of-result c =
    let so = ap grown c.new.ensures ∙ grown-nothing in
    (c.empty.ensures ∙ sym (ap (λ (g : Grown). g.complex) so), ap (λ V. [] ∷ V) c.new-2.ensures.items ∙ sym (ap (λ (g : Grown). g.versions) so))
