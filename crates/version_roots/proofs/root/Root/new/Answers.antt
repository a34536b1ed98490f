use Rattle.std.proofs.Common.{[], sym, ap, ◌∙◌}
use Rattle.std.specs.Prelude.{slice_index_or}
use Rattle.lines.specs.Lines.{Line, Grown, cuts, version}
use Rattle.version_roots.proofs.BookLaws.{grown-nothing}
use Rattle.version_roots.proofs.root.Root.new.Goals as goal

pub invariant_of-result : goal.invariant_of-result
invariant_of-result c =
    c.empty.ensures ∙ sym (ap (λ (L : Line). version L (cuts L)) c.new.ensures ∙ ap (λ (g : Grown). slice_index_or g.versions 0 []) grown-nothing)
