use Rattle.std.proofs.Common.{◌∷◌, ◌+◌, [], take, sym, ap, subst, ◌∙◌, add-one}
use Rattle.lines.specs.Lines.{cuts}
use Rattle.lines.proofs.ChangeLaws.{versions-front}
use mathlib.Core.List.{IsPrefix}
use Rattle.version_roots.proofs.book.Book.take_back.Goals as goal

pub invariant_of-self : goal.invariant_of-self
invariant_of-self c =
    let R = c.args.root in
    let V = c.self.inside.versions.items in (
      tt,
      ap (λ W. [] ∷ W) (c.truncate.ensures.items ∙ ap (λ n. take n V) c.version.ensures)
          ∙ ap (λ n. take n ([] ∷ V)) (sym (add-one (cuts R)))
          ∙ ap (take (cuts R + 1)) c.self.invariant.1
          ∙ versions-front R c.self.inside.root (subst (IsPrefix R) (sym c.self.view_is) c.requires),
    )
