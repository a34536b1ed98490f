use Rattle.std.proofs.Common.{◌≡◌, ◌+◌, ◌++◌, ◌∷◌, [], length, sym, ap, subst, ◌∙◌}
use Rattle.std.proofs.lemmas.List.{length-map}
use Rattle.lines.specs.Lines.{Follows}
use Rattle.version_roots.specs.Entries.{entry_of}
use Rattle.version_roots.specs.Kept.{IsKept}
use Rattle.version_roots.proofs.KeptLaws.{kept-attach, kept-cut, kept-back}
use Rattle.version_roots.proofs.line.Line.tally_with.Goals as goal

pub returns-in-Attach : goal.returns-in-Attach
returns-in-Attach c =
    let L = c.args.self.now in
    let t = c.self.inside.tally in
    let kept : IsKept L t.cuts t.returns t.base t.start = rw (sym c.self.view_is) c.self.invariant in
    subst (λ e. Follows L (entry_of e) → IsKept (L ++ entry_of e ∷ []) t.cuts t.returns t.base t.start) (sym c.in-Attach.is)
    (kept-attach L t.cuts t.returns t.base t.start _ _ kept) c.requires

pub returns-in-Cut : goal.returns-in-Cut
returns-in-Cut c =
    let L = c.args.self.now in
    let t = c.self.inside.tally in
    let items = c.self.inside.entries.items in
    let kept : IsKept L t.cuts t.returns t.base t.start = rw (sym c.self.view_is) c.self.invariant in
    let end : c.len-end.result ≡ length L = c.len-end.ensures.count ∙ sym (length-map items entry_of) ∙ ap length c.self.view_is in
    subst (λ e. Follows L (entry_of e) → IsKept (L ++ entry_of e ∷ []) (t.cuts + 1) t.returns (t.cuts + 1) (c.len-end.result + 1)) (sym c.in-Cut.is)
    (kept-cut L t.cuts t.returns t.base t.start _ c.len-end.result kept end) c.requires

pub returns-in-Back : goal.returns-in-Back
returns-in-Back c =
    let L = c.args.self.now in
    let t = c.self.inside.tally in
    let items = c.self.inside.entries.items in
    let kept : IsKept L t.cuts t.returns t.base t.start = rw (sym c.self.view_is) c.self.invariant in
    let end : c.len-end.result ≡ length L = c.len-end.ensures.count ∙ sym (length-map items entry_of) ∙ ap length c.self.view_is in
    subst (λ e. Follows L (entry_of e) → IsKept (L ++ entry_of e ∷ []) t.cuts (t.returns + 1) c.in-Back.version (c.len-end.result + 1)) (sym c.in-Back.is)
    (kept-back L t.cuts t.returns t.base t.start _ _ c.len-end.result kept end) c.requires
