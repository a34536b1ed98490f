use Rattle.std.proofs.Common.{◌≡◌, length, sym, ap, subst, ◌∙◌}
use Rattle.lines.specs.Lines.{Line, simplices}
use Rattle.lines.specs.Changes as change
use Rattle.version_roots.specs.Judged.{IsReceipt, refusal_of}
use Rattle.version_roots.specs.Boards.{Declines, Done}
use Rattle.version_roots.specs.Local.{Local, sight_of}
use Rattle.version_roots.proofs.LocalLaws.{all_shown, declines-so, done-so}
use Rattle.version_roots.proofs.local.LocalBoardBoard.attach.Goals as goal

pub returns-in-Ok-clause-done : goal.returns-in-Ok-clause-done
returns-in-Ok-clause-done c =
    let old : Local = record { caller = c.self.inside.caller; shown = c.self.inside.shown; whole = c.self.inside.book } in
    let r = c.in-Ok.receipt in
    let P : Line → Line → Type 0 = λ J L. IsReceipt J L r × (r.id ≡ length (simplices J)) in
    let new = c.show.new.self in
    subst (λ (b : Local). Done (sight_of b) (change.Attach c.args.simplex) (sight_of new) (λ J. P J (sight_of new).line)) c.self.view_is
    (done-so old new (change.Attach c.args.simplex) c.attach.new.self P c.show.ensures c.in-Ok.ensures.added (c.in-Ok.ensures.receipt, c.in-Ok.ensures.id))

pub returns-else-is_memory-clause-declined : goal.returns-else-is_memory-clause-declined
returns-else-is_memory-clause-declined c =
    let old : Local = record { caller = c.self.inside.caller; shown = c.self.inside.shown; whole = c.self.inside.book } in
    let o = refusal_of c.in-Err.refusal in
    let new = c.show-in-Err.new.self in
    subst (λ (b : Local). Declines (sight_of b) (change.Attach c.args.simplex) (sight_of new) o) c.self.view_is
    (declines-so old new (change.Attach c.args.simplex) o (c.show-in-Err.ensures ∙ ap (all_shown c.self.inside.caller) c.in-Err.ensures.unchanged)
    (sym c.is_memory.ensures ∙ c.if-is_memory.false) c.in-Err.ensures.refused)
