-- The board's answer is told, and what is held is of the line then.
use Rattle.std.proofs.Common.{◌≡◌, ℕ, true, List, [], ◌∷◌, length, refl, sym, ap, ◌∙◌, subst}
use Rattle.std.specs.Prelude.{◌==◌}
use Rattle.std.proofs.Math.Dec.{eqb-suc-zero}
use Rattle.std.proofs.lemmas.Bool.{true≢false}
use Rattle.lines.specs.Lines.{Line, IsLegal}
use Rattle.lines.specs.Changes as change
use Rattle.transcript.specs.Replies.{Faceted}
use Rattle.session_core.specs.Steps.{Took}
use Rattle.language.specs.Language.{Facet}
use Rattle.reply_text.specs.Replies.{reply_of}
use Rattle.version_roots.specs.Judged.{refusal_of}
use Rattle.session_core.proofs.ChangeLaws.{added-nothing, declined, declined-stands, made-stands}
use Rattle.session_core.proofs.PlaceLaws.{held_so}
use Rattle.session_core.proofs.SightLaws.{look-stands}
use Rattle.session_core.proofs.StepLaws.{asks-facet}
use Rattle.session_core.proofs.session.Session.facet.Goals as goal

pub returns-in-Ok-clause-stands : goal.returns-in-Ok-clause-stands
returns-in-Ok-clause-stands g c =
    let a = g.B.Board.sight c.args.board.now in
    let b = g.B.Board.sight c.facet.new.self in
    let was = held_so c.self.inside.seen c.self.inside.names c.self.inside.roots c.self.inside.in_use in
    let done = c.in-Ok.ensures.done in
    made-stands a b was c.args.self.now (change.Facet c.args.facets.now) done.on c.in-Ok.receipt.entries c.self.view_is c.requires done.makes done.says.0.entries

pub returns-in_ok-reply-in-Err-clause-took : goal.returns-in_ok-reply-in-Err-clause-took
returns-in_ok-reply-in-Err-clause-took g c =
    let a = g.B.Board.sight c.args.board.now in
    let b = g.B.Board.sight c.facet.new.self in
    let was = held_so c.self.inside.seen c.self.inside.names c.self.inside.roots c.self.inside.in_use in
    let o = refusal_of c.in-Err.refusal in
    declined a b was c.args.self.now (Facet c.args.facets.now) (change.Facet c.args.facets.now) o (reply_of c.in_ok-reply-in-Err.reply) c.seen-self-inside.result (asks-facet c.args.facets.now) c.self.view_is c.in-Err.ensures.declined
    c.in_ok-reply-in-Err.ensures c.seen-self-inside.ensures.value

pub returns-in_ok-reply-in-Err-clause-stands : goal.returns-in_ok-reply-in-Err-clause-stands
returns-in_ok-reply-in-Err-clause-stands g c =
    let a = g.B.Board.sight c.args.board.now in
    let b = g.B.Board.sight c.facet.new.self in
    let was = held_so c.self.inside.seen c.self.inside.names c.self.inside.roots c.self.inside.in_use in
    let o = refusal_of c.in-Err.refusal in
    declined-stands a b was c.args.self.now (change.Facet c.args.facets.now) o c.seen-self-inside.result c.self.view_is c.requires c.in-Err.ensures.declined c.seen-self-inside.ensures.value

-- without facets there is a look
no-facets : (F : List (List ℕ)) → true ≡ (length F == 0) → F ≡ []
no-facets [] is = refl
no-facets (s ∷ F) is = absurd (true≢false (is ∙ eqb-suc-zero (length F)))

pub returns-then-is_empty-clause-took : goal.returns-then-is_empty-clause-took
returns-then-is_empty-clause-took g c =
    let a = g.B.Board.sight c.args.board.now in
    let b = g.B.Board.sight c.look.follows.lender-at-none in
    let h = c.args.self.now in
    let n = c.entries-entries.result in
    let was = held_so c.self.inside.seen c.self.inside.names c.self.inside.roots c.self.inside.in_use in
    let saw = rw c.in_ok-look.was at c.look.follows.holds-at-none in
    subst (λ (F : List (List ℕ)). Took a h (Facet F) b (record was { seen = n }) (Faceted 0 n)) (sym (no-facets c.args.facets.now c.if-is_empty.ensures))
    (added-nothing a b was h n c.self.view_is saw.0 (subst IsLegal saw.1 c.entries-entries.ensures.legal) (c.entries-entries.ensures.count ∙ ap (λ (L : Line). length L) saw.1))

pub returns-then-is_empty-clause-stands : goal.returns-then-is_empty-clause-stands
returns-then-is_empty-clause-stands g c =
    let a = g.B.Board.sight c.args.board.now in
    let b = g.B.Board.sight c.look.follows.lender-at-none in
    let was = held_so c.self.inside.seen c.self.inside.names c.self.inside.roots c.self.inside.in_use in
    let saw = rw c.in_ok-look.was at c.look.follows.holds-at-none in
    look-stands a b was c.args.self.now c.entries-entries.result c.self.view_is c.requires saw.0 (c.entries-entries.ensures.count ∙ ap (λ (L : Line). length L) saw.1)
