-- The line that was seen is shown then.
use Rattle.std.proofs.Common.{◌≡◌, length, ap, ◌∙◌}
use Rattle.lines.specs.Lines.{Line, cuts}
use Rattle.session_core.proofs.FrontLaws.{stands-more}
use Rattle.session_core.proofs.PlaceLaws.{held_so}
use Rattle.session_core.proofs.SightLaws.{after-took, look-stands, not-yet-took, see-stands}
use Rattle.session_core.proofs.session.Session.see_from.Goals as goal

pub returns-then-entries-wanted-clause-took : goal.returns-then-entries-wanted-clause-took
returns-then-entries-wanted-clause-took g c =
    let a = g.B.Board.sight c.args.board.now in
    let b = g.B.Board.sight c.look.follows.lender-at-none in
    let was = held_so c.self.inside.seen c.self.inside.names c.self.inside.roots c.self.inside.in_use in
    let saw = rw c.in_ok-seen.was at c.look.follows.holds-at-none in
    not-yet-took a b was c.args.self.now c.entries-entries.result c.args.wanted c.self.view_is saw.0 (c.entries-entries.ensures.count ∙ ap (λ (L : Line). length L) saw.1) c.if-entries-wanted.true

pub returns-then-entries-wanted-clause-stands : goal.returns-then-entries-wanted-clause-stands
returns-then-entries-wanted-clause-stands g c =
    let a = g.B.Board.sight c.args.board.now in
    let b = g.B.Board.sight c.look.follows.lender-at-none in
    let was = held_so c.self.inside.seen c.self.inside.names c.self.inside.roots c.self.inside.in_use in
    let saw = rw c.in_ok-seen.was at c.look.follows.holds-at-none in
    look-stands a b was c.args.self.now c.entries-entries.result c.self.view_is c.requires saw.0 (c.entries-entries.ensures.count ∙ ap (λ (L : Line). length L) saw.1)

pub returns-in_err-root-clause-stands : goal.returns-in_err-root-clause-stands
returns-in_err-root-clause-stands g c =
    let a = g.B.Board.sight c.args.board.now in
    let b = g.B.Board.sight c.look.follows.lender-at-none in
    let saw = rw c.in_ok-seen.was at c.look.follows.holds-at-none in
    stands-more c.args.self.now a.line b.line c.requires saw.0.front

pub returns-clause-took : goal.returns-clause-took
returns-clause-took g c =
    let a = g.B.Board.sight c.args.board.now in
    let b = g.B.Board.sight c.look.follows.lender-at-none in
    let was = held_so c.self-2.inside.seen c.self-2.inside.names c.self-2.inside.roots c.self-2.inside.in_use in
    let saw = rw c.in_ok-seen.was at c.look.follows.holds-at-none in
    let end : c.entries-entries.result ≡ length b.line = c.entries-entries.ensures.count ∙ ap (λ (L : Line). length L) saw.1 in
    after-took a b was c.args.self.now c.in_ok-root.root c.entries-entries.result c.version-version.result c.args.wanted (c.self-2.view_is ∙ c.bring.ensures) saw.0
    (c.in_ok-root.ensures ∙ saw.1) end (c.version-version.ensures ∙ ap cuts saw.1) c.if-entries-wanted.false

pub returns-clause-stands : goal.returns-clause-stands
returns-clause-stands g c =
    let a = g.B.Board.sight c.args.board.now in
    let b = g.B.Board.sight c.look.follows.lender-at-none in
    let was = held_so c.self-2.inside.seen c.self-2.inside.names c.self-2.inside.roots c.self-2.inside.in_use in
    let saw = rw c.in_ok-seen.was at c.look.follows.holds-at-none in
    let end : c.entries-entries.result ≡ length b.line = c.entries-entries.ensures.count ∙ ap (λ (L : Line). length L) saw.1 in
    see-stands a b was c.args.self.now c.in_ok-root.root c.entries-entries.result (c.self-2.view_is ∙ c.bring.ensures) c.requires saw.0 (c.in_ok-root.ensures ∙ saw.1) end
