-- The line that was seen is shown then.
use Rattle.std.proofs.Common.{◌≡◌, length, ap, ◌∙◌}
use Rattle.lines.specs.Lines.{Line, cuts}
use Rattle.session_core.proofs.FrontLaws.{stands-more}
use Rattle.session_core.proofs.PlaceLaws.{held_so}
use Rattle.session_core.proofs.SightLaws.{see-stands, seen-took}
use Rattle.session_core.proofs.session.Session.see.Goals as goal

pub returns-in_err-root-clause-stands : goal.returns-in_err-root-clause-stands
returns-in_err-root-clause-stands g c =
    let a = g.B.Board.sight c.args.board.now in
    let b = g.B.Board.sight c.look.follows.lender-at-none in
    let saw = rw c.in_ok-look.was at c.look.follows.holds-at-none in
    stands-more c.args.self.now a.line b.line c.requires saw.0.front

pub returns-clause-took : goal.returns-clause-took
returns-clause-took g c =
    let a = g.B.Board.sight c.args.board.now in
    let b = g.B.Board.sight c.look.follows.lender-at-none in
    let was = held_so c.self.inside.seen c.self.inside.names c.self.inside.roots c.self.inside.in_use in
    let saw = rw c.in_ok-look.was at c.look.follows.holds-at-none in
    let same : c.in_ok-root.root ≡ b.line = c.in_ok-root.ensures ∙ saw.1 in
    seen-took a b was c.args.self.now c.in_ok-root.root c.entries-entries.result c.version-version.result (c.self.view_is ∙ c.bring.ensures) saw.0 same
    (c.entries-entries.ensures.count ∙ ap (λ (L : Line). length L) same) (c.version-version.ensures ∙ ap cuts same)

pub returns-clause-stands : goal.returns-clause-stands
returns-clause-stands g c =
    let a = g.B.Board.sight c.args.board.now in
    let b = g.B.Board.sight c.look.follows.lender-at-none in
    let was = held_so c.self.inside.seen c.self.inside.names c.self.inside.roots c.self.inside.in_use in
    let saw = rw c.in_ok-look.was at c.look.follows.holds-at-none in
    let same : c.in_ok-root.root ≡ b.line = c.in_ok-root.ensures ∙ saw.1 in
    see-stands a b was c.args.self.now c.in_ok-root.root c.entries-entries.result (c.self.view_is ∙ c.bring.ensures) c.requires saw.0 same
    (c.entries-entries.ensures.count ∙ ap (λ (L : Line). length L) same)
