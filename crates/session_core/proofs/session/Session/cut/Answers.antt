-- The board's answer is told, and what is held is of the line then.
use Rattle.std.proofs.Common.{◌∙◌}
use Rattle.lines.specs.Changes as change
use Rattle.language.specs.Language.{Cut}
use Rattle.reply_text.specs.Replies.{reply_of}
use Rattle.version_roots.specs.Judged.{cut_refusal_of}
use Rattle.session_core.proofs.ChangeLaws.{brought-stands, cut-took, declined, declined-stands}
use Rattle.session_core.proofs.PlaceLaws.{held_so}
use Rattle.session_core.proofs.StepLaws.{asks-cut}
use Rattle.session_core.proofs.session.Session.cut.Goals as goal

pub returns-in-Ok-clause-took : goal.returns-in-Ok-clause-took
returns-in-Ok-clause-took g c =
    let a = g.B.Board.sight c.args.board.now in
    let b = g.B.Board.sight c.cut.new.self in
    let was = held_so c.self.inside.seen c.self.inside.names c.self.inside.roots c.self.inside.in_use in
    cut-took a b was c.args.self.now c.in-Ok.receipt (c.self.view_is ∙ c.bring.ensures) c.in-Ok.ensures.done

pub returns-in-Ok-clause-stands : goal.returns-in-Ok-clause-stands
returns-in-Ok-clause-stands g c =
    let a = g.B.Board.sight c.args.board.now in
    let b = g.B.Board.sight c.cut.new.self in
    let was = held_so c.self.inside.seen c.self.inside.names c.self.inside.roots c.self.inside.in_use in
    brought-stands a b was c.args.self.now c.in-Ok.receipt (c.self.view_is ∙ c.bring.ensures) c.requires c.in-Ok.ensures.done

pub returns-in_ok-reply-in-Err-clause-took : goal.returns-in_ok-reply-in-Err-clause-took
returns-in_ok-reply-in-Err-clause-took g c =
    let a = g.B.Board.sight c.args.board.now in
    let b = g.B.Board.sight c.cut.new.self in
    let was = held_so c.self-in-Err.inside.seen c.self-in-Err.inside.names c.self-in-Err.inside.roots c.self-in-Err.inside.in_use in
    let o = cut_refusal_of c.in-Err.refusal in
    declined a b was c.args.self.now Cut change.Cut o (reply_of c.in_ok-reply-in-Err.reply) c.seen-self-inside.result asks-cut c.self-in-Err.view_is c.in-Err.ensures.declined
    c.in_ok-reply-in-Err.ensures c.seen-self-inside.ensures.value

pub returns-in_ok-reply-in-Err-clause-stands : goal.returns-in_ok-reply-in-Err-clause-stands
returns-in_ok-reply-in-Err-clause-stands g c =
    let a = g.B.Board.sight c.args.board.now in
    let b = g.B.Board.sight c.cut.new.self in
    let was = held_so c.self-in-Err.inside.seen c.self-in-Err.inside.names c.self-in-Err.inside.roots c.self-in-Err.inside.in_use in
    let o = cut_refusal_of c.in-Err.refusal in
    declined-stands a b was c.args.self.now change.Cut o c.seen-self-inside.result c.self-in-Err.view_is c.requires c.in-Err.ensures.declined c.seen-self-inside.ensures.value
