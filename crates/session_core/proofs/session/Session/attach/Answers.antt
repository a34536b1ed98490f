-- The board's answer is told, and what is held is of the line then.
use Rattle.lines.specs.Changes as change
use Rattle.language.specs.Language.{Attach}
use Rattle.reply_text.specs.Replies.{reply_of}
use Rattle.version_roots.specs.Judged.{refusal_of}
use Rattle.session_core.proofs.ChangeLaws.{declined, declined-stands, made-stands}
use Rattle.session_core.proofs.PlaceLaws.{held_so}
use Rattle.session_core.proofs.StepLaws.{asks-attach}
use Rattle.session_core.proofs.session.Session.attach.Goals as goal

pub returns-in-Ok-clause-stands : goal.returns-in-Ok-clause-stands
returns-in-Ok-clause-stands g c =
    let a = g.B.Board.sight c.args.board.now in
    let b = g.B.Board.sight c.attach.new.self in
    let was = held_so c.self.inside.seen c.self.inside.names c.self.inside.roots c.self.inside.in_use in
    let done = c.in-Ok.ensures.done in
    made-stands a b was c.args.self.now (change.Attach c.args.simplex) done.on c.in-Ok.receipt.entries c.self.view_is c.requires done.makes done.says.0.entries

pub returns-in_ok-reply-in-Err-clause-took : goal.returns-in_ok-reply-in-Err-clause-took
returns-in_ok-reply-in-Err-clause-took g c =
    let a = g.B.Board.sight c.args.board.now in
    let b = g.B.Board.sight c.attach.new.self in
    let was = held_so c.self.inside.seen c.self.inside.names c.self.inside.roots c.self.inside.in_use in
    let o = refusal_of c.in-Err.refusal in
    declined a b was c.args.self.now (Attach c.args.simplex) (change.Attach c.args.simplex) o (reply_of c.in_ok-reply-in-Err.reply) c.seen-self-inside.result (asks-attach c.args.simplex) c.self.view_is c.in-Err.ensures.declined
    c.in_ok-reply-in-Err.ensures c.seen-self-inside.ensures.value

pub returns-in_ok-reply-in-Err-clause-stands : goal.returns-in_ok-reply-in-Err-clause-stands
returns-in_ok-reply-in-Err-clause-stands g c =
    let a = g.B.Board.sight c.args.board.now in
    let b = g.B.Board.sight c.attach.new.self in
    let was = held_so c.self.inside.seen c.self.inside.names c.self.inside.roots c.self.inside.in_use in
    let o = refusal_of c.in-Err.refusal in
    declined-stands a b was c.args.self.now (change.Attach c.args.simplex) o c.seen-self-inside.result c.self.view_is c.requires c.in-Err.ensures.declined c.seen-self-inside.ensures.value
