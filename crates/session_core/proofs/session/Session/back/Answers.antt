-- The board's answer is told, and what is held is of the line then.
use Rattle.lines.specs.Changes as change
use Rattle.language.specs.Language.{Back}
use Rattle.reply_text.specs.Replies.{reply_of}
use Rattle.version_roots.specs.Judged.{back_refusal_of}
use Rattle.session_core.proofs.ChangeLaws.{declined, declined-stands, made-stands}
use Rattle.session_core.proofs.PlaceLaws.{held_so}
use Rattle.session_core.proofs.StepLaws.{asks-back}
use Rattle.session_core.proofs.session.Session.back.Goals as goal

pub returns-in-Ok-clause-stands : goal.returns-in-Ok-clause-stands
returns-in-Ok-clause-stands g c =
    let a = g.B.Board.sight c.args.board.now in
    let b = g.B.Board.sight c.back.new.self in
    let was = held_so c.self.inside.seen c.self.inside.names c.self.inside.roots c.self.inside.in_use in
    let done = c.in-Ok.ensures.done in
    made-stands a b was c.args.self.now (change.Back c.args.version) done.on c.in-Ok.receipt.entries c.self.view_is c.requires done.makes done.says.entries

pub returns-in_ok-reply-in-Err-clause-took : goal.returns-in_ok-reply-in-Err-clause-took
returns-in_ok-reply-in-Err-clause-took g c =
    let a = g.B.Board.sight c.args.board.now in
    let b = g.B.Board.sight c.back.new.self in
    let was = held_so c.self.inside.seen c.self.inside.names c.self.inside.roots c.self.inside.in_use in
    let o = back_refusal_of c.in-Err.refusal in
    declined a b was c.args.self.now (Back c.args.version) (change.Back c.args.version) o (reply_of c.in_ok-reply-in-Err.reply) c.seen-self-inside.result (asks-back c.args.version) c.self.view_is c.in-Err.ensures.declined
    c.in_ok-reply-in-Err.ensures c.seen-self-inside.ensures.value

pub returns-in_ok-reply-in-Err-clause-stands : goal.returns-in_ok-reply-in-Err-clause-stands
returns-in_ok-reply-in-Err-clause-stands g c =
    let a = g.B.Board.sight c.args.board.now in
    let b = g.B.Board.sight c.back.new.self in
    let was = held_so c.self.inside.seen c.self.inside.names c.self.inside.roots c.self.inside.in_use in
    let o = back_refusal_of c.in-Err.refusal in
    declined-stands a b was c.args.self.now (change.Back c.args.version) o c.seen-self-inside.result c.self.view_is c.requires c.in-Err.ensures.declined c.seen-self-inside.ensures.value
