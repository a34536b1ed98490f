-- What each request comes to.
use Rattle.std.proofs.Common.{refl}
use Rattle.std.proofs.lemmas.Result.{IfOk-weaker}
use Rattle.language.specs.Language.{Hold, Release, Take}
use Rattle.facet_reader.specs.Meanings.{compute_meant}
use Rattle.reply_text.specs.Replies.{reply_of}
use Rattle.session_core.proofs.RestLaws.{asked-took, holding-stands, later-took, named-took, quit-took, releasing-stands, silent-took, taking-stands}
use Rattle.session_core.proofs.session.Session.step.Goals as goal

pub returns-in-Blank-clause-took : goal.returns-in-Blank-clause-took
returns-in-Blank-clause-took g c = rw c.in-Blank.is (silent-took (g.B.Board.sight c.args.board.now) c.args.self.now)

pub returns-in-Round-clause-took : goal.returns-in-Round-clause-took
returns-in-Round-clause-took g c = rw c.in-Round.is (later-took (g.B.Board.sight c.args.board.now) c.args.self.now _)

pub returns-in-Quit-clause-took : goal.returns-in-Quit-clause-took
returns-in-Quit-clause-took g c = rw c.in-Quit.is (quit-took (g.B.Board.sight c.args.board.now) c.args.self.now)

pub returns-in-Hold-clause-took : goal.returns-in-Hold-clause-took
returns-in-Hold-clause-took g c = rw c.in-Hold.is (named-took (g.B.Board.sight c.args.board.now) c.args.self.now c.hold.new.self (Hold c.in-Hold.name) (reply_of c.hold.result) refl refl c.hold.ensures.step)

pub returns-in-Hold-clause-stands : goal.returns-in-Hold-clause-stands
returns-in-Hold-clause-stands g c = rw c.hold.ensures.held (holding-stands c.in-Hold.name c.args.self.now (g.B.Board.sight c.args.board.now).line c.requires)

pub returns-in-Take-clause-took : goal.returns-in-Take-clause-took
returns-in-Take-clause-took g c = rw c.in-Take.is (named-took (g.B.Board.sight c.args.board.now) c.args.self.now c.take.new.self (Take c.in-Take.name) (reply_of c.take.result) refl refl c.take.ensures.step)

pub returns-in-Take-clause-stands : goal.returns-in-Take-clause-stands
returns-in-Take-clause-stands g c = rw c.take.ensures.taken (taking-stands c.in-Take.name c.args.self.now (g.B.Board.sight c.args.board.now).line c.requires)

pub returns-in-Release-clause-took : goal.returns-in-Release-clause-took
returns-in-Release-clause-took g c = rw c.in-Release.is (named-took (g.B.Board.sight c.args.board.now) c.args.self.now c.release.new.self (Release c.in-Release.name) (reply_of c.release.result) refl refl c.release.ensures.step)

pub returns-in-Release-clause-stands : goal.returns-in-Release-clause-stands
returns-in-Release-clause-stands g c = rw c.release.ensures.released (releasing-stands c.in-Release.name c.args.self.now (g.B.Board.sight c.args.board.now).line c.requires)

pub returns-in-Ask-clause-took : goal.returns-in-Ask-clause-took
returns-in-Ask-clause-took g c =
    rw c.in-Ask.is (IfOk-weaker c.ask.result _ _ (λ r is. asked-took (g.B.Board.sight c.args.board.now) c.args.self.now (compute_meant c.in-Ask.question) (reply_of r) c.requires is) c.ask.ensures)
