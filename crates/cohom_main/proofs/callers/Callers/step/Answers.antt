-- The step of a caller is that of the script.
use Rattle.std.proofs.Common.{◌≡◌, sym, ◌∙◌, get_or}
use Rattle.std.proofs.lemmas.Result.{IfOk-weaker}
use Rattle.facet_reader.specs.Meanings.{request_meant}
use Rattle.reply_text.specs.Replies.{reply_of}
use Rattle.cohom_main.proofs.Turns.{beside-after, replied, went}
use Rattle.cohom_main.proofs.callers.Callers.step.Goals as goal
use Rattle.cohom_main.proofs.callers.Callers.step.Goals.{in-Ask, in_default}

-- what the session held, whether it was prepared or not
held : (c : goal.After-self-1) → c.match-request.session ≡ get_or c.self.inside.sessions.items c.args.caller c.index_mut-session.result.now
held c =
    elim c.match-request.branch [ in-Ask w ↦ w.session-is ∙ w.prepare.ensures | in_default w ↦ w.session-is ]
    ∙ rw c.from.ensures at c.index_mut-session.ensures.value

pub invariant_of-self : goal.invariant_of-self
invariant_of-self c =
    rw c.from.ensures (beside-after c.self.inside.board c.step.new.board c.self.inside.sessions.items c.args.caller c.match-request.session c.step.new.self (request_meant c.args.request.now) reply_of c.step.result
    c.self.invariant (rw c.turn.ensures at c.step.ensures.took) (rw c.turn.ensures at c.step.ensures.still) c.step.ensures.stands)

pub returns-clause-reply : goal.returns-clause-reply
returns-clause-reply c =
    rw (sym c.self.view_is) (IfOk-weaker c.step.result _ _
    (λ r. replied c.self.inside.board c.step.new.board c.self.inside.sessions.items c.args.caller c.match-request.session c.index_mut-session.result.now c.step.new.self (request_meant c.args.request.now) (reply_of r)
    c.requires c.self.invariant (held c))
    (rw c.turn.ensures at c.step.ensures.took))

pub returns-clause-after : goal.returns-clause-after
returns-clause-after c =
    rw (sym c.self.view_is, c.from.ensures) (IfOk-weaker c.step.result _ _
    (λ r. went c.self.inside.board c.step.new.board c.self.inside.sessions.items c.args.caller c.match-request.session c.index_mut-session.result.now c.step.new.self (request_meant c.args.request.now) (reply_of r)
    c.requires c.self.invariant (held c))
    (rw c.turn.ensures at c.step.ensures.took))
