-- The question is named, and answered on the version in use.
use Rattle.std.proofs.Common.{◌≡◌, ℕ, [], ap, ◌∙◌}
use Rattle.std.proofs.lemmas.List.{get_or_read}
use Rattle.homology.specs.Complexes.{Complex}
use Rattle.language.specs.declared.verb.Verb.{Verb}
use Rattle.language.specs.Verbs.{verb}
use Rattle.lines.specs.Lines.{Line, cuts, version}
use Rattle.transcript.specs.Answers.{answer}
use Rattle.transcript.specs.Replies.{Computed}
use Rattle.facet_reader.specs.Meanings.{compute_meant}
use Rattle.reply_text.specs.Answers.{answer_of}
use Rattle.session_core.specs.Holdings.{Holding}
use Rattle.session_core.proofs.session.Session.ask.Goals as goal
use Rattle.session_core.proofs.session.Session.ask.Goals.{then-self, else-self}

pub returns : goal.returns
returns c =
    let L = c.index-root.result.now in
    let K = c.args.self.now.in_use in
    let q = compute_meant c.args.question.now in
    let A = answer_of c.in_ok-answer.answer in
    let at : L ≡ K = get_or_read c.self.inside.roots.items c.self.inside.in_use L c.self.invariant.used c.index-root.ensures [] ∙ ap (λ (h : Holding). h.in_use) c.self.view_is in
    let on : c.if-self.version ≡ version L (cuts L) = elim c.if-self.branch [
      | then-self w ↦ w.version-is ∙ w.new-version.ensures ∙ w.model.ensures
      | else-self w ↦ w.version-is ∙ w.bare-version.ensures ∙ w.model-else-self.ensures
    ] in
    ap (λ (n : ℕ). Computed n c.verb.result A) (c.version.ensures ∙ ap cuts at)
    ∙ ap (λ (v : Verb). Computed (cuts K) v A) c.verb.ensures
    ∙ ap (Computed (cuts K) (verb q)) (c.in_ok-answer.ensures ∙ ap (λ (M : Complex). answer M q) (on ∙ ap (λ (M : Line). version M (cuts M)) at))
