-- A line is a request of one of the callers, and looks as its request does.
use Rattle.std.proofs.Common.{◌≡◌, ◌<◌, [], ◌∷◌, ◌++◌, true, false, sym, ap, subst, ◌∙◌, append-nil}
use Rattle.std.proofs.lemmas.Result.{IfOk-weaker}
use Rattle.lines.specs.Lines.{callers}
use Rattle.transcript.specs.Transcripts.{looks_of_line}
use Rattle.facet_reader.specs.Meanings.{asked_meant}
use Rattle.cohom_main.proofs.CallerWords.{caller-within, caller-or}
use Rattle.cohom_main.proofs.Midst.{looks-read}
use Rattle.cohom_main.proofs.script.step_line.Goals as goal
use Rattle.cohom_main.proofs.script.step_line.Goals.{then-has_look+in_ok-reserve-in-Ok, else-has_look}

pub step-requires : goal.step-requires
step-requires c =
    subst (λ n. n < callers) (sym (c.unwrap_or.ensures ∙ caller-or c.in-Ok.asked.caller)) (caller-within c.args.line.now (asked_meant c.in-Ok.asked) c.in-Ok.ensures.asked)

-- the looks, with that of the request where it has one
looked : (c : goal.Joined-asked-2) → c.if-has_look.looks.lengths ≡ c.args.looks.now.lengths ++ looks_of_line c.args.callers.now c.args.line.now
looked c =
    let had = c.args.looks.now.lengths in
    let read = looks-read c.args.callers.now c.args.line.now (asked_meant c.in-Ok.asked) in
    elim c.if-has_look.branch [
      | then-has_look+in_ok-reserve-in-Ok w ↦ ap (λ l. l.lengths) w.looks-is
          ∙ w.add.ensures
          ∙ ap (λ xs. xs ++ w.entries.result ∷ []) w.reserve.ensures.same
          ∙ ap (λ n. had ++ n ∷ []) w.entries.ensures
          ∙ ap (λ xs. had ++ xs) (sym (read true c.in-Ok.ensures.asked (sym w.if-has_look.true ∙ c.has_look.ensures)))
      | else-has_look w ↦ ap (λ l. l.lengths) w.looks-is
          ∙ sym (append-nil had)
          ∙ ap (λ xs. had ++ xs) (sym (read false c.in-Ok.ensures.asked (sym w.if-has_look.false ∙ c.has_look.ensures)))
    ]

pub returns-after-has_look-clause-looked : goal.returns-after-has_look-clause-looked
returns-after-has_look-clause-looked c = IfOk-weaker c.step.result _ _ (λ r _. looked c) c.step.ensures.reply
