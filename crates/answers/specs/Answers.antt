-- What stops a question, and its answers, as those of the definitions.
--     stop_said e     what the stop e says; nothing where no memory was left
--     Stops v e       the stop e says what is wrong with what is settled as v; want of memory may come at any
--     Answers d r     r is the answer d: what is shown, or why nothing is; want of memory may come at any
use Rattle.std.specs.Prelude.{◌≡◌, ⊤, Option, Some, None, Result, Ok, Err}
use Rattle.transcript.specs.Refusals as definition
use Rattle.transcript.specs.Answers as definition_of
use Rattle.reply_text.specs.Answers.{shown_of, why_of}
use Rattle.reply_text.specs.declared.shown.Shown.{Shown}
use Rattle.answers.specs.declared.stop.Stop.{Stop}
use Rattle.answers.specs.declared.stop.Stop.TheVariants as stop

abbrev pub stop_said : Stop → Option definition.Why
stop_said (stop.Refused w) = Some (why_of w)
stop_said stop.Memory = None

abbrev pub Stops : {A : Type 0} → Result A definition.Why → Stop → Type 0
Stops v (stop.Refused w) = v ≡ Err (why_of w)
Stops v stop.Memory = ⊤

abbrev pub Answers : definition_of.Answer → Result Shown Stop → Type 0
Answers d (Ok s) = d ≡ Ok (shown_of s)
Answers d (Err (stop.Refused w)) = d ≡ Err (why_of w)
Answers d (Err stop.Memory) = ⊤
