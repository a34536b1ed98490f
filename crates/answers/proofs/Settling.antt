-- What is refused below is told above.
--     graded-stops      what is wrong with a sum is wrong with its word
use Rattle.std.proofs.Common.{◌≡◌, ℕ, Option, Some, None, Result, Err, sym, ap, ◌∙◌}
use Rattle.std.specs.Prelude.{option_map, IfSome}
use Rattle.homology.specs.Sets.{Ids}
use Rattle.cohomology.specs.Words.{NotSettled}
use Rattle.transcript.specs.Refusals.{not_settled}
use Rattle.transcript.specs.Words.{with_degree}
use Rattle.reply_text.specs.Answers.{why_of}
use Rattle.answers.specs.Answers.{Stops, stop_said}
use Rattle.answers.specs.declared.stop.Stop.{Stop}
use Rattle.answers.specs.declared.stop.Stop.TheVariants as stop

pub graded-stops : (p : ℕ) (v : Result Ids NotSettled) (o : Option NotSettled) (e : Stop) → IfSome o (λ x. v ≡ Err x) → stop_said e ≡ option_map not_settled o
    → Stops (with_degree p v) e
graded-stops p v o stop.Memory h is = tt
graded-stops p v None (stop.Refused u) h is = absurd (cc)
graded-stops p v (Some x) (stop.Refused u) h is = let same : why_of u ≡ not_settled x = cc in ap (with_degree p) h ∙ ap Err (sym same)
