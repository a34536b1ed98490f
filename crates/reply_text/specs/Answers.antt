-- The answers of the code, as those of the definitions.
--     words_of ws                     the degrees of class words, each with its class numbers
--     shown_of, why_of, answer_of     what is shown, why nothing is, and either
use Rattle.std.specs.Prelude.{ℕ, List, map, Ok, Err}
use Rattle.transcript.specs.Refusals as definition
use Rattle.transcript.specs.Answers as definition_of
use Rattle.class_solver.specs.declared.word.ClassWord.{ClassWord}
use Rattle.reply_text.specs.Rows.{pairings_in}
use Rattle.reply_text.specs.declared.shown.Shown.{Shown}
use Rattle.reply_text.specs.declared.shown.Shown.TheVariants as shown
use Rattle.reply_text.specs.declared.shown.Why.{Why}
use Rattle.reply_text.specs.declared.shown.Why.TheVariants as why
use Rattle.reply_text.specs.declared.shown.Answer.{Answer}
use Rattle.reply_text.specs.declared.shown.Answer.TheVariants.{Done, Refused}

abbrev pub words_of : List ClassWord → List (ℕ × List ℕ)
words_of ws = map (λ w. (w.degree, w.numbers.items)) ws

abbrev pub shown_of : Shown → definition_of.Shown
shown_of (shown.Numbers ns) = definition_of.Numbers ns.items
shown_of (shown.Kind s essential) = definition_of.Kind s essential
shown_of (shown.Maps s f phi) = definition_of.Maps s f.items phi.items
shown_of (shown.Essential p ss) = definition_of.Essential p ss.items
shown_of (shown.Cochain p ss) = definition_of.Cochain p ss.items
shown_of (shown.Chain p ss) = definition_of.Chain p ss.items
shown_of (shown.Class w) = definition_of.Class w.degree w.numbers.items
shown_of (shown.Words ws) = definition_of.Words (words_of ws.items)
shown_of (shown.Rows pairings) = definition_of.Rows (pairings_in pairings.items)
shown_of (shown.Bit b) = definition_of.Bit b
shown_of shown.Passed = definition_of.Passed

abbrev pub why_of : Why → definition.Why
why_of (why.NotThere s) = definition.NotThere s
why_of (why.Degree s) = definition.Degree s
why_of (why.NoClass k) = definition.NoClass k
why_of (why.NotCocycle s) = definition.NotCocycle s
why_of (why.Differs s) = definition.Differs s
why_of (why.Degrees p q) = definition.Degrees p q
why_of why.Nothing = definition.Nothing
why_of (why.NotPure s) = definition.NotPure s
why_of (why.Ridge s times) = definition.Ridge s times
why_of (why.Link s bettis) = definition.Link s bettis.items
why_of (why.Degenerate w) = definition.Degenerate w.degree w.numbers.items
why_of (why.Sum sum dim) = definition.Sum sum dim

abbrev pub answer_of : Answer → definition_of.Answer
answer_of (Done s) = Ok (shown_of s)
answer_of (Refused w) = Err (why_of w)
