-- The words of requests.
--     step_text s            the word of a step
--     verb_text v            the words of a question
--     verb c                 the verb of a question
--     same_text              the word before that of an operation, where two of its results are to be of one class
use Rattle.std.specs.Prelude.{ℕ, List, ◌∷◌, ◌++◌, codes}
use Rattle.language.specs.Language.{Compute}
use Rattle.language.specs.Language as ask
use Rattle.language.specs.declared.step.Step.{Step}
use Rattle.language.specs.declared.step.Step.TheVariants as step
use Rattle.language.specs.declared.verb.Verb.{Verb}
use Rattle.language.specs.declared.verb.Verb.TheVariants as word

abbrev pub step_text : Step → List ℕ
step_text step.Attach = codes "attach"
step_text step.Facet = codes "facet"
step_text step.Cut = codes "cut"
step_text step.Back = codes "back"
step_text step.See = codes "see"
step_text step.After = codes "after"
step_text step.Hold = codes "hold"
step_text step.Take = codes "use"
step_text step.Release = codes "drop"
step_text step.Round = codes "round"
step_text step.Quit = codes "quit"

abbrev pub verb : Compute → Verb
verb ask.Count = word.Count
verb ask.Betti = word.Betti
verb (ask.KindOf s) = word.KindOf
verb (ask.ModelOf s) = word.ModelOf
verb (ask.Compute.Classes p) = word.Classes
verb (ask.Show a) = word.Show
verb (ask.ShowChain c) = word.ShowChain
verb (ask.Delta a) = word.Delta
verb (ask.Boundary c) = word.Boundary
verb (ask.ClassOf a) = word.ClassOf
verb (ask.Bound a) = word.Bound
verb (ask.Cup a b) = word.Cup
verb (ask.CupI i a b) = word.CupI
verb (ask.Square k a) = word.Square
verb (ask.Bockstein a) = word.Bockstein
verb (ask.SameCup a a2 b b2) = word.SameCup
verb (ask.SameSquare k a a2) = word.SameSquare
verb (ask.SameBockstein a a2) = word.SameBockstein
verb (ask.Cap a c) = word.Cap
verb ask.Closed = word.Closed
verb ask.Links = word.Links
verb ask.Duality = word.Duality
verb ask.Wu = word.Wu
verb ask.Sw = word.Sw
verb (ask.SwNumber parts) = word.SwNumber

-- the words of the operations that may stand behind `same`
abbrev pub cup_text : List ℕ
cup_text = codes "cup"

abbrev pub square_text : List ℕ
square_text = codes "square"

abbrev pub bockstein_text : List ℕ
bockstein_text = codes "bockstein"

abbrev pub same_text : List ℕ
same_text = codes "same"

abbrev pub behind_same : List ℕ → List ℕ
behind_same w = same_text ++ 32 ∷ w

abbrev pub verb_text : Verb → List ℕ
verb_text word.Count = codes "count"
verb_text word.Betti = codes "betti"
verb_text word.KindOf = codes "kind"
verb_text word.ModelOf = codes "model"
verb_text word.Classes = codes "classes"
verb_text word.Show = codes "cochain"
verb_text word.ShowChain = codes "chain"
verb_text word.Delta = codes "delta"
verb_text word.Boundary = codes "boundary"
verb_text word.ClassOf = codes "class"
verb_text word.Bound = codes "bound"
verb_text word.Cup = cup_text
verb_text word.CupI = codes "cupi"
verb_text word.Square = square_text
verb_text word.Bockstein = bockstein_text
verb_text word.SameCup = behind_same cup_text
verb_text word.SameSquare = behind_same square_text
verb_text word.SameBockstein = behind_same bockstein_text
verb_text word.Cap = codes "cap"
verb_text word.Closed = codes "closed"
verb_text word.Links = codes "links"
verb_text word.Duality = codes "duality"
verb_text word.Wu = codes "wu"
verb_text word.Sw = codes "sw"
verb_text word.SwNumber = codes "swnumber"
