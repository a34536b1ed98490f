-- The grammar of requests, and the reading of a line.
--     Left                       what is left of a line: its words, with the whole line
--     Places A                   a way to take words from the left, which gives a value, and what is left behind them
--     one r, both p q, many r    one word, as r reads it; the places p and then q; all words, of which there is at least
--                                one, as r reads each behind the values of those before it
--     Form                       a way to take all the words behind a request word
--     form p build               the places p, behind which no word stands, and the request that their values make
--     step_form s, verb_form v   the places behind the word of a step, and behind the words of a question, with the request
--     requests                   the request words with their forms: of steps, of questions, and `same`
--     sames                      the words that may stand behind `same`, with theirs
--     reading l                  what the line l asks for, or why it asks for nothing
-- The words of a line are taken from left to right. The first that cannot stand at its place is the fault. Facets in brackets
-- are one word, which goes to the end of the line.
use Rattle.std.specs.Prelude.{ℕ, ◌+◌, ◌-◌, cond, ◌||◌, ◌==◌, List, [], ◌∷◌, ◌++◌, map, length, drop, slice_index, Option, Some, None, Result, Ok, Err}
use Rattle.homology.specs.Simplices.{same_list}
use Rattle.language.specs.Words.{Word, words}
use Rattle.language.specs.declared.fault.FaultKind.{FaultKind}
use Rattle.language.specs.declared.fault.Fault.{Fault}
use Rattle.language.specs.declared.fault.FaultKind.TheVariants as kind
use Rattle.language.specs.Language.{CochainWord, ChainWord, Compute, Request, Asked, Count, Betti, KindOf, ModelOf, Show, ShowChain, Delta, Boundary, ClassOf, Bound, Cup, CupI, Square, Bockstein, SameCup, SameSquare, SameBockstein, Cap, Closed, Links, Duality, Wu, Sw, SwNumber, Blank, Attach, Facet, Cut, Back, See, After, Hold, Take, Release, Round, Quit, Ask}
use Rattle.language.specs.declared.step.Step.{Step}
use Rattle.language.specs.declared.step.Step.TheVariants as step
use Rattle.language.specs.declared.step.TheConstants.{STEPS}
use Rattle.language.specs.declared.verb.Verb.{Verb}
use Rattle.language.specs.declared.verb.Verb.TheVariants as word
use Rattle.language.specs.declared.verb.TheConstants.{VERBS}
use Rattle.language.specs.Verbs.{step_text, verb_text, same_text}
use Rattle.language.specs.Arguments.{is_digit, in_order, number_word, degree_word, simplex_word, cochain_word, chain_word, name_word, vertex_word, caller_word}
use Rattle.language.specs.Brackets.{bracket_word}

pub record Left : Type 0 where
  pub line : List ℕ
  pub words : List Word

abbrev pub and_then : {A B E : Type 0} → Result A E → (A → Result B E) → Result B E
and_then (Ok a) f = f a
and_then (Err e) f = Err e

abbrev pub at_column : {A : Type 0} → ℕ → Result A FaultKind → Result A Fault
at_column column (Ok a) = Ok a
at_column column (Err k) = Err (record { column = column; kind = k })

abbrev pub Places : Type 0 → Type 0
Places A = Left → Result (A × Left) Fault

unfoldable pub nothing : Places (Unit {0})
nothing left = Ok (tt, left)

-- a word is lacking at the end of the line
abbrev pub missing : {A : Type 0} → List ℕ → Result A Fault
missing line = Err (record { column = length line + 1; kind = kind.Missing })

abbrev pub taken : {A : Type 0} → (List ℕ → Result A FaultKind) → List ℕ → List Word → Result (A × Left) Fault
taken read line [] = missing line
taken read line (w ∷ ws) =
    and_then (at_column w.column (read w.bytes)) (λ a. Ok (a, record { line = line; words = ws }))

unfoldable pub one : {A : Type 0} → (List ℕ → Result A FaultKind) → Places A
one read left = taken read left.line left.words

unfoldable pub both : {A B : Type 0} → Places A → Places B → Places (A × B)
both p q left = and_then (p left) (λ (a, rest). and_then (q rest) (λ (b, end). Ok ((a, b), end)))

abbrev pub more : {A : Type 0} → (List A → List ℕ → Result A FaultKind) → List A → List Word → Result (List A) Fault
more read before [] = Ok before
more read before (w ∷ ws) =
    and_then (at_column w.column (read before w.bytes)) (λ a. more read (before ++ a ∷ []) ws)

abbrev pub all_of : {A : Type 0} → (List A → List ℕ → Result A FaultKind) → List ℕ → List Word → Result (List A × Left) Fault
all_of read line [] = missing line
all_of read line (w ∷ ws) = and_then (more read [] (w ∷ ws)) (λ values. Ok (values, record { line = line; words = [] }))

unfoldable pub many : {A : Type 0} → (List A → List ℕ → Result A FaultKind) → Places (List A)
many read left = all_of read left.line left.words

abbrev pub Form : Type 0
Form = Left → Result Request Fault

abbrev pub ended : {A : Type 0} → A → List Word → Result A Fault
ended a [] = Ok a
ended a (w ∷ ws) = Err (record { column = w.column; kind = kind.Extra })

-- the places, behind which no word stands
unfoldable pub alone : {A : Type 0} → Places A → Left → Result A Fault
alone places left = and_then (places left) (λ (a, rest). ended a rest.words)

unfoldable pub form : {A : Type 0} → Places A → (A → Request) → Form
form places build left = and_then (alone places left) (λ a. Ok (build a))

pub record Entry : Type 0 where
  pub name : List ℕ
  pub form : Form

-- the form of a word of a table
abbrev pub named : FaultKind → List Entry → List ℕ → Result Form FaultKind
named k [] w = Err k
named k (e ∷ es) w = cond (same_list w e.name) (Ok e.form) (named k es w)

-- a word of a table, and its form
unfoldable pub chosen : FaultKind → List Entry → Form
chosen k table left = and_then (one (named k table) left) (λ (f, rest). f rest)

abbrev pub entry : List ℕ → Form → Entry
entry name form_of = record { name = name; form = form_of }

-- the table of these, with their words and forms
abbrev pub table : {V : Type 0} → (V → List ℕ) → (V → Form) → List V → List Entry
table text form_of vs = map (λ v. entry (text v) (form_of v)) vs

abbrev pub simplex : Places (List ℕ)
simplex = one simplex_word

abbrev pub degree : Places ℕ
degree = one degree_word

abbrev pub number : ℕ → ℕ → Places ℕ
number low high = one (number_word low high)

abbrev pub name : Places (List ℕ)
name = one name_word

abbrev pub cochain : Places CochainWord
cochain = one cochain_word

abbrev pub chain : Places ChainWord
chain = one chain_word

abbrev pub facet : Form
facet = form (many vertex_word) (λ vs. Facet (in_order vs ∷ []))

-- facets in brackets, from a column to the end of the line
abbrev pub bracketed : List ℕ → ℕ → Result Request Fault
bracketed line column =
    and_then (at_column column (bracket_word (drop (column - 1) line))) (λ facets. Ok (Facet facets))

-- the places behind the word of a step, and the request that their values make
abbrev pub step_form : Step → Form
step_form step.Attach = form simplex Attach
step_form step.Facet = facet
step_form step.Cut = form nothing (λ _. Cut)
step_form step.Back = form (number 0 999999999) Back
step_form step.See = form nothing (λ _. See)
step_form step.After = form (number 0 999999999) After
step_form step.Hold = form name Hold
step_form step.Take = form name Take
step_form step.Release = form name Release
step_form step.Round = form (number 1 64) Round
step_form step.Quit = form nothing (λ _. Quit)

-- the places behind the words of a question, and the question that their values make
abbrev pub verb_form : Verb → Form
verb_form word.Count = form nothing (λ _. Ask Count)
verb_form word.Betti = form nothing (λ _. Ask Betti)
verb_form word.KindOf = form simplex (λ s. Ask (KindOf s))
verb_form word.ModelOf = form simplex (λ s. Ask (ModelOf s))
verb_form word.Classes = form degree (λ p. Ask (Compute.Classes p))
verb_form word.Show = form cochain (λ a. Ask (Show a))
verb_form word.ShowChain = form chain (λ c. Ask (ShowChain c))
verb_form word.Delta = form cochain (λ a. Ask (Delta a))
verb_form word.Boundary = form chain (λ c. Ask (Boundary c))
verb_form word.ClassOf = form cochain (λ a. Ask (ClassOf a))
verb_form word.Bound = form cochain (λ a. Ask (Bound a))
verb_form word.Cup = form (both cochain cochain) (λ (a, b). Ask (Cup a b))
verb_form word.CupI = form (both degree (both cochain cochain)) (λ (i, (a, b)). Ask (CupI i a b))
verb_form word.Square = form (both degree cochain) (λ (k, a). Ask (Square k a))
verb_form word.Bockstein = form cochain (λ a. Ask (Bockstein a))
verb_form word.SameCup = form (both (both cochain cochain) (both cochain cochain)) (λ ((a, a2), (b, b2)). Ask (SameCup a a2 b b2))
verb_form word.SameSquare = form (both degree (both cochain cochain)) (λ (k, (a, a2)). Ask (SameSquare k a a2))
verb_form word.SameBockstein = form (both cochain cochain) (λ (a, a2). Ask (SameBockstein a a2))
verb_form word.Cap = form (both cochain chain) (λ (a, c). Ask (Cap a c))
verb_form word.Closed = form nothing (λ _. Ask Closed)
verb_form word.Links = form nothing (λ _. Ask Links)
verb_form word.Duality = form nothing (λ _. Ask Duality)
verb_form word.Wu = form nothing (λ _. Ask Wu)
verb_form word.Sw = form nothing (λ _. Ask Sw)
verb_form word.SwNumber = form (many (λ _. number_word 1 99)) (λ parts. Ask (SwNumber parts))

abbrev pub steps : List Entry
steps = table step_text step_form STEPS

-- the questions that begin with a word of their own
abbrev pub questions : List Entry
questions = table verb_text verb_form VERBS

abbrev pub sames : List Entry
sames =
    entry (verb_text word.Cup) (verb_form word.SameCup)
    ∷ entry (verb_text word.Square) (verb_form word.SameSquare)
    ∷ entry (verb_text word.Bockstein) (verb_form word.SameBockstein)
    ∷ []

unfoldable pub requests : List Entry
requests = steps ++ (questions ++ entry same_text (chosen kind.Word sames) ∷ [])

abbrev pub first_byte : Word → ℕ
first_byte w = slice_index w.bytes 0

-- nothing, a comment, facets in brackets, the vertices of a facet, or a request word and its form
abbrev pub request_at : Left → List Word → Result Request Fault
request_at left [] = Ok Blank
request_at left (w ∷ ws) =
    cond (first_byte w == 37 || first_byte w == 35) (Ok Blank)
    (cond (first_byte w == 91) (bracketed left.line w.column)
    (cond (is_digit (first_byte w)) (facet left) (chosen kind.Request requests left)))

unfoldable pub request : Form
request left = request_at left left.words

abbrev pub asked : Option ℕ → Left → Result Asked Fault
asked caller left = and_then (request left) (λ r. Ok (record { caller = caller; request = r }))

abbrev pub asked_at : Left → List Word → Result Asked Fault
asked_at left [] = asked None left
asked_at left (w ∷ ws) =
    cond (first_byte w == 64) (and_then (one caller_word left) (λ (k, rest). asked (Some k) rest)) (asked None left)

unfoldable pub reading : List ℕ → Result Asked Fault
reading l = asked_at (record { line = l; words = words l }) (words l)
