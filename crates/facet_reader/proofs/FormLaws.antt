-- Tables of words with their forms.
--     chosen-form, chosen-none, chosen-missing     a word of the table, another word, and no word
--     named-front, named-past      a word of the first of two tables, and one that is not in it
--     named-found                  the form of a word of a table is that of the first place with this word
--     found-has                    so a word stands in a table as it is found there, or not
--     request-step, request-question, request-same, request-unknown     the request words by their tables
use Rattle.std.proofs.Common.{◌≡◌, ℕ, ◌+◌, List, [], ◌∷◌, length, Option, Some, None, Result, Ok, Err, Bool, true, false, cond, ◌++◌, refl, sym, ap, ◌∙◌}
use Rattle.std.specs.List.{find}
use Rattle.std.specs.Option.{MatchOption}
use Rattle.language.specs.Words.{Word}
use Rattle.language.specs.declared.fault.FaultKind.{FaultKind}
use Rattle.language.specs.declared.fault.FaultKind.TheVariants.{Missing}
use Rattle.language.specs.declared.fault.FaultKind.TheVariants as kind
use Rattle.language.specs.Verbs.{same_text}
use Rattle.language.specs.Grammar.{Left, Entry, Form, named, chosen, and_then, entry, table, steps, questions, sames, requests}
use Rattle.homology.specs.Simplices.{same_list}
use Rattle.facet_reader.specs.Tables.{Has, Lacks}
use Rattle.facet_reader.proofs.PlaceLaws.{one-taken, one-bad, one-missing}

pub chosen-form : (k : FaultKind) (table : List Entry) (left rest : Left) (w : Word) (f : Form) → left.words ≡ w ∷ rest.words → rest.line ≡ left.line → Has table w.bytes f → chosen k table left ≡ f rest
unfolding chosen
chosen-form k table left rest w f words line' is =
    ap (λ r. and_then r (λ (g, behind). g behind)) (one-taken (named k table) left rest w f words line' (is k))

pub chosen-none : (k : FaultKind) (table : List Entry) (left : Left) (w : Word) (ws : List Word) → left.words ≡ w ∷ ws → Lacks table w.bytes → chosen k table left ≡ Err (record { column = w.column; kind = k })
unfolding chosen
chosen-none k table left w ws words is =
    ap (λ r. and_then r (λ (g, behind). g behind)) (one-bad (named k table) left w ws k words (is k))

pub chosen-missing : (k : FaultKind) (table : List Entry) (left : Left) → left.words ≡ [] → chosen k table left ≡ Err (record { column = length left.line + 1; kind = Missing })
unfolding chosen
chosen-missing k table left words = ap (λ r. and_then r (λ (g, behind). g behind)) (one-missing (named k table) left words)

-- a word of a table has its form in the tables that begin with it
pub named-front : (k : FaultKind) (es next : List Entry) (w : List ℕ) (f : Form) → named k es w ≡ Ok f → named k (es ++ next) w ≡ Ok f
named-front k [] next w f is = absurd cc
named-front k (e ∷ es) next w f is = by (same_list w e.name) is (named-front k es next w f)
  where
    by : (b : Bool) → cond b (Ok e.form) (named k es w) ≡ Ok f → (named k es w ≡ Ok f → named k (es ++ next) w ≡ Ok f) → cond b (Ok e.form) (named k (es ++ next) w) ≡ Ok f
    by true is' rest = is'
    by false is' rest = rest is'

-- a word that is not in a table is sought in the next
named-past : (k : FaultKind) (es next : List Entry) (w : List ℕ) → named k es w ≡ Err k → named k (es ++ next) w ≡ named k next w
named-past k [] next w none = refl
named-past k (e ∷ es) next w none = by (same_list w e.name) none (named-past k es next w)
  where
    by : (b : Bool) → cond b (Ok e.form) (named k es w) ≡ Err k → (named k es w ≡ Err k → named k (es ++ next) w ≡ named k next w) → cond b (Ok e.form) (named k (es ++ next) w) ≡ named k next w
    by true e' rest = absurd cc
    by false e' rest = rest e'

-- what is found in a list, as the form of a word
abbrev found : {V : Type 0} → FaultKind → (V → Form) → Option V → Result Form FaultKind
found k form_at None = Err k
found k form_at (Some v) = Ok (form_at v)

named-found : {V : Type 0} (text : V → List ℕ) (form_at : V → Form) (vs : List V) (w : List ℕ) (k : FaultKind) → named k (table text form_at vs) w ≡ found k form_at (find (λ v. same_list w (text v)) vs)
named-found text form_at [] w k = refl
named-found {V} text form_at (v ∷ vs) w k = by (same_list w (text v)) (named-found text form_at vs w k)
  where
    by : (b : Bool) → named k (table text form_at vs) w ≡ found k form_at (find (λ x. same_list w (text x)) vs) → cond b (Ok (form_at v)) (named k (table text form_at vs) w) ≡ found k form_at (cond b (Some v) (find (λ x. same_list w (text x)) vs))
    by true rest = refl
    by false rest = rest

pub found-has : {V : Type 0} (text : V → List ℕ) (form_at : V → Form) (vs : List V) (w : List ℕ) (r : Option V) → r ≡ find (λ v. same_list w (text v)) vs → MatchOption r (Lacks (table text form_at vs) w) (λ v. Has (table text form_at vs) w (form_at v))
found-has text form_at vs w None is = λ k. named-found text form_at vs w k ∙ ap (found k form_at) (sym is)
found-has text form_at vs w (Some v) is = λ k. named-found text form_at vs w k ∙ ap (found k form_at) (sym is)

pub request-step : (w : List ℕ) (f : Form) → Has steps w f → Has requests w f
unfolding requests
request-step w f has = λ k. named-front k steps (questions ++ entry same_text (chosen kind.Word sames) ∷ []) w f (has k)

pub request-question : (w : List ℕ) (f : Form) → Lacks steps w → Has questions w f → Has requests w f
unfolding requests
request-question w f no_step has = λ k.
    named-past k steps (questions ++ entry same_text (chosen kind.Word sames) ∷ []) w (no_step k)
    ∙ named-front k questions (entry same_text (chosen kind.Word sames) ∷ []) w f (has k)

pub request-same : (w : List ℕ) → Lacks steps w → Lacks questions w → same_list w same_text ≡ true → Has requests w (chosen kind.Word sames)
unfolding requests
request-same w no_step no_question same = λ k.
    named-past k steps (questions ++ entry same_text (chosen kind.Word sames) ∷ []) w (no_step k)
    ∙ named-past k questions (entry same_text (chosen kind.Word sames) ∷ []) w (no_question k)
    ∙ ap (λ b. cond b (Ok (chosen kind.Word sames)) (Err k)) same

pub request-unknown : (w : List ℕ) → Lacks steps w → Lacks questions w → same_list w same_text ≡ false → Lacks requests w
unfolding requests
request-unknown w no_step no_question same = λ k.
    named-past k steps (questions ++ entry same_text (chosen kind.Word sames) ∷ []) w (no_step k)
    ∙ named-past k questions (entry same_text (chosen kind.Word sames) ∷ []) w (no_question k)
    ∙ ap (λ b. cond b (Ok (chosen kind.Word sames)) (Err k)) same
