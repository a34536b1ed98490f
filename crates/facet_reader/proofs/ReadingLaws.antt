-- A line by what it begins with.
--     request-blank, request-comment, request-facet, request-worded     the kinds of request, but for facets in brackets
--     brackets-made, brackets-refused  facets in brackets, and why they are none
--     facet-made, facet-refused        the vertices of a facet, and why they are none
--     reading-named, reading-plain     a line with a caller word, and one without
--     reading-then, reading-refused    a line behind its caller word, and one with a bad caller word
--     told                             a refusal that names a fault tells it
use Rattle.std.proofs.Common.{◌≡◌, ℕ, ◌-◌, ◌||◌, ◌==◌, true, false, cond, List, [], ◌∷◌, drop, Option, Some, None, Result, Ok, Err, refl, sym, ap, ◌∙◌, ne_eqb, get_or}
use Rattle.language.specs.Words.{Word, words}
use Rattle.language.specs.declared.fault.Fault.{Fault}
use Rattle.language.specs.declared.fault.FaultKind.TheVariants as kind
use Rattle.language.specs.Language.{Request, Blank, Facet}
use Rattle.language.specs.Arguments.{is_digit, in_order, caller_word, vertex_word}
use Rattle.language.specs.Brackets.{bracket_word}
use Rattle.language.specs.Grammar.{Left, form, bracketed, at_column, alone, many, request, request_at, reading, asked, asked_at, facet, chosen, requests, one, and_then}
use Rattle.facet_reader.specs.declared.refusal.ReadRefusal.{ReadRefusal}
use Rattle.facet_reader.specs.declared.refusal.ReadRefusal.TheVariants as line
use Rattle.language.specs.declared.fault.Fault.{Fault}
use Rattle.facet_reader.specs.declared.refusal.WordRefusal.{WordRefusal}
use Rattle.facet_reader.specs.declared.refusal.WordRefusal.TheVariants as word
use Rattle.facet_reader.specs.Meanings.{Refuses, RefusesWord, refused}
use Rattle.facet_reader.specs.Fronts.{front, TakesCaller}

pub request-blank : (left : Left) → front left.words ≡ None → request left ≡ Ok Blank
unfolding request
request-blank left none = by left.words none
  where
    by : (ws : List Word) → front ws ≡ None → request_at left ws ≡ Ok Blank
    by [] e = refl
    by (w ∷ ws) e = absurd cc

-- the column of the first word
abbrev column_of : List Word → ℕ
column_of [] = 0
column_of (w ∷ ws) = w.column

-- a request by the byte that it begins with
abbrev begun : Left → List Word → ℕ → Result Request Fault
begun left ws b =
    cond (b == 37 || b == 35) (Ok Blank)
    (cond (b == 91) (bracketed left.line (column_of ws)) (cond (is_digit b) (facet left) (chosen kind.Request requests left)))

request-front : (left : Left) (b : ℕ) → front left.words ≡ Some b → request left ≡ begun left left.words b
unfolding request
request-front left b is = by left.words is
  where
    by : (ws : List Word) → front ws ≡ Some b → request_at left ws ≡ begun left ws b
    by [] e = absurd cc
    by (w ∷ ws) e =
        let same : get_or w.bytes 0 0 ≡ b = cc in
        ap (begun left (w ∷ ws)) same

-- a request that is no comment
abbrev behind_comment : Left → ℕ → Result Request Fault
behind_comment left b = cond (b == 91) (bracketed left.line (column_of left.words)) (cond (is_digit b) (facet left) (chosen kind.Request requests left))

pub request-comment : (left : Left) (b : ℕ) → front left.words ≡ Some b → (b == 37 || b == 35) ≡ true → request left ≡ Ok Blank
request-comment left b is mark =
    request-front left b is ∙ ap (λ t. cond t (Ok Blank) (behind_comment left b)) mark

pub request-facet : (left : Left) (b : ℕ) → front left.words ≡ Some b → (b == 37 || b == 35) ≡ false → (b == 91) ≡ false → is_digit b ≡ true → request left ≡ facet left
request-facet left b is mark other digit =
    request-front left b is
    ∙ ap (λ t. cond t (Ok Blank) (behind_comment left b)) mark
    ∙ ap (λ t. cond t (bracketed left.line (column_of left.words)) (cond (is_digit b) (facet left) (chosen kind.Request requests left))) other
    ∙ ap (λ t. cond t (facet left) (chosen kind.Request requests left)) digit

pub request-worded : (left : Left) (b : ℕ) → front left.words ≡ Some b → (b == 37 || b == 35) ≡ false → (b == 91) ≡ false → is_digit b ≡ false → request left ≡ chosen kind.Request requests left
request-worded left b is mark other digit =
    request-front left b is
    ∙ ap (λ t. cond t (Ok Blank) (behind_comment left b)) mark
    ∙ ap (λ t. cond t (bracketed left.line (column_of left.words)) (cond (is_digit b) (facet left) (chosen kind.Request requests left))) other
    ∙ ap (λ t. cond t (facet left) (chosen kind.Request requests left)) digit

pub reading-named : (l : List ℕ) (left : Left) → left.line ≡ l → left.words ≡ words l → front left.words ≡ Some 64 → reading l ≡ and_then (one caller_word left) (λ (k, rest). asked (Some k) rest)
unfolding reading
reading-named l left line' words' at =
    let is : record { line = l; words = words l } ≡ left = λ i. record { line = sym line' i; words = sym words' i } in
    ap (λ whole. asked_at whole whole.words) is ∙ by left.words at
  where
    by : (ws : List Word) → front ws ≡ Some 64 → asked_at left ws ≡ and_then (one caller_word left) (λ (k, rest). asked (Some k) rest)
    by [] e = absurd cc
    by (w ∷ ws) e =
        let same : get_or w.bytes 0 0 ≡ 64 = cc in
        ap (λ x. cond (x == 64) (and_then (one caller_word left) (λ (k, rest). asked (Some k) rest)) (asked None left)) same

pub reading-plain : (l : List ℕ) (left : Left) → left.line ≡ l → left.words ≡ words l → (front left.words ≡ Some 64 → ⊥) → reading l ≡ asked None left
unfolding reading
reading-plain l left line' words' other =
    let is : record { line = l; words = words l } ≡ left = λ i. record { line = sym line' i; words = sym words' i } in
    ap (λ whole. asked_at whole whole.words) is ∙ by left.words other
  where
    by : (ws : List Word) → (front ws ≡ Some 64 → ⊥) → asked_at left ws ≡ asked None left
    by [] e = refl
    by (w ∷ ws) e =
        let apart : (get_or w.bytes 0 0 == 64) ≡ false = ne_eqb (get_or w.bytes 0 0) 64 (λ same. e (ap Some same)) in
        ap (λ t. cond t (and_then (one caller_word left) (λ (k, rest). asked (Some k) rest)) (asked None left)) apart

pub facet-made : (left : Left) (s vs : List ℕ) → alone (many vertex_word) left ≡ Ok vs → s ≡ in_order vs → facet left ≡ Ok (Facet (s ∷ []))
unfolding form
facet-made left s vs read is =
    ap (λ r. and_then r (λ a. Ok (Facet (in_order a ∷ [])))) read ∙ ap (λ t. Ok (Facet (t ∷ []))) (sym is)

pub facet-refused : (left : Left) (e : ReadRefusal) → Refuses (alone (many vertex_word) left) e → Refuses (facet left) e
unfolding form
facet-refused left (line.Bad b) h = ap (λ r. and_then r (λ a. Ok (Facet (in_order a ∷ [])))) h
facet-refused left line.Memory h = tt

-- a request that begins with `[`
request-bracketed : (left : Left) (w : Word) (ws : List Word) → front left.words ≡ Some 91 → left.words ≡ w ∷ ws → request left ≡ bracketed left.line w.column
request-bracketed left w ws is words' =
    request-front left 91 is ∙ ap (λ v. bracketed left.line (column_of v)) words'

pub brackets-made : (left : Left) (w : Word) (ws : List Word) (list : List ℕ) (facets : List (List ℕ)) → front left.words ≡ Some 91 → left.words ≡ w ∷ ws → list ≡ drop (w.column - 1) left.line → bracket_word list ≡ Ok facets → request left ≡ Ok (Facet facets)
brackets-made left w ws list facets is words' from read =
    request-bracketed left w ws is words'
    ∙ ap (λ r. and_then (at_column w.column r) (λ F. Ok (Facet F))) (ap bracket_word (sym from) ∙ read)

pub brackets-refused : (left : Left) (w : Word) (ws : List Word) (list : List ℕ) (r : WordRefusal) (e : ReadRefusal) → front left.words ≡ Some 91 → left.words ≡ w ∷ ws → list ≡ drop (w.column - 1) left.line → RefusesWord (bracket_word list) r → e ≡ refused w.column r → Refuses (request left) e
brackets-refused left w ws list (word.Bad k) e is words' from h told =
    rw told (request-bracketed left w ws is words'
    ∙ ap (λ r. and_then (at_column w.column r) (λ F. Ok (Facet F))) (ap bracket_word (sym from) ∙ h))
brackets-refused left w ws list word.Memory e is words' from h told = rw told tt

pub reading-then : (l : List ℕ) (left rest : Left) (k : Option ℕ) → left.line ≡ l → left.words ≡ words l → TakesCaller left rest (Ok k) → reading l ≡ asked k rest
reading-then l left rest (Some k) line' words' takes =
    reading-named l left line' words' takes.0 ∙ ap (λ r. and_then r (λ (j, behind). asked (Some j) behind)) takes.1
reading-then l left rest None line' words' takes =
    reading-plain l left line' words' takes.0 ∙ ap (asked None) (sym takes.1)

pub reading-refused : (l : List ℕ) (left : Left) (e : ReadRefusal) → left.line ≡ l → left.words ≡ words l → (front left.words ≡ Some 64) × Refuses (one caller_word left) e → Refuses (reading l) e
reading-refused l left (line.Bad b) line' words' h =
    reading-named l left line' words' h.0 ∙ ap (λ r. and_then r (λ (j, behind). asked (Some j) behind)) h.1
reading-refused l left line.Memory line' words' h = tt

pub asked-refused : (k : Option ℕ) (rest : Left) (e : ReadRefusal) → Refuses (request rest) e → Refuses (asked k rest) e
asked-refused k rest (line.Bad b) h = ap (λ r. and_then r (λ q. Ok (record { caller = k; request = q }))) h
asked-refused k rest line.Memory h = tt

pub asked-made : (k : Option ℕ) (rest : Left) (q : Request) → request rest ≡ Ok q → asked k rest ≡ Ok (record { caller = k; request = q })
asked-made k rest q h = ap (λ r. and_then r (λ p. Ok (record { caller = k; request = p }))) h

pub told : {A : Type 0} (d : Result A Fault) (e : ReadRefusal) (b : Fault) → Refuses d e → e ≡ line.Bad b → d ≡ Err b
told d (line.Bad b') b h same = (let is : b' ≡ b = cc in h ∙ ap (λ x. Err x) is)
told d line.Memory b h same = absurd cc
