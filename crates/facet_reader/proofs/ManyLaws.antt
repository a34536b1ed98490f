-- Words of which there may be any number.
--     more-one, more-bad                the next word is read, or is the fault
--     all-read, all-bad, all-missing    what becomes of a line whose words are read so to its end
--     distinct_more                     a new number leaves the numbers distinct
use Rattle.std.proofs.Common.{◌≡◌, ℕ, ◌+◌, ◌<◌, ◌&&◌, ◌||◌, ◌==◌, true, false, not, List, [], ◌∷◌, ◌++◌, length, Result, Ok, Err, refl, ap, ◌∙◌, arith}
use Rattle.std.specs.List.{list_any}
use Rattle.std.proofs.lemmas.Bool.Decides.{nat_tests}
use Rattle.std.proofs.lemmas.List.Folds.{list_any-append}
use Rattle.language.specs.Words.{Word}
use Rattle.language.specs.declared.fault.FaultKind.{FaultKind}
use Rattle.language.specs.declared.fault.Fault.{Fault}
use Rattle.language.specs.declared.fault.FaultKind.TheVariants.{Missing}
use Rattle.language.specs.Arguments.{is_distinct}
use Rattle.language.specs.Grammar.{Left, many, alone, all_of, more, ended, and_then, at_column}
use Rattle.facet_reader.proofs.Passes.{right_of}

pub more-one : {A : Type 0} (read : List A → List ℕ → Result A FaultKind) (before : List A) (words ws : List Word) (w : Word) (a : A) → words ≡ w ∷ ws → read before w.bytes ≡ Ok a → more read before words ≡ more read (before ++ a ∷ []) ws
more-one read before words ws w a cut is =
    ap (more read before) cut ∙ ap (λ r. and_then (at_column w.column r) (λ b. more read (before ++ b ∷ []) ws)) is

pub more-bad : {A : Type 0} (read : List A → List ℕ → Result A FaultKind) (before : List A) (words ws : List Word) (w : Word) (k : FaultKind) → words ≡ w ∷ ws → read before w.bytes ≡ Err k → more read before words ≡ Err (record { column = w.column; kind = k })
more-bad read before words ws w k cut is =
    ap (more read before) cut ∙ ap (λ r. and_then (at_column w.column r) (λ b. more read (before ++ b ∷ []) ws)) is

-- nothing is left behind the last word
past : Left → Left
past left = record { line = left.line; words = [] }

pub all-read : {A : Type 0} (read : List A → List ℕ → Result A FaultKind) (left : Left) (values : List A) → more read [] left.words ≡ Ok values → 0 < length values → alone (many read) left ≡ Ok values
unfolding alone many past
all-read {A} read left values is some = by left.words is
  where
    by : (ws : List Word) → more read [] ws ≡ Ok values → and_then (all_of read left.line ws) (λ (a, rest). ended a rest.words) ≡ Ok values
    by [] e = absurd (let none : values ≡ [] = cc in omega (arith, ap length none))
    by (w ∷ ws) e = ap (λ r. and_then (and_then r (λ vs. Ok (vs, past left))) (λ (a, rest). ended a rest.words)) e

pub all-bad : {A : Type 0} (read : List A → List ℕ → Result A FaultKind) (left : Left) (f : Fault) → more read [] left.words ≡ Err f → alone (many read) left ≡ Err f
unfolding alone many past
all-bad {A} read left f is = by left.words is
  where
    by : (ws : List Word) → more read [] ws ≡ Err f → and_then (all_of read left.line ws) (λ (a, rest). ended a rest.words) ≡ Err f
    by [] e = absurd cc
    by (w ∷ ws) e = ap (λ r. and_then (and_then r (λ vs. Ok (vs, past left))) (λ (a, rest). ended a rest.words)) e

pub all-missing : {A : Type 0} (read : List A → List ℕ → Result A FaultKind) (left : Left) → left.words ≡ [] → alone (many read) left ≡ Err (record { column = length left.line + 1; kind = Missing })
unfolding alone many
all-missing read left none = ap (λ ws. and_then (all_of read left.line ws) (λ (a, rest). ended a rest.words)) none

pub distinct_more : (vs : List ℕ) (v : ℕ) → is_distinct vs ≡ true → list_any (λ w. w == v) vs ≡ false → is_distinct (vs ++ v ∷ []) ≡ true
distinct_more [] v d fresh = refl
distinct_more (x ∷ xs) v d fresh =
    let apart : (x == v) ≡ false = grind (arith, nat_tests) in
    let other : (v == x) ≡ false = grind (arith, nat_tests) in
    let rest : list_any (λ w. w == v) xs ≡ false = grind (arith, nat_tests) in
    let none : list_any (λ w. w == x) xs ≡ false = grind (arith, nat_tests) in
    let tail : is_distinct xs ≡ true = right_of (not (list_any (λ w. w == x) xs)) (is_distinct xs) d in
    ap (λ b. not b && is_distinct (xs ++ v ∷ [])) (list_any-append (λ w. w == x) xs (v ∷ []) ∙ ap (λ b. b || ((v == x) || false)) none ∙ ap (λ b. b || false) other)
    ∙ distinct_more xs v tail rest
