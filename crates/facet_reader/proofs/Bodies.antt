-- Words of a degree and a body that lack the `:`.
--     nothing_past     nothing stands past the end of a list
--     no_colon         such a word has no right shape
use Rattle.std.proofs.Common.{◌≡◌, ℕ, ◌+◌, ◌≤◌, ◌&&◌, ◌==◌, Bool, true, false, List, [], ◌∷◌, length, drop, Err, refl, ap, ◌∙◌, arith, length-drop}
use Rattle.std.specs.List.{position_or_len, before_first, after_first}
use Rattle.language.specs.Arguments.{Signs, is_run, provided, graded_word, body_word, numbered_word}
use Rattle.language.specs.declared.fault.FaultKind.TheVariants.{Word}

empty_list : {X : Type 0} (xs : List X) → length xs ≡ 0 → xs ≡ []
empty_list [] e = refl
empty_list (x ∷ xs) e = absurd (omega arith)

pub nothing_past : (w : List ℕ) (n : ℕ) → length w ≤ n → drop n w ≡ []
nothing_past w n l = empty_list (drop n w) (omega (arith, length-drop n w))

fails : (b : Bool) → (b && false) ≡ false
fails true = refl
fails false = refl

no_body : (signs : Signs) (degree : List ℕ) → body_word signs degree [] ≡ Err Word
unfolding body_word numbered_word
no_body signs degree = rw (fails (0 == signs.mark)) refl

pub no_colon : (signs : Signs) (w : List ℕ) → is_run (before_first (λ c. c == 58) w) ≡ true → position_or_len (λ c. c == 58) w ≡ length w → graded_word signs w ≡ Err Word
unfolding graded_word
no_colon signs w run end =
    ap (λ b. provided b Word (body_word signs (before_first (λ c. c == 58) w) (after_first (λ c. c == 58) w))) run
    ∙ ap (body_word signs (before_first (λ c. c == 58) w)) (nothing_past w (position_or_len (λ c. c == 58) w + 1) (omega arith))
    ∙ no_body signs (before_first (λ c. c == 58) w)
