-- The words of a line, one by one.
--     words-empty       no bytes, no words
--     words-gaps        the gaps in front do not matter but for the columns
--     words-first       bytes that do not begin with a gap begin with a word, which ends before the first gap
--     next-none, next-some     the words from a place of a line on, behind the gaps there
--     front-there, front-none  what the next word begins with
use Rattle.std.proofs.Common.{◌≡◌, ℕ, suc, ◌+◌, ◌-◌, ◌<◌, ◌≤◌, Bool, true, false, cond, not, List, [], ◌∷◌, length, take, drop, get_or, refl, sym, ap, ◌∙◌, arith, ltb, inl, inr, length-drop, add-zero, add-one, drop-cons, drop-drop, ◌⊎◌, Some, None, get_or-take, get_or-drop}
use Rattle.std.specs.List.{slice_split, filter, prefix_len, position_or_len, before_first, after_first}
use Rattle.std.proofs.lemmas.Bool.Decides.{nat_tests}
use Rattle.std.proofs.lemmas.List.Splits.{slice_split_none, slice_split_first, slice_split-cons_yes}
use Rattle.std.proofs.lemmas.List.Sums.{prefix_len-le-length, prefix_len_passes, prefix_len_stops, passes_at_first}
use Rattle.std.proofs.lemmas.List.Folds.{length-prefix_len}
use Rattle.std.proofs.lemmas.Bool.{cases_lt}
use Rattle.std.proofs.lemmas.List.{take_all}
use Rattle.facet_reader.specs.Fronts.{front}
use Rattle.facet_reader.proofs.Bodies.{nothing_past}
use Rattle.language.specs.Words.{Word, is_gap, placed, words_from}

pub words-empty : (n : ℕ) → words_from n [] ≡ []
unfolding words_from
words-empty n = refl

-- one gap less
words-gap : (n c : ℕ) (l : List ℕ) → is_gap c ≡ true → words_from n (c ∷ l) ≡ words_from (n + 1) l
unfolding words_from
words-gap n c l e =
    ap (λ parts. filter (λ w. ltb 0 (length w.bytes)) (placed n parts)) (slice_split-cons_yes is_gap c l e)
    ∙ ap (λ m. filter (λ w. ltb 0 (length w.bytes)) (placed (m + 1) (slice_split is_gap l))) (add-zero n)

drop_after : (k c : ℕ) (l : List ℕ) → drop (1 + k) (c ∷ l) ≡ drop k l
drop_after k c l =
    let e : 1 + k ≡ suc k = omega arith in
    ap (λ m. drop m (c ∷ l)) e

-- the same words at equal columns behind equal fronts
words-moved : (n m i j : ℕ) (l : List ℕ) → n ≡ m → i ≡ j → words_from n (drop i l) ≡ words_from m (drop j l)
words-moved n m i j l p q = ap (λ x. words_from x (drop i l)) p ∙ ap (λ x. words_from m (drop x l)) q

pub words-gaps : (n : ℕ) (l : List ℕ) → words_from n l ≡ words_from (n + prefix_len is_gap l) (drop (prefix_len is_gap l) l)
words-gaps n [] = ap (λ m. words_from m []) (sym (add-zero n))
words-gaps n (c ∷ l) = by (words-gaps (n + 1) l) (is_gap c) refl
  where
    by : words_from (n + 1) l ≡ words_from (n + 1 + prefix_len is_gap l) (drop (prefix_len is_gap l) l) → (b : Bool) → is_gap c ≡ b → words_from n (c ∷ l) ≡ words_from (n + prefix_len is_gap (c ∷ l)) (drop (prefix_len is_gap (c ∷ l)) (c ∷ l))
    by rest true e =
        let count : prefix_len is_gap (c ∷ l) ≡ 1 + prefix_len is_gap l = ap (λ b. cond b (1 + prefix_len is_gap l) 0) e in
        let column : n + 1 + prefix_len is_gap l ≡ n + prefix_len is_gap (c ∷ l) = omega arith in
        words-gap n c l e
        ∙ rest
        ∙ ap (λ x. words_from x (drop (prefix_len is_gap l) l)) column
        ∙ ap (words_from (n + prefix_len is_gap (c ∷ l))) (sym (ap (λ m. drop m (c ∷ l)) count ∙ drop_after (prefix_len is_gap l) c l))
    by rest false e =
        let count : prefix_len is_gap (c ∷ l) ≡ 0 = ap (λ b. cond b (1 + prefix_len is_gap l) 0) e in
        words-moved n (n + prefix_len is_gap (c ∷ l)) 0 (prefix_len is_gap (c ∷ l)) (c ∷ l) (omega arith) (sym count)

-- the bytes before the first gap are none
no_gap_before : (l : List ℕ) (k d : ℕ) → k < position_or_len is_gap l → is_gap (get_or l k d) ≡ false
no_gap_before l k d m = of_not (is_gap (get_or l k d)) (prefix_len_passes (λ c. not (is_gap c)) l k d m)
  where
    of_not : (b : Bool) → not b ≡ true → b ≡ false
    of_not true e = absurd cc
    of_not false e = refl

-- a word that ends with the line
words-last : (n : ℕ) (l : List ℕ) → 0 < length l → position_or_len is_gap l ≡ length l → words_from n l ≡ record { column = n; bytes = l } ∷ []
unfolding words_from
words-last n l some end =
    let some' : ltb 0 (length l) ≡ true = grind (arith, nat_tests) in
    ap (λ parts. filter (λ w. ltb 0 (length w.bytes)) (placed n parts)) (slice_split_none is_gap l (λ k d m. no_gap_before l k d (omega arith)))
    ∙ ap (λ b. cond b (record { column = n; bytes = l } ∷ []) []) some'

-- a word before a gap
words-before : (n : ℕ) (l : List ℕ) → 0 < position_or_len is_gap l → position_or_len is_gap l < length l → words_from n l ≡ record { column = n; bytes = before_first is_gap l } ∷ words_from (n + position_or_len is_gap l + 1) (after_first is_gap l)
unfolding words_from
words-before n l some within =
    let long : length (before_first is_gap l) ≡ position_or_len is_gap l = length-prefix_len (λ c. not (is_gap c)) l in
    let some' : ltb 0 (length (before_first is_gap l)) ≡ true = grind (arith, nat_tests) in
    let rest : ℕ → List Word = λ k. filter (λ w. ltb 0 (length w.bytes)) (placed (n + k + 1) (slice_split is_gap (after_first is_gap l))) in
    ap (λ parts. filter (λ w. ltb 0 (length w.bytes)) (placed n parts)) (slice_split_first is_gap l 0 within)
    ∙ ap (λ b. cond b (record { column = n; bytes = before_first is_gap l } ∷ rest (length (before_first is_gap l))) (rest (length (before_first is_gap l)))) some'
    ∙ ap (λ k. record { column = n; bytes = before_first is_gap l } ∷ rest k) long

-- at a gap, the words are those behind it
words-at_gap : (n k : ℕ) (l : List ℕ) → k < length l → is_gap (get_or l k 0) ≡ true → words_from n (drop k l) ≡ words_from (n + 1) (drop (k + 1) l)
words-at_gap n k l within e =
    let cut : drop k l ≡ get_or l k 0 ∷ drop (suc k) l = drop-cons l k 0 within in
    ap (words_from n) cut ∙ words-gap n (get_or l k 0) (drop (suc k) l) e ∙ ap (λ m. words_from (n + 1) (drop m l)) (sym (add-one k))

pub words-first : (n : ℕ) (l : List ℕ) → 0 < position_or_len is_gap l → words_from n l ≡ record { column = n; bytes = take (position_or_len is_gap l) l } ∷ words_from (n + position_or_len is_gap l) (drop (position_or_len is_gap l) l)
words-first n l some = by (cases_lt (position_or_len is_gap l) (length l))
  where
    by : (position_or_len is_gap l < length l) ⊎ (length l ≤ position_or_len is_gap l) → words_from n l ≡ record { column = n; bytes = take (position_or_len is_gap l) l } ∷ words_from (n + position_or_len is_gap l) (drop (position_or_len is_gap l) l)
    by (inl within) =
        words-before n l some within
        ∙ ap (λ ws. record { column = n; bytes = take (position_or_len is_gap l) l } ∷ ws) (sym (words-at_gap (n + position_or_len is_gap l) (position_or_len is_gap l) l within (passes_at_first is_gap l 0 within)))
    by (inr past) =
        let bound = prefix_len-le-length (λ c. not (is_gap c)) l in
        let end : position_or_len is_gap l ≡ length l = omega arith in
        let whole : take (position_or_len is_gap l) l ≡ l = take_all (position_or_len is_gap l) l past in
        let gone : drop (position_or_len is_gap l) l ≡ [] = nothing_past l (position_or_len is_gap l) past in
        words-last n l (omega arith) end
        ∙ sym (ap (λ w. record { column = n; bytes = w } ∷ words_from (n + position_or_len is_gap l) (drop (position_or_len is_gap l) l)) whole
        ∙ ap (λ ws. record { column = n; bytes = l } ∷ ws) (ap (words_from (n + position_or_len is_gap l)) gone ∙ words-empty (n + position_or_len is_gap l)))

-- a slice to the end of a list
to_end : (l : List ℕ) (at : ℕ) → take (length l - at) (drop at l) ≡ drop at l
to_end l at = take_all (length l - at) (drop at l) (omega (arith, length-drop at l))

-- behind the gaps in front stands a byte that is none, or nothing
no_word_left : (l : List ℕ) → position_or_len is_gap (drop (prefix_len is_gap l) l) ≡ 0 → drop (prefix_len is_gap l) l ≡ []
no_word_left l none = by (cases_lt (prefix_len is_gap l) (length l))
  where
    by : (prefix_len is_gap l < length l) ⊎ (length l ≤ prefix_len is_gap l) → drop (prefix_len is_gap l) l ≡ []
    by (inl within) =
        let stops : is_gap (get_or l (prefix_len is_gap l) 0) ≡ false = prefix_len_stops is_gap l 0 within in
        let cut : drop (prefix_len is_gap l) l ≡ get_or l (prefix_len is_gap l) 0 ∷ drop (suc (prefix_len is_gap l)) l = drop-cons l (prefix_len is_gap l) 0 within in
        let some : position_or_len is_gap (drop (prefix_len is_gap l) l) ≡ 1 + position_or_len is_gap (drop (suc (prefix_len is_gap l)) l) = ap (position_or_len is_gap) cut ∙ ap (λ b. cond (not b) (1 + position_or_len is_gap (drop (suc (prefix_len is_gap l)) l)) 0) stops in
        absurd (omega (arith, some))
    by (inr past) = nothing_past l (prefix_len is_gap l) past

-- the words from a place on, behind the gaps there
words-behind : (l : List ℕ) (at g : ℕ) → g ≡ prefix_len is_gap (take (length l - at) (drop at l)) → (words_from (at + 1) (drop at l) ≡ words_from (at + g + 1) (drop (at + g) l)) × (drop (at + g) l ≡ drop (prefix_len is_gap (drop at l)) (drop at l))
words-behind l at g e =
    let count : g ≡ prefix_len is_gap (drop at l) = e ∙ ap (prefix_len is_gap) (to_end l at) in
    let behind : drop (at + g) l ≡ drop (prefix_len is_gap (drop at l)) (drop at l) = sym (drop-drop g at l) ∙ ap (λ k. drop k (drop at l)) count in
    let column : at + 1 + prefix_len is_gap (drop at l) ≡ at + g + 1 = omega arith in (
      words-gaps (at + 1) (drop at l) ∙ ap (λ m. words_from m (drop (prefix_len is_gap (drop at l)) (drop at l))) column ∙ ap (words_from (at + g + 1)) (sym behind),
      behind,
    )

pub next-none : (l : List ℕ) (at g n : ℕ) → g ≡ prefix_len is_gap (take (length l - at) (drop at l)) → n ≡ position_or_len is_gap (take (length l - (at + g)) (drop (at + g) l)) → n ≡ 0 → words_from (at + 1) (drop at l) ≡ []
next-none l at g n e f none =
    let behind = words-behind l at g e in
    let zero_left : position_or_len is_gap (drop (prefix_len is_gap (drop at l)) (drop at l)) ≡ 0 = ap (position_or_len is_gap) (sym behind.1) ∙ ap (position_or_len is_gap) (sym (to_end l (at + g))) ∙ sym f ∙ none in
    behind.0 ∙ ap (words_from (at + g + 1)) (behind.1 ∙ no_word_left (drop at l) zero_left) ∙ words-empty (at + g + 1)

pub next-some : (l : List ℕ) (at g n : ℕ) → g ≡ prefix_len is_gap (take (length l - at) (drop at l)) → n ≡ position_or_len is_gap (take (length l - (at + g)) (drop (at + g) l)) → 0 < n → words_from (at + 1) (drop at l) ≡ record { column = at + g + 1; bytes = take n (take (length l - (at + g)) (drop (at + g) l)) } ∷ words_from (at + g + n + 1) (drop (at + g + n) l)
next-some l at g n e f some =
    let behind = words-behind l at g e in
    let count : position_or_len is_gap (drop (at + g) l) ≡ n = ap (position_or_len is_gap) (sym (to_end l (at + g))) ∙ sym f in
    let column : at + g + 1 + n ≡ at + g + n + 1 = omega arith in
    let tail : drop n (drop (at + g) l) ≡ drop (at + g + n) l = drop-drop n (at + g) l in
    let shape : ℕ → List Word = λ k. record { column = at + g + 1; bytes = take k (drop (at + g) l) } ∷ words_from (at + g + 1 + k) (drop k (drop (at + g) l)) in
    behind.0
    ∙ words-first (at + g + 1) (drop (at + g) l) (omega arith)
    ∙ ap shape count
    ∙ ap (λ ws. record { column = at + g + 1; bytes = take n (drop (at + g) l) } ∷ ws) (ap (λ m. words_from m (drop n (drop (at + g) l))) column ∙ ap (words_from (at + g + n + 1)) tail)
    ∙ ap (λ bytes. record { column = at + g + 1; bytes = take n bytes } ∷ words_from (at + g + n + 1) (drop (at + g + n) l)) (sym (to_end l (at + g)))

-- no gap stands behind the gaps in front
pub front-there : (l : List ℕ) (at g : ℕ) → g ≡ prefix_len is_gap (take (length l - at) (drop at l)) → at + g < length l → front (words_from (at + 1) (drop at l)) ≡ Some (get_or l (at + g) 0)
front-there l at g e within = by (cases_lt 0 n)
  where
    n : ℕ
    n = position_or_len is_gap (take (length l - (at + g)) (drop (at + g) l))

    by : (0 < n) ⊎ (n ≤ 0) → front (words_from (at + 1) (drop at l)) ≡ Some (get_or l (at + g) 0)
    by (inl some) =
        let rest : List ℕ = take (length l - (at + g)) (drop (at + g) l) in
        ap front (next-some l at g n e refl some)
        ∙ ap Some (get_or-take n rest 0 0 some ∙ ap (λ r. get_or r 0 0) (to_end l (at + g)) ∙ get_or-drop (at + g) l 0 0 ∙ ap (λ k. get_or l k 0) (add-zero (at + g)))
    by (inr none) =
        let zero_left : position_or_len is_gap (drop (at + g) l) ≡ 0 = ap (position_or_len is_gap) (sym (to_end l (at + g))) ∙ omega arith in
        let behind = words-behind l at g e in
        let gone : drop (at + g) l ≡ [] = behind.1 ∙ no_word_left (drop at l) (ap (position_or_len is_gap) (sym behind.1) ∙ zero_left) in
        absurd (omega (arith, ap length gone, length-drop (at + g) l))

pub front-none : (l : List ℕ) (at g : ℕ) → g ≡ prefix_len is_gap (take (length l - at) (drop at l)) → length l ≤ at + g → front (words_from (at + 1) (drop at l)) ≡ None
front-none l at g e past =
    let gone : drop (at + g) l ≡ [] = nothing_past l (at + g) past in
    ap front (next-none l at g _ e refl (ap (position_or_len is_gap) (to_end l (at + g) ∙ gone)))
