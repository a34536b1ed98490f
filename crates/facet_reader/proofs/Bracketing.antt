-- Lists in brackets.
--     joined r q           the readings of more parts, with that of one more behind them
--     facets-more          the facets of parts with one more behind them
--     added r q            the numbers of runs, with that of one more behind them
--     numbers-more         the numbers of runs with one more behind them
--     facets-taken, facets-kept, facets-refused    one more part, by what is told so far and what is read of it
--     numbers-taken, numbers-wide, numbers-kept, numbers-refused    the same of one more run
--     list-few, list-ends     a list with fewer than two `]`; one with more, by its ends and its parts
--     mark-more                the byte before a part that is not the first
--     facet-read               the facet of a part by the numbers of its runs
--     numbers-few              numbers that are read are few, and there is one
use Rattle.std.proofs.Common.{◌≡◌, ℕ, ◌+◌, ◌-◌, ◌<◌, ◌≤◌, ◌&&◌, ◌==◌, Bool, true, false, cond, List, [], ◌∷◌, ◌++◌, map, length, take, drop, Option, Some, None, Result, Ok, Err, length-append, refl, sym, ap, ◌∙◌, arith, lt-ltb}
use Rattle.std.specs.Prelude.{nat_le, nat_lt}
use Rattle.std.specs.List.{list_all}
use Rattle.std.specs.Option.{is_none}
use Rattle.std.proofs.lemmas.Bool.Decides.{nat_tests}
use Rattle.std.proofs.lemmas.List.{map-append, length-map}
use Rattle.std.proofs.lemmas.List.Splits.{length-slice_split}
use Rattle.std.proofs.lemmas.List.Folds.{list_all-append}
use Rattle.language.specs.declared.fault.FaultKind.{FaultKind}
use Rattle.language.specs.declared.fault.FaultKind.TheVariants.{Word, Number, Wide, Repeat}
use Rattle.language.specs.Arguments.{provided, is_short, is_distinct, value, in_order, most, parts}
use Rattle.language.specs.Grammar.{and_then}
use Rattle.language.specs.Brackets.{begins, behind, run, words, is_numeral, is_part, are_parts, is_blank, numbers, are_short, are_narrow, are_distinct, facets_word, bracket_word}
use Rattle.facet_reader.specs.Lists.{told, graver, number_of, numbers_of, facet_of, next_mark}

-- what the four tests of parts say, and what passes them
verdict : {A : Type 0} → Bool → Bool → Bool → Bool → A → Result A FaultKind
verdict p s n d a = provided p Word (provided s Number (provided n Wide (provided d Repeat (Ok a))))

abbrev pub joined : {A : Type 0} → Result (List A) FaultKind → Result A FaultKind → Result (List A) FaultKind
joined (Ok xs) (Ok a) = Ok (xs ++ a ∷ [])
joined (Err j) (Ok a) = Err j
joined (Ok xs) (Err k) = Err (graver k None)
joined (Err j) (Err k) = Err (graver k (Some j))

joins : {A : Type 0} (p s n d p' s' n' d' : Bool) (xs : List A) (a : A) → verdict (p && p') (s && s') (n && n') (d && d') (xs ++ a ∷ []) ≡ joined (verdict p s n d xs) (verdict p' s' n' d' a)
unfolding verdict
joins false s n d false s' n' d' xs a = refl
joins false s n d true false n' d' xs a = refl
joins false s n d true true false d' xs a = refl
joins false s n d true true true false xs a = refl
joins false s n d true true true true xs a = refl
joins true false n d false s' n' d' xs a = refl
joins true false n d true false n' d' xs a = refl
joins true false n d true true false d' xs a = refl
joins true false n d true true true false xs a = refl
joins true false n d true true true true xs a = refl
joins true true false d false s' n' d' xs a = refl
joins true true false d true false n' d' xs a = refl
joins true true false d true true false d' xs a = refl
joins true true false d true true true false xs a = refl
joins true true false d true true true true xs a = refl
joins true true true false false s' n' d' xs a = refl
joins true true true false true false n' d' xs a = refl
joins true true true false true true false d' xs a = refl
joins true true true false true true true false xs a = refl
joins true true true false true true true true xs a = refl
joins true true true true false s' n' d' xs a = refl
joins true true true true true false n' d' xs a = refl
joins true true true true true true false d' xs a = refl
joins true true true true true true true false xs a = refl
joins true true true true true true true true xs a = refl

and-true : (b : Bool) → (b && true) ≡ b
and-true true = refl
and-true false = refl

all-more : {X : Type 0} (p : X → Bool) (xs : List X) (x : X) → list_all p (xs ++ x ∷ []) ≡ (list_all p xs && p x)
all-more p xs x = list_all-append p xs (x ∷ []) ∙ ap (λ b. list_all p xs && b) (and-true (p x))

-- the byte before the part behind these, the first of which stands behind c
mark_from : ℕ → List (List ℕ) → ℕ
mark_from c [] = c
mark_from c (w ∷ ws) = 44

parts-more : (c : ℕ) (ws : List (List ℕ)) (w : List ℕ) → are_parts c (ws ++ w ∷ []) ≡ (are_parts c ws && is_part (mark_from c ws) w)
unfolding mark_from
parts-more c [] w = and-true (is_part c w)
parts-more c (x ∷ xs) w = by (is_part c x) (are_parts 44 xs) (is_part 44 w) (parts-more 44 xs w ∙ ap (λ m. are_parts 44 xs && is_part m w) (same xs))
  where
    same : (ys : List (List ℕ)) → mark_from 44 ys ≡ 44
    same [] = refl
    same (y ∷ ys) = refl

    by : (a b e : Bool) → are_parts 44 (xs ++ w ∷ []) ≡ (b && e) → (a && are_parts 44 (xs ++ w ∷ [])) ≡ ((a && b) && e)
    by true b e is = is
    by false b e is = refl

marks : (ws : List (List ℕ)) → mark_from 91 ws ≡ next_mark ws
unfolding mark_from
marks [] = refl
marks (w ∷ ws) = refl

pub facets-more : (ws : List (List ℕ)) (w : List ℕ) → facets_word (ws ++ w ∷ []) ≡ joined (facets_word ws) (facet_of (next_mark ws) w)
unfolding verdict
facets-more ws w =
    let facet = λ (v : List ℕ). in_order (numbers v) in
    ap (λ b. verdict b (list_all are_short (ws ++ w ∷ [])) (list_all are_narrow (ws ++ w ∷ [])) (list_all are_distinct (ws ++ w ∷ [])) (map facet (ws ++ w ∷ []))) (parts-more 91 ws w ∙ ap (λ m. are_parts 91 ws && is_part m w) (marks ws))
    ∙ ap (λ b. verdict (are_parts 91 ws && is_part (next_mark ws) w) b (list_all are_narrow (ws ++ w ∷ [])) (list_all are_distinct (ws ++ w ∷ [])) (map facet (ws ++ w ∷ []))) (all-more are_short ws w)
    ∙ ap (λ b. verdict (are_parts 91 ws && is_part (next_mark ws) w) (list_all are_short ws && are_short w) b (list_all are_distinct (ws ++ w ∷ [])) (map facet (ws ++ w ∷ []))) (all-more are_narrow ws w)
    ∙ ap (λ b. verdict (are_parts 91 ws && is_part (next_mark ws) w) (list_all are_short ws && are_short w) (list_all are_narrow ws && are_narrow w) b (map facet (ws ++ w ∷ []))) (all-more are_distinct ws w)
    ∙ ap (verdict (are_parts 91 ws && is_part (next_mark ws) w) (list_all are_short ws && are_short w) (list_all are_narrow ws && are_narrow w) (list_all are_distinct ws && are_distinct w)) (map-append facet ws (w ∷ []))
    ∙ joins (are_parts 91 ws) (list_all are_short ws) (list_all are_narrow ws) (list_all are_distinct ws) (is_part (next_mark ws) w) (are_short w) (are_narrow w) (are_distinct w) (map facet ws) (facet w)

abbrev pub added : Result (List ℕ) FaultKind → Result ℕ FaultKind → Result (List ℕ) FaultKind
added (Ok ns) (Ok n) = cond (nat_lt (length ns) most) (Ok (ns ++ n ∷ [])) (Err Wide)
added (Err j) (Ok n) = Err j
added (Ok ns) (Err k) = Err (graver k None)
added (Err j) (Err k) = Err (graver k (Some j))

adds : (p s c p' s' : Bool) (ns : List ℕ) (n : ℕ) (d : Bool) → nat_lt (length ns) most ≡ d → (c ≡ false → d ≡ false) → provided (p && p') Word (provided (s && s') Number (provided d Wide (Ok (ns ++ n ∷ [])))) ≡ added (provided p Word (provided s Number (provided c Wide (Ok ns)))) (provided p' Word (provided s' Number (Ok n)))
adds false s c false s' ns n d is less = refl
adds false s c true false ns n d is less = refl
adds false s c true true ns n d is less = refl
adds true false c false s' ns n d is less = refl
adds true false c true false ns n d is less = refl
adds true false c true true ns n d is less = refl
adds true true false false s' ns n d is less = refl
adds true true false true false ns n d is less = refl
adds true true false true true ns n d is less = ap (λ b. cond b (Ok (ns ++ n ∷ [])) (Err Wide)) (less refl)
adds true true true false s' ns n d is less = refl
adds true true true true false ns n d is less = refl
adds true true true true true ns n d is less = ap (λ b. cond b (Ok (ns ++ n ∷ [])) (Err Wide)) (sym is)

pub numbers-more : (ws : List (List ℕ)) (w : List ℕ) → numbers_of (ws ++ w ∷ []) ≡ added (numbers_of ws) (number_of w)
numbers-more ws w =
    let number = λ (v : List ℕ). value (run v) in
    let shorts = λ (v : List ℕ). is_short (run v) in
    let d = nat_le (length (ws ++ w ∷ [])) most in
    let count : length (map number ws) ≡ length ws = length-map ws number in
    let one_more = length-append ws (w ∷ []) in
    let is : nat_lt (length (map number ws)) most ≡ d = grind (arith, nat_tests) in
    let less : nat_le (length ws) most ≡ false → d ≡ false = λ few. grind (arith, nat_tests) in
    ap (λ b. provided b Word (provided (list_all shorts (ws ++ w ∷ [])) Number (provided d Wide (Ok (map number (ws ++ w ∷ [])))))) (all-more is_numeral ws w)
    ∙ ap (λ b. provided (list_all is_numeral ws && is_numeral w) Word (provided b Number (provided d Wide (Ok (map number (ws ++ w ∷ [])))))) (all-more shorts ws w)
    ∙ ap (λ l. provided (list_all is_numeral ws && is_numeral w) Word (provided (list_all shorts ws && shorts w) Number (provided d Wide (Ok l)))) (map-append number ws (w ∷ []))
    ∙ adds (list_all is_numeral ws) (list_all shorts ws) (nat_le (length ws) most) (is_numeral w) (shorts w) (map number ws) (number w) d is less

pub facets-taken : (before : List (List ℕ)) (w f : List ℕ) (fs : List (List ℕ)) → facets_word before ≡ Ok fs → facet_of (next_mark before) w ≡ Ok f → facets_word (before ++ w ∷ []) ≡ Ok (fs ++ f ∷ [])
facets-taken before w f fs so_far is = facets-more before w ∙ ap (λ r. joined r (facet_of (next_mark before) w)) so_far ∙ ap (joined (Ok fs)) is

pub facets-kept : (before : List (List ℕ)) (w f : List ℕ) (j : Option FaultKind) (fs : List (List ℕ)) → is_none j ≡ false → facets_word before ≡ told j fs → facet_of (next_mark before) w ≡ Ok f → facets_word (before ++ w ∷ []) ≡ told j fs
facets-kept before w f None fs some so_far is = absurd cc
facets-kept before w f (Some j) fs some so_far is = facets-more before w ∙ ap (λ r. joined r (facet_of (next_mark before) w)) so_far ∙ ap (joined (Err j)) is

pub facets-refused : (before : List (List ℕ)) (w : List ℕ) (j : Option FaultKind) (fs : List (List ℕ)) (k : FaultKind) → facets_word before ≡ told j fs → facet_of (next_mark before) w ≡ Err k → facets_word (before ++ w ∷ []) ≡ Err (graver k j)
facets-refused before w None fs k so_far is = facets-more before w ∙ ap (λ r. joined r (facet_of (next_mark before) w)) so_far ∙ ap (joined (Ok fs)) is
facets-refused before w (Some j) fs k so_far is = facets-more before w ∙ ap (λ r. joined r (facet_of (next_mark before) w)) so_far ∙ ap (joined (Err j)) is

pub numbers-taken : (before : List (List ℕ)) (w : List ℕ) (n : ℕ) (ns : List ℕ) → numbers_of before ≡ Ok ns → number_of w ≡ Ok n → length ns < most → numbers_of (before ++ w ∷ []) ≡ Ok (ns ++ n ∷ [])
numbers-taken before w n ns so_far is few =
    numbers-more before w ∙ ap (λ r. added r (number_of w)) so_far ∙ ap (added (Ok ns)) is
    ∙ ap (λ b. cond b (Ok (ns ++ n ∷ [])) (Err Wide)) (lt-ltb (length ns) most few)

pub numbers-wide : (before : List (List ℕ)) (w : List ℕ) (n : ℕ) (ns : List ℕ) → numbers_of before ≡ Ok ns → number_of w ≡ Ok n → most ≤ length ns → numbers_of (before ++ w ∷ []) ≡ Err Wide
numbers-wide before w n ns so_far is many =
    let full : nat_lt (length ns) most ≡ false = grind (arith, nat_tests) in
    numbers-more before w ∙ ap (λ r. added r (number_of w)) so_far ∙ ap (added (Ok ns)) is
    ∙ ap (λ b. cond b (Ok (ns ++ n ∷ [])) (Err Wide)) full

pub numbers-kept : (before : List (List ℕ)) (w : List ℕ) (n : ℕ) (j : FaultKind) → numbers_of before ≡ Err j → number_of w ≡ Ok n → numbers_of (before ++ w ∷ []) ≡ Err j
numbers-kept before w n j so_far is = numbers-more before w ∙ ap (λ r. added r (number_of w)) so_far ∙ ap (added (Err j)) is

pub numbers-refused : (before : List (List ℕ)) (w : List ℕ) (j : Option FaultKind) (ns : List ℕ) (k : FaultKind) → numbers_of before ≡ told j ns → number_of w ≡ Err k → numbers_of (before ++ w ∷ []) ≡ Err (graver k j)
numbers-refused before w None ns k so_far is = numbers-more before w ∙ ap (λ r. added r (number_of w)) so_far ∙ ap (added (Ok ns)) is
numbers-refused before w (Some j) ns k so_far is = numbers-more before w ∙ ap (λ r. added r (number_of w)) so_far ∙ ap (added (Err j)) is

-- a list with fewer than two `]` is none
pub list-few : (b : List ℕ) → length (parts 93 b) < 3 → bracket_word b ≡ Err Word
unfolding bracket_word
list-few b few =
    let ws = parts 93 b in
    let no : nat_le 3 (length ws) ≡ false = grind (arith, nat_tests) in
    ap (λ t. provided (t && list_all is_blank (drop (length ws - 2) ws)) Word (facets_word (take (length ws - 2) ws))) no

-- a list with two or more, by what stands behind all but two of its parts
pub list-ends : (b : List ℕ) (n : ℕ) → length (parts 93 b) ≡ n + 2 → 0 < n → bracket_word b ≡ provided (list_all is_blank (drop n (parts 93 b))) Word (facets_word (take n (parts 93 b)))
unfolding bracket_word
list-ends b n count some =
    let ws = parts 93 b in
    let yes : nat_le 3 (length ws) ≡ true = grind (arith, nat_tests) in
    let less : length ws - 2 ≡ n = omega arith in
    ap (λ t. provided (t && list_all is_blank (drop (length ws - 2) ws)) Word (facets_word (take (length ws - 2) ws))) yes
    ∙ ap (λ m. provided (list_all is_blank (drop m ws)) Word (facets_word (take m ws))) less

pub mark-more : (ws : List (List ℕ)) (w : List ℕ) → 44 ≡ next_mark (ws ++ w ∷ [])
mark-more [] w = refl
mark-more (x ∷ xs) w = refl

-- the facet of a part by the numbers of its runs
facet-behind : (c : ℕ) (w : List ℕ) → begins c w ≡ true → begins 91 (behind w) ≡ true → facet_of c w ≡ and_then (numbers_of (words w)) (λ ns. provided (is_distinct ns) Repeat (Ok (in_order ns)))
facet-behind c w first second =
    ap (λ b. provided (b && (begins 91 (behind w) && list_all is_numeral (words w))) Word rest) first
    ∙ ap (λ b. provided (b && list_all is_numeral (words w)) Word rest) second
    ∙ by (list_all is_numeral (words w)) (are_short w) (are_narrow w)
  where
    rest : Result (List ℕ) FaultKind
    rest = provided (are_short w) Number (provided (are_narrow w) Wide (provided (are_distinct w) Repeat (Ok (in_order (numbers w)))))

    by : (p s n : Bool) → provided p Word (provided s Number (provided n Wide (provided (are_distinct w) Repeat (Ok (in_order (numbers w)))))) ≡ and_then (provided p Word (provided s Number (provided n Wide (Ok (numbers w))))) (λ ns. provided (is_distinct ns) Repeat (Ok (in_order ns)))
    by false s n = refl
    by true false n = refl
    by true true false = refl
    by true true true = refl

-- numbers that are read are few, and there is one
pub numbers-few : (w ns : List ℕ) → numbers_of (parts 44 w) ≡ Ok ns → (0 < length ns) × (length ns ≤ most)
numbers-few w ns is = by (list_all is_numeral ws) (list_all (λ r. is_short (run r)) ws) (nat_le (length ws) most) refl is
  where
    ws : List (List ℕ)
    ws = parts 44 w

    by : (p s n : Bool) → nat_le (length ws) most ≡ n → provided p Word (provided s Number (provided n Wide (Ok (map (λ r. value (run r)) ws)))) ≡ Ok ns → (0 < length ns) × (length ns ≤ most)
    by false s n few e = absurd cc
    by true false n few e = absurd cc
    by true true false few e = absurd cc
    by true true true few e =
        let values : map (λ r. value (run r)) ws ≡ ns = cc in
        let count : length ns ≡ length ws = ap length (sym values) ∙ length-map ws (λ r. value (run r)) in
        let some = length-slice_split (λ x. x == 44) w in
        let narrow : length ws ≤ most = grind (arith, nat_tests) in
        (omega (arith, count, some), omega (arith, count, narrow))

pub facet-read : (c : ℕ) (w rest inner : List ℕ) (r : Result (List ℕ) FaultKind) → begins c w ≡ true → rest ≡ behind w → begins 91 rest ≡ true → inner ≡ behind rest → numbers_of (parts 44 inner) ≡ r → facet_of c w ≡ and_then r (λ ns. provided (is_distinct ns) Repeat (Ok (in_order ns)))
facet-read c w rest inner r first rest' second inner' is =
    facet-behind c w first (ap (begins 91) (sym rest') ∙ second)
    ∙ ap (λ t. and_then (numbers_of (parts 44 t)) (λ ns. provided (is_distinct ns) Repeat (Ok (in_order ns)))) (sym (inner' ∙ ap behind rest'))
    ∙ ap (λ t. and_then t (λ ns. provided (is_distinct ns) Repeat (Ok (in_order ns)))) is
