-- The parts of a word, one by one.
--     passes_at       where all elements of a list pass a test, so does the one at a place
--     digits_of_run   a run is digits alone
--     listed_some, all_of_none     a list of words that is not empty, and one that is
--     made_simple, made_not        a list whose words have no vertex twice, and another
--     place_or_end                 a place within a list, or else the list's length
--     same_prefix                  the gaps in front, by a test that says no twice
--     runs_behind                  the runs behind the marks of items
use Rattle.std.proofs.Common.{not, ◌+◌, ap, Ok, Err, map, cond, [], ◌∷◌, arith, ◌≡◌, ℕ, ◌<◌, ◌&&◌, Bool, true, false, List, length, get_or, refl, subst, sym, ltb, ◌∙◌, ◌==◌, ◌≤◌, Some, None}
use Rattle.std.specs.List.{list_all, prefix_len}
use Rattle.language.specs.Words.{is_gap}
use Rattle.std.specs.Option.{unwrap_or}
use Rattle.std.proofs.lemmas.Bool.Decides.{nat_tests}
use Rattle.std.proofs.lemmas.List.Sums.{AllPass-from_list_all}
use Rattle.language.specs.Arguments.{is_digit, is_run, is_item, parts, listed, in_order, vertices}
use Rattle.language.specs.declared.fault.FaultKind.TheVariants.{Repeat}
use Rattle.facet_reader.specs.Lists.{is_simple, is_behind, made}

pub passes_at : {X : Type 0} (p : X → Bool) (xs : List X) (x : X) (k : ℕ) → list_all p xs ≡ true → (k < length xs) × (x ≡ get_or xs k x) → p x ≡ true
passes_at p xs x k all at = subst (λ y. p y ≡ true) (sym at.1) (AllPass-from_list_all p xs all k x at.0)

-- of two tests that both pass, the second does
pub right_of : (a b : Bool) → (a && b) ≡ true → b ≡ true
right_of true b h = h
right_of false b h = absurd cc

pub digits_of_run : (w : List ℕ) → is_run w ≡ true → list_all is_digit w ≡ true
digits_of_run w h = right_of (ltb 0 (length w)) (list_all is_digit w) h

pub listed_some : (b : List ℕ) → 0 < length b → listed b ≡ parts 44 b
listed_some [] l = absurd (omega arith)
listed_some (c ∷ b) l = refl

pub all_of_none : (p : List ℕ → Bool) (b : List ℕ) → length b ≡ 0 → true ≡ list_all p (listed b)
all_of_none p [] e = refl
all_of_none p (c ∷ b) e = absurd (omega arith)

pub made_simple : (list : List ℕ) → list_all is_simple (listed list) ≡ true → made list ≡ Ok (map (λ s. in_order (vertices s)) (listed list))
made_simple list e = ap (λ b. cond b (Ok (map (λ s. in_order (vertices s)) (listed list))) (Err Repeat)) e

pub made_not : (list : List ℕ) → list_all is_simple (listed list) ≡ false → made list ≡ Err Repeat
made_not list e = ap (λ b. cond b (Ok (map (λ s. in_order (vertices s)) (listed list))) (Err Repeat)) e

-- where all elements pass two tests, they pass the second
list_all_right : {X : Type 0} (p q : X → Bool) (xs : List X) → list_all (λ x. p x && q x) xs ≡ true → list_all q xs ≡ true
list_all_right p q [] h = refl
list_all_right p q (x ∷ xs) h =
    let here : q x ≡ true = by_parts (p x) (q x) _ h in
    ap (λ b. b && list_all q xs) here ∙ list_all_right p q xs (right_of (p x && q x) _ h)
  where
    by_parts : (a b c : Bool) → ((a && b) && c) ≡ true → b ≡ true
    by_parts true true c h = refl
    by_parts true false c h = absurd cc
    by_parts false b c h = absurd cc

pub runs_behind : (mark : ℕ) (words : List (List ℕ)) → list_all (is_item mark) words ≡ true → list_all is_behind words ≡ true
runs_behind mark words h = list_all_right (λ w. get_or w 0 0 == mark) is_behind words h

pub place_or_end : (p n : ℕ) → p ≤ n → unwrap_or (cond (ltb p n) (Some p) None) n ≡ p
place_or_end p n l = by (ltb p n) refl
  where
    by : (b : Bool) → ltb p n ≡ b → unwrap_or (cond b (Some p) None) n ≡ p
    by true e = refl
    by false e = grind (arith, nat_tests)

-- the front that does not fail a test is the front that passes it
pub same_prefix : (l : List ℕ) → prefix_len (λ c. not (not (is_gap c))) l ≡ prefix_len is_gap l
same_prefix [] = refl
same_prefix (c ∷ l) = by (is_gap c) ∙ ap (λ n. cond (is_gap c) (1 + n) 0) (same_prefix l)
  where
    by : (b : Bool) → cond (not (not b)) (1 + prefix_len (λ x. not (not (is_gap x))) l) 0 ≡ cond b (1 + prefix_len (λ x. not (not (is_gap x))) l) 0
    by true = refl
    by false = refl
