-- Sums over lists of simplices.
--     sum-same, sum-none, sum-swap, sum-filter     terms that are equal, or zero; two sums changed over; those that pass a test
--     filter-there, filter-source                  what stays among those that pass
--     two-members, two-true                        a list of two simplices
use Rattle.std.proofs.Common.{◌≡◌, ℕ, Bool, true, false, cond, ◌&&◌, ◌||◌, List, [], ◌∷◌, length, refl, sym, ap, ◌∙◌, arith, ⊎_elim, inl, inr, ◌⊎◌}
use Rattle.std.specs.List.{filter}
use Rattle.std.proofs.lemmas.Bool.{true≢false, or_cases, or_left, or_right}
use Rattle.homology.specs.Parity.{xor, odd}
use Rattle.homology.specs.Simplices.{same_list}
use Rattle.homology.specs.Growth.{is_there}
use Rattle.homology.proofs.ParityLaws.{odd-none, odd-xor}
use Rattle.homology.proofs.BoundaryLaws.{same_list-true}
use Rattle.homology.proofs.FaceLists.{there-first}
use Rattle.products.specs.Products.{odd_of}

pub sum-same : (F : List (List ℕ)) (p q : List ℕ → Bool) → ((t : List ℕ) → is_there F t ≡ true → p t ≡ q t) → odd_of F p ≡ odd_of F q
sum-same [] p q e = refl
sum-same (t ∷ F) p q e = λ i. xor (e t (there-first t F) i) (sum-same F p q (λ s h. e s (or_right (same_list s t) (is_there F s) h)) i)

pub sum-none : (F : List (List ℕ)) → odd_of F (λ t. false) ≡ false
sum-none [] = refl
sum-none (t ∷ F) = sum-none F

-- sums over the list and over the ids change places
pub sum-swap : (n : ℕ) (F : List (List ℕ)) (p : List ℕ → ℕ → Bool) → odd_of F (λ t. odd n (p t)) ≡ odd n (λ x. odd_of F (λ t. p t x))
sum-swap n [] p = sym (odd-none n _ (λ x _. refl))
sum-swap n (t ∷ F) p = ap (xor (odd n (p t))) (sum-swap n F p) ∙ sym (odd-xor n (p t) (λ x. odd_of F (λ t. p t x)))

-- over those that pass a test
pub sum-filter : (F : List (List ℕ)) (test p : List ℕ → Bool) → odd_of F (λ t. test t && p t) ≡ odd_of (filter test F) p
sum-filter [] test p = refl
sum-filter (t ∷ F) test p = by (test t) (sum-filter F test p)
  where
    by : (b : Bool) → odd_of F (λ t. test t && p t) ≡ odd_of (filter test F) p
        → xor (b && p t) (odd_of F (λ t. test t && p t)) ≡ odd_of (cond b (t ∷ filter test F) (filter test F)) p
    by true rest = ap (xor (p t)) rest
    by false rest = rest

pub filter-there : (F : List (List ℕ)) (test : List ℕ → Bool) (s : List ℕ) → is_there F s ≡ true → test s ≡ true → is_there (filter test F) s ≡ true
filter-there [] test s h e = absurd (true≢false (sym h))
filter-there (t ∷ F) test s h e = ⊎_elim
    (λ (here : same_list s t ≡ true).
    ap (λ b. is_there (cond b (t ∷ filter test F) (filter test F)) s) (ap test (sym (same_list-true s t here)) ∙ e)
    ∙ or_left (same_list s t) (is_there (filter test F) s) here)
    (λ (later : is_there F s ≡ true). by (test t) (filter-there F test s later e))
    (or_cases (same_list s t) (is_there F s) h)
  where
    by : (b : Bool) → is_there (filter test F) s ≡ true → is_there (cond b (t ∷ filter test F) (filter test F)) s ≡ true
    by true rest = or_right (same_list s t) (is_there (filter test F) s) rest
    by false rest = rest

-- a list of two, that has two given different members
pub two-members : (G : List (List ℕ)) → length G ≡ 2 → (d t : List ℕ) → (d ≡ t → ⊥) → is_there G d ≡ true → is_there G t ≡ true
    → (p : List ℕ → Bool) → odd_of G p ≡ false → p d ≡ p t
two-members [] e d t other hd ht p none = absurd (true≢false (sym hd))
two-members (a ∷ []) e d t other hd ht p none = absurd (omega (arith, e))
two-members (a ∷ b ∷ g ∷ G) e d t other hd ht p none = absurd (omega (arith, e))
two-members (a ∷ b ∷ []) e d t other hd ht p none = by (where_is d hd) (where_is t ht)
  where
    where_is : (s : List ℕ) → is_there (a ∷ b ∷ []) s ≡ true → (s ≡ a) ⊎ (s ≡ b)
    where_is s h = ⊎_elim
        (λ (here : same_list s a ≡ true). inl (same_list-true s a here))
        (λ (later : is_there (b ∷ []) s ≡ true). ⊎_elim
        (λ (here : same_list s b ≡ true). inr (same_list-true s b here))
        (λ (never : false ≡ true). absurd (true≢false (sym never)))
        (or_cases (same_list s b) false later))
        (or_cases (same_list s a) (is_there (b ∷ []) s) h)

    equal : (x y : Bool) → xor x (xor y false) ≡ false → x ≡ y
    equal true true h = refl
    equal true false h = absurd (true≢false h)
    equal false true h = absurd (true≢false h)
    equal false false h = refl

    by : (d ≡ a) ⊎ (d ≡ b) → (t ≡ a) ⊎ (t ≡ b) → p d ≡ p t
    by (inl x) (inl y) = absurd (other (x ∙ sym y))
    by (inr x) (inr y) = absurd (other (x ∙ sym y))
    by (inl x) (inr y) = ap p x ∙ equal (p a) (p b) none ∙ ap p (sym y)
    by (inr x) (inl y) = ap p x ∙ sym (equal (p a) (p b) none) ∙ ap p (sym y)

pub two-true : (G : List (List ℕ)) (p : List ℕ → Bool) → length G ≡ 2 → ((t : List ℕ) → is_there G t ≡ true → p t ≡ true) → odd_of G p ≡ false
two-true [] p e all = absurd (omega (arith, e))
two-true (a ∷ []) p e all = absurd (omega (arith, e))
two-true (a ∷ b ∷ g ∷ G) p e all = absurd (omega (arith, e))
two-true (a ∷ b ∷ []) p e all = λ i. xor
    (all a (there-first a (b ∷ [])) i)
    (xor (all b (or_right (same_list b a) (is_there (b ∷ []) b) (there-first b [])) i) false)

pub filter-source : (G : List (List ℕ)) (test : List ℕ → Bool) (s : List ℕ) → is_there (filter test G) s ≡ true → is_there G s ≡ true
filter-source [] test s h = h
filter-source (t ∷ G) test s h = by (test t) (λ e. filter-source G test s e) h
  where
    by : (b : Bool) → (is_there (filter test G) s ≡ true → is_there G s ≡ true) → is_there (cond b (t ∷ filter test G) (filter test G)) s ≡ true
        → (same_list s t || is_there G s) ≡ true
    by true rest e = ⊎_elim
        (λ (here : same_list s t ≡ true). or_left (same_list s t) (is_there G s) here)
        (λ (later : is_there (filter test G) s ≡ true). or_right (same_list s t) (is_there G s) (rest later))
        (or_cases (same_list s t) (is_there (filter test G) s) e)
    by false rest e = or_right (same_list s t) (is_there G s) (rest e)
