-- As many different numbers below n as there are, and not more.
--     Fresh xs               no number stands twice in xs
--     fresh-le               a list of different numbers below n has at most n
--     fresh-all              one with n has each of them
use Rattle.std.proofs.Common.{◌≡◌, ℕ, zero, suc, ◌+◌, ◌<◌, ◌≤◌, Bool, true, false, cond, ◌||◌, List, [], ◌∷◌, length, nat_eq, refl, sym, ap, ◌∙◌, arith, ⊎_elim, eqb-true, eq-eqb}
use Rattle.std.specs.List.{All}
use Rattle.std.proofs.lemmas.Bool.{true≢false, cases_eq}
use Rattle.std.proofs.lemmas.List.Elements.{All-head, All-tail}
use Rattle.homology.specs.Sets.{set_of}
use Rattle.homology.proofs.ParityLaws.{nat_eq-apart}

abbrev weight : Bool → ℕ
weight b = cond b 1 0

-- at how many places below n the test p holds
abbrev places : ℕ → (ℕ → Bool) → ℕ
places zero p = 0
places (suc n) p = weight (p n) + places n p

places-le : (n : ℕ) (p : ℕ → Bool) → places n p ≤ n
places-le zero p = omega arith
places-le (suc n) p =
    let rest : places n p ≤ n = places-le n p in
    elim (p n) as (λ b. weight b + places n p ≤ suc n) [ true ↦ omega (arith, rest) | false ↦ omega (arith, rest) ]

-- where it holds at n places, it holds at each
places-all : (n : ℕ) (p : ℕ → Bool) → n ≤ places n p → (q : ℕ) → q < n → p q ≡ true
places-all zero p all q lt = absurd (omega arith)
places-all (suc n) p all q lt =
    elim (p n) as (λ b. p n ≡ b → suc n ≤ weight b + places n p → p q ≡ true) [
      | true ↦ λ e h. ⊎_elim
          (λ (same : q ≡ n). ap p same ∙ e)
          (λ (other : q ≡ n → ⊥). places-all n p (omega (arith, h)) q (omega (arith, other, lt)))
          (cases_eq q n)
      | false ↦ λ e h. absurd (omega (arith, h, places-le n p))
    ] refl all

places-same : (n : ℕ) (p q : ℕ → Bool) → ((t : ℕ) → t < n → p t ≡ q t) → places n p ≡ places n q
places-same zero p q e = refl
places-same (suc n) p q e = λ i. weight (e n (omega arith) i) + places-same n p q (λ t lt. e t (omega arith)) i

places-none : (n : ℕ) → places n (λ q. false) ≡ 0
places-none zero = refl
places-none (suc n) = omega (arith, places-none n)

-- one place more
places-more : (n x : ℕ) (p : ℕ → Bool) → x < n → p x ≡ false → places n (λ q. nat_eq q x || p q) ≡ suc (places n p)
places-more zero x p lt out = absurd (omega arith)
places-more (suc n) x p lt out =
    elim (nat_eq n x) as (λ b. nat_eq n x ≡ b → weight (b || p n) + places n (λ q. nat_eq q x || p q) ≡ suc (weight (p n) + places n p)) [
      | true ↦ λ e.
          let same : n ≡ x = eqb-true n x e in
          let rest : places n (λ q. nat_eq q x || p q) ≡ places n p =
          places-same n (λ q. nat_eq q x || p q) p (λ t h. ap (λ b. b || p t) (nat_eq-apart t x (λ s. omega (arith, h, s, same)))) in
          let none : weight (p n) ≡ 0 = ap weight (ap p same ∙ out) in
          omega (arith, rest, none)
      | false ↦ λ e.
          let before : x < n = omega (arith, lt, λ (s : n ≡ x). true≢false (sym (eq-eqb n x s) ∙ e)) in
          let rest : places n (λ q. nat_eq q x || p q) ≡ suc (places n p) = places-more n x p before out in
          omega (arith, rest)
    ] refl

abbrev pub Fresh : List ℕ → Type 0
Fresh [] = Unit {0}
Fresh (x ∷ xs) = (set_of xs x ≡ false) × Fresh xs

-- a list of different numbers below n has as many as its set has members
places-list : (n : ℕ) (xs : List ℕ) → Fresh xs → All (λ x. x < n) xs → places n (set_of xs) ≡ length xs
places-list n [] fresh below = places-none n
places-list n (x ∷ xs) fresh below =
    places-more n x (set_of xs) (All-head (λ y. y < n) x xs below) fresh.0
    ∙ ap suc (places-list n xs fresh.1 (All-tail (λ y. y < n) x xs below))

pub fresh-le : (n : ℕ) (xs : List ℕ) → Fresh xs → All (λ x. x < n) xs → length xs ≤ n
fresh-le n xs fresh below = omega (arith, places-list n xs fresh below, places-le n (set_of xs))

pub fresh-all : (n : ℕ) (xs : List ℕ) → Fresh xs → All (λ x. x < n) xs → n ≤ length xs → (q : ℕ) → q < n → set_of xs q ≡ true
fresh-all n xs fresh below all q lt = places-all n (set_of xs) (omega (arith, places-list n xs fresh below, all)) q lt
