-- The first list that passes a test, among the sublists of a list that ascends.
--     first-passes               where some list passes, the first does
--     first-chain, first-sublist what else holds of the first among all chains, and among all sublists of a run of numbers
--     chains-any                 some list passes, where a chain does
use Rattle.std.proofs.Common.{◌≡◌, ℕ, zero, suc, ◌+◌, ◌<◌, Bool, true, false, cond, ◌||◌, ◌⊎◌, inl, inr, List, [], ◌∷◌, ◌++◌, map, length, nat_eq, sym, ap, ◌∙◌, arith, subst, map-id, unwrap_or, find, Some}
use Rattle.std.specs.List.{All, filter, list_any, range_with_len}
use Rattle.std.specs.List.Sorted.{IsStrictlyIncreasing}
use Rattle.std.proofs.lemmas.Bool.{true≢false, cases_Bool, or_cases, or_left, or_right}
use Rattle.homology.specs.Sets.{Ids, set_of}
use Rattle.homology.specs.Complexes.{Complex, dim}
use Rattle.homology.specs.Chains.{IsChain}
use Rattle.homology.specs.Kinds.{sublists, ids, chains}
use Rattle.homology.proofs.KindLaws.{IsChain-set_of, set_of-range, ChainWith, chains-finds}
use Rattle.homology.proofs.ListSetLaws.{Rises, Rises-lower, ascending-Rises, set_of-All}
use Rattle.cohomology.specs.Searches.{first}

-- what holds of each of some lists
abbrev pub Each : (List ℕ → Type 0) → List (List ℕ) → Type 0
Each P [] = Unit {0}
Each P (c ∷ cs) = P c × Each P cs

Each-append : (P : List ℕ → Type 0) (cs ds : List (List ℕ)) → Each P cs → Each P ds → Each P (cs ++ ds)
Each-append P [] ds a b = b
Each-append P (c ∷ cs) ds a b = (a.0, Each-append P cs ds a.1 b)

Each-map : (P Q : List ℕ → Type 0) (f : List ℕ → List ℕ) (cs : List (List ℕ)) → ((c : List ℕ) → P c → Q (f c)) → Each P cs → Each Q (map f cs)
Each-map P Q f [] step a = tt
Each-map P Q f (c ∷ cs) step a = (step c a.0, Each-map P Q f cs step a.1)

-- the first of a longer list
first-here : (test : List ℕ → Bool) (c : List ℕ) (cs : List (List ℕ)) → test c ≡ true → first test (c ∷ cs) ≡ c
first-here test c cs e = ap (λ b. unwrap_or (cond b (Some c) (find test cs)) []) e

first-later : (test : List ℕ → Bool) (c : List ℕ) (cs : List (List ℕ)) → test c ≡ false → first test (c ∷ cs) ≡ first test cs
first-later test c cs e = ap (λ b. unwrap_or (cond b (Some c) (find test cs)) []) e

pub first-passes : (test : List ℕ → Bool) (P : List ℕ → Type 0) (cs : List (List ℕ)) → Each P cs → list_any test cs ≡ true
    → (test (first test cs) ≡ true) × P (first test cs)
first-passes test P [] a e = absurd (true≢false (sym e))
first-passes test P (c ∷ cs) a e = at (first-passes test P cs a.1) (cases_Bool (test c))
  where
    at : (list_any test cs ≡ true → (test (first test cs) ≡ true) × P (first test cs)) → (test c ≡ true) ⊎ (test c ≡ false)
        → (test (first test (c ∷ cs)) ≡ true) × P (first test (c ∷ cs))
    at rest (inl here) = subst (λ z. (test z ≡ true) × P z) (sym (first-here test c cs here)) (here, a.0)
    at rest (inr later) =
        subst (λ z. (test z ≡ true) × P z) (sym (first-later test c cs later)) (rest (sym (ap (λ b. b || list_any test cs) later) ∙ e))

-- a list of members of xs that rises from b
pub record Sublist (b : ℕ) (xs ys : List ℕ) : Type 0 where
  pub within : (q : ℕ) → set_of ys q ≡ true → set_of xs q ≡ true
  pub rises : Rises b ys

pub sublists-each : (b : ℕ) (xs : List ℕ) → Rises b xs → Each (Sublist b xs) (sublists xs)
sublists-each b [] r = (record { within = λ q h. h; rises = tt }, tt)
sublists-each b (x ∷ xs) r = Each-append (Sublist b (x ∷ xs)) (map (λ ys. x ∷ ys) (sublists xs)) (sublists xs)
    (Each-map (Sublist (x + 1) xs) (Sublist b (x ∷ xs)) (λ ys. x ∷ ys) (sublists xs) with_x (sublists-each (x + 1) xs r.1))
    (subst (Each (Sublist b (x ∷ xs))) (map-id (sublists xs)) (Each-map (Sublist (x + 1) xs) (Sublist b (x ∷ xs)) (λ ys. ys) (sublists xs) without (sublists-each (x + 1) xs r.1)))
  where
    with_x : (ys : List ℕ) → Sublist (x + 1) xs ys → Sublist b (x ∷ xs) (x ∷ ys)
    with_x ys s = record {
      within = λ q h. at q (or_cases (nat_eq q x) (set_of ys q) h);
      rises = (r.0, s.rises);
    }
      where
        at : (q : ℕ) → (nat_eq q x ≡ true) ⊎ (set_of ys q ≡ true) → (nat_eq q x || set_of xs q) ≡ true
        at q (inl e) = or_left (nat_eq q x) (set_of xs q) e
        at q (inr e) = or_right (nat_eq q x) (set_of xs q) (s.within q e)

    without : (ys : List ℕ) → Sublist (x + 1) xs ys → Sublist b (x ∷ xs) ys
    without ys s = record {
      within = λ q h. or_right (nat_eq q x) (set_of xs q) (s.within q h);
      rises = Rises-lower b (x + 1) ys (omega (arith, r.0)) s.rises;
    }

pub rises-range : (b n : ℕ) → Rises b (range_with_len b n)
rises-range b zero = tt
rises-range b (suc n) = (omega arith, rises-range (b + 1) n)

rises-filter : (test : ℕ → Bool) (b : ℕ) (xs : List ℕ) → Rises b xs → Rises b (filter test xs)
rises-filter test b [] r = tt
rises-filter test b (x ∷ xs) r = at (test x) (rises-filter test (x + 1) xs r.1)
  where
    at : (t : Bool) → Rises (x + 1) (filter test xs) → Rises b (cond t (x ∷ filter test xs) (filter test xs))
    at true rest = (r.0, rest)
    at false rest = Rises-lower b (x + 1) (filter test xs) (omega (arith, r.0)) rest

pub ids-rise : (K : Complex) (p : ℕ) → Rises 0 (ids K p)
ids-rise K p = rises-filter (λ t. nat_eq (dim K t) p) 0 (range_with_len 0 (length K)) (rises-range 0 (length K))

pub filter-rises : (test : ℕ → Bool) (xs : List ℕ) → Rises 0 xs → Rises 0 (filter test xs)
filter-rises test xs r = rises-filter test 0 xs r

-- the first chain of degree p that passes, and its order
pub record FirstChain (K : Complex) (p : ℕ) (test : Ids → Bool) (c : List ℕ) : Type 0 where
  pub passes : test (set_of c) ≡ true
  pub chain : IsChain K p (set_of c)
  pub ascending : IsStrictlyIncreasing c

pub first-chain : (K : Complex) (p : ℕ) (test : Ids → Bool) → ChainWith K p test → FirstChain K p test (first (λ c. test (set_of c)) (chains K p))
first-chain K p test c =
    let found = first-passes (λ c. test (set_of c)) (Sublist 0 (ids K p)) (chains K p) (sublists-each 0 (ids K p) (ids-rise K p)) (chains-finds K p test c) in
    record {
      passes = found.0;
      chain = IsChain-set_of K p (first (λ c. test (set_of c)) (chains K p)) found.1.within;
      ascending = ascending-Rises 0 (first (λ c. test (set_of c)) (chains K p)) found.1.rises;
    }

-- the first ascending list of numbers below n that passes
pub record FirstWord (n : ℕ) (test : List ℕ → Bool) (w : List ℕ) : Type 0 where
  pub passes : test w ≡ true
  pub ascending : IsStrictlyIncreasing w
  pub numbers : All (λ k. k < n) w

pub first-word : (n : ℕ) (test : List ℕ → Bool) → list_any test (sublists (range_with_len 0 n)) ≡ true
    → FirstWord n test (first test (sublists (range_with_len 0 n)))
first-word n test e =
    let xs : List ℕ = range_with_len 0 n in
    let found = first-passes test (Sublist 0 xs) (sublists xs) (sublists-each 0 xs (rises-range 0 n)) e in
    record {
      passes = found.0;
      ascending = ascending-Rises 0 (first test (sublists xs)) found.1.rises;
      numbers = set_of-All (λ k. k < n) (first test (sublists xs)) (λ k m. omega (arith, (set_of-range 0 n k (found.1.within k m)).1));
    }
