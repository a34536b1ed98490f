-- The sets and halves of the definition are splittings.
--     half_from, without_from     halves and what is left, from a place and an index on
--     choices-same                tests that agree at ascending lists agree on the choices
--     weigh-halves                one induction along the positions, with the parity of place and index as its state
--     product_at-weigh            the product is the sum over the splittings with i + 1 shared vertices
use Rattle.std.proofs.Common.{◌≡◌, ℕ, zero, suc, ◌+◌, ◌-◌, ◌%◌, ◌<◌, ◌≤◌, Bool, true, false, cond, ◌&&◌, ◌||◌, not, List, [], ◌∷◌, map, length, nat_eq, refl, sym, ap, ◌∙◌, arith, eqb-true, eq-eqb, lt-ltb, le-ltb, ⊎_elim}
use Rattle.std.specs.Prelude.{◌==◌}
use Rattle.std.specs.List.{filter, enumerate_from, range_with_len}
use Rattle.std.proofs.lemmas.Bool.{true≢false, cases_lt}
use Rattle.std.proofs.lemmas.List.FromFn.{length-range_with_len}
use Rattle.homology.specs.Parity.{xor}
use Rattle.homology.specs.Sets.{set_of}
use Rattle.homology.specs.Growth.{choices}
use Rattle.homology.proofs.ParityLaws.{xor-false, xor-comm, nat_eq-self, nat_eq-apart}
use Rattle.homology.proofs.ListSetLaws.{Rises, Rises-lower}
use Rattle.homology.proofs.FaceLists.{choices-none}
use Rattle.products.specs.Products.{odd_of, product_at}
use Rattle.products.proofs.SplittingLaws.{odd_of-append, odd_of-map, Test, put, put_both, weigh, lower, weigh-step, weigh-wide}

-- the half with its indices, the first of which is j
abbrev pub chosen : ℕ → ℕ → List ℕ → List (ℕ × ℕ)
chosen j parity us = filter (λ p. (p.1 + p.0) % 2 == parity) (enumerate_from j us)

abbrev pub half_from : ℕ → ℕ → List ℕ → List ℕ
half_from j parity us = map (λ p. p.1) (chosen j parity us)

-- what is left with its places, the first of which is m
abbrev pub kept : ℕ → List ℕ → List ℕ → List (ℕ × ℕ)
kept m us s = filter (λ p. not (set_of us p.0)) (enumerate_from m s)

abbrev pub without_from : ℕ → List ℕ → List ℕ → List ℕ
without_from m us s = map (λ p. p.1) (kept m us s)

-- a number of that parity comes to the half, and another one does not
half-in : (j parity u : ℕ) (us : List ℕ) → ((u + j) % 2 == parity) ≡ true → half_from j parity (u ∷ us) ≡ u ∷ half_from (j + 1) parity us
half-in j parity u us e = ap (λ b. map (λ (p : ℕ × ℕ). p.1) (cond b ((j, u) ∷ chosen (j + 1) parity us) (chosen (j + 1) parity us))) e

half-out : (j parity u : ℕ) (us : List ℕ) → ((u + j) % 2 == parity) ≡ false → half_from j parity (u ∷ us) ≡ half_from (j + 1) parity us
half-out j parity u us e = ap (λ b. map (λ (p : ℕ × ℕ). p.1) (cond b ((j, u) ∷ chosen (j + 1) parity us) (chosen (j + 1) parity us))) e

-- numbers below an ascending list are in none of its halves
half-below : (j parity : ℕ) (us : List ℕ) (m b : ℕ) → m < b → Rises b us → set_of (half_from j parity us) m ≡ false
half-below j parity [] m b lt r = refl
half-below j parity (u ∷ us) m b lt r =
    let rest : set_of (half_from (j + 1) parity us) m ≡ false = half-below (j + 1) parity us m (u + 1) (omega (arith, r.0)) r.1 in
    elim ((u + j) % 2 == parity) as (λ t. ((u + j) % 2 == parity) ≡ t → set_of (half_from j parity (u ∷ us)) m ≡ false) [
      | true ↦ λ e.
          ap (λ z. set_of z m) (half-in j parity u us e)
          ∙ ap (λ t. t || set_of (half_from (j + 1) parity us) m) (nat_eq-apart m u (λ q. omega (arith, r.0, q)))
          ∙ rest
      | false ↦ λ e. ap (λ z. set_of z m) (half-out j parity u us e) ∙ rest
    ] refl

-- an entry at a place that is left out, and at another one
without-in : (m : ℕ) (us : List ℕ) (v : ℕ) (s : List ℕ) → set_of us m ≡ false → without_from m us (v ∷ s) ≡ v ∷ without_from (m + 1) us s
without-in m us v s e = ap (λ b. map (λ (p : ℕ × ℕ). p.1) (cond (not b) ((m, v) ∷ kept (m + 1) us s) (kept (m + 1) us s))) e

without-out : (m : ℕ) (us : List ℕ) (v : ℕ) (s : List ℕ) → set_of us m ≡ true → without_from m us (v ∷ s) ≡ without_from (m + 1) us s
without-out m us v s e = ap (λ b. map (λ (p : ℕ × ℕ). p.1) (cond (not b) ((m, v) ∷ kept (m + 1) us s) (kept (m + 1) us s))) e

-- a place before all of s leaves nothing out
kept-skip : (n m : ℕ) (us s : List ℕ) → m < n → kept n (m ∷ us) s ≡ kept n us s
kept-skip n m us [] lt = refl
kept-skip n m us (v ∷ s) lt = λ i. cond
    (not (nat_eq-apart n m (λ q. omega (arith, q)) i || set_of us n))
    ((n, v) ∷ kept-skip (n + 1) m us s (omega arith) i)
    (kept-skip (n + 1) m us s (omega arith) i)

-- the position m is in U, and in this half: its vertex v is left out; or in the other half, or not in U: v is kept
term-out : (m j parity v : ℕ) (us s : List ℕ) → ((m + j) % 2 == parity) ≡ true
    → without_from m (half_from j parity (m ∷ us)) (v ∷ s) ≡ without_from (m + 1) (half_from (j + 1) parity us) s
term-out m j parity v us s e =
    ap (λ H. without_from m H (v ∷ s)) (half-in j parity m us e)
    ∙ without-out m (m ∷ half_from (j + 1) parity us) v s (ap (λ t. t || set_of (half_from (j + 1) parity us) m) (nat_eq-self m))
    ∙ ap (map (λ (p : ℕ × ℕ). p.1)) (kept-skip (m + 1) m (half_from (j + 1) parity us) s (omega arith))

term-in : (m j parity v : ℕ) (us s : List ℕ) → ((m + j) % 2 == parity) ≡ false → Rises (m + 1) us
    → without_from m (half_from j parity (m ∷ us)) (v ∷ s) ≡ v ∷ without_from (m + 1) (half_from (j + 1) parity us) s
term-in m j parity v us s e r =
    ap (λ H. without_from m H (v ∷ s)) (half-out j parity m us e)
    ∙ without-in m (half_from (j + 1) parity us) v s (half-below (j + 1) parity us m (m + 1) (omega arith) r)

term-shared : (m j parity v : ℕ) (us s : List ℕ) → Rises (m + 1) us
    → without_from m (half_from j parity us) (v ∷ s) ≡ v ∷ without_from (m + 1) (half_from j parity us) s
term-shared m j parity v us s r = without-in m (half_from j parity us) v s (half-below j parity us m (m + 1) (omega arith) r)

-- a choice from an interval has its first number, or not
choices-split : (n b len : ℕ) (P : List ℕ → Bool) → odd_of (choices (suc n) (range_with_len b (suc len))) P
    ≡ xor (odd_of (choices n (range_with_len (b + 1) len)) (λ us. P (b ∷ us))) (odd_of (choices (suc n) (range_with_len (b + 1) len)) P)
choices-split n b len P =
    odd_of-append (map (λ us. b ∷ us) (choices n (range_with_len (b + 1) len))) (choices (suc n) (range_with_len (b + 1) len)) P
    ∙ ap (λ t. xor t (odd_of (choices (suc n) (range_with_len (b + 1) len)) P)) (odd_of-map (λ us. b ∷ us) (choices n (range_with_len (b + 1) len)) P)

-- tests that agree at the lists that ascend from b on
pub choices-same : (n b len : ℕ) (P Q : List ℕ → Bool) → ((us : List ℕ) → Rises b us → P us ≡ Q us)
    → odd_of (choices n (range_with_len b len)) P ≡ odd_of (choices n (range_with_len b len)) Q
choices-same zero b len P Q e = λ i. xor (e [] tt i) false
choices-same (suc n) b zero P Q e = refl
choices-same (suc n) b (suc len) P Q e =
    choices-split n b len P
    ∙ (λ i. xor
    (choices-same n (b + 1) len (λ us. P (b ∷ us)) (λ us. Q (b ∷ us)) (λ us r. e (b ∷ us) (omega arith, r)) i)
    (choices-same (suc n) (b + 1) len P Q (λ us r. e us (Rises-lower b (b + 1) us (omega arith) r)) i))
    ∙ sym (choices-split n b len Q)

-- the term of the set U at the vertices s, with the places from m on and the indices from j on
abbrev pub halved : List ℕ → ℕ → ℕ → Test → List ℕ → Bool
halved s m j W = λ us. W (without_from m (half_from j 0 us) s) (without_from m (half_from j 1 us) s)

-- the parity of place and index as a side, and what it becomes
even-other : (n : ℕ) → nat_eq (n % 2) 1 ≡ false → (n % 2 == 0) ≡ true
even-other n e = eq-eqb (n % 2) 0 (omega (arith, λ (q : n % 2 ≡ 1). true≢false (sym (eq-eqb (n % 2) 1 q) ∙ e)))

odd-other : (n : ℕ) → nat_eq (n % 2) 1 ≡ true → (n % 2 == 0) ≡ false
odd-other n e = let one : n % 2 ≡ 1 = eqb-true (n % 2) 1 e in nat_eq-apart (n % 2) 0 (λ q. omega (arith, one, q))

side-stays : (m j : ℕ) (first : Bool) → nat_eq ((m + j) % 2) 1 ≡ first → nat_eq ((m + 1 + (j + 1)) % 2) 1 ≡ first
side-stays m j first e = let same : (m + 1 + (j + 1)) % 2 ≡ (m + j) % 2 = omega arith in ap (λ k. nat_eq k 1) same ∙ e

side-turns : (m j : ℕ) (first : Bool) → nat_eq ((m + j) % 2) 1 ≡ first → nat_eq ((m + 1 + j) % 2) 1 ≡ not first
side-turns m j true e =
    let one : (m + j) % 2 ≡ 1 = eqb-true ((m + j) % 2) 1 e in
    nat_eq-apart ((m + 1 + j) % 2) 1 (λ q. omega (arith, one, q))
side-turns m j false e =
    let none : (m + j) % 2 ≡ 0 = eqb-true ((m + j) % 2) 0 (even-other (m + j) e) in
    eq-eqb ((m + 1 + j) % 2) 1 (omega (arith, none))

-- the first position is in U: its vertex goes to the side of its parity
halved-single : (m j v : ℕ) (s us : List ℕ) (first : Bool) (W : Test) → nat_eq ((m + j) % 2) 1 ≡ first → Rises (m + 1) us
    → halved (v ∷ s) m j W (m ∷ us) ≡ halved s (m + 1) (j + 1) (put first v W) us
halved-single m j v s us true W e r = λ i. W (term-in m j 0 v us s (odd-other (m + j) e) r i) (term-out m j 1 v us s e i)
halved-single m j v s us false W e r = λ i. W (term-out m j 0 v us s (even-other (m + j) e) i) (term-in m j 1 v us s e r i)

-- it is not: its vertex is shared
halved-shared : (m j v : ℕ) (s us : List ℕ) (W : Test) → Rises (m + 1) us
    → halved (v ∷ s) m j W us ≡ halved s (m + 1) j (put_both v W) us
halved-shared m j v s us W r = λ i. W (term-shared m j 0 v us s r i) (term-shared m j 1 v us s r i)

-- one more position in front
weigh-more : (v : ℕ) (s : List ℕ) (m j k r : ℕ) (first : Bool) (W : Test) → nat_eq ((m + j) % 2) 1 ≡ first
    → odd_of (choices r (range_with_len (m + 1) (length s))) (halved s (m + 1) (j + 1) (put first v W)) ≡ weigh k first s (put first v W)
    → odd_of (choices (suc r) (range_with_len (m + 1) (length s))) (halved (v ∷ s) m j W) ≡ lower k (not first) s (put_both v W)
    → odd_of (choices (suc r) (range_with_len m (length (v ∷ s)))) (halved (v ∷ s) m j W) ≡ weigh k first (v ∷ s) W
weigh-more v s m j k r first W e single shared =
    choices-split r m (length s) (halved (v ∷ s) m j W)
    ∙ (λ i. xor
    ((choices-same r (m + 1) (length s) (λ us. halved (v ∷ s) m j W (m ∷ us)) (halved s (m + 1) (j + 1) (put first v W))
    (λ us up. halved-single m j v s us first W e up) ∙ single) i)
    (shared i))
    ∙ xor-comm (weigh k first s (put first v W)) (lower k (not first) s (put_both v W))
    ∙ sym (weigh-step k first v s W)

pub weigh-halves : (s : List ℕ) (m j k r : ℕ) (first : Bool) (W : Test) → nat_eq ((m + j) % 2) 1 ≡ first → k + r ≡ length s
    → odd_of (choices r (range_with_len m (length s))) (halved s m j W) ≡ weigh k first s W
weigh-halves [] m j zero zero first W e n = xor-false (W [] [])
weigh-halves [] m j zero (suc r) first W e n = absurd (omega arith)
weigh-halves [] m j (suc k) r first W e n = absurd (omega arith)
weigh-halves (v ∷ s) m j zero zero first W e n = absurd (omega arith)
weigh-halves (v ∷ s) m j (suc k) zero first W e n =
    weigh-halves s (m + 1) j k zero (not first) (put_both v W) (side-turns m j first e) (omega arith)
    ∙ sym (ap (xor (weigh k (not first) s (put_both v W))) (weigh-wide (suc k) first s (put first v W) (omega arith))
    ∙ xor-false (weigh k (not first) s (put_both v W)))
weigh-halves (v ∷ s) m j zero (suc r) first W e n = weigh-more v s m j zero r first W e
    (weigh-halves s (m + 1) (j + 1) zero r first (put first v W) (side-stays m j first e) (omega arith))
    (ap (λ L. odd_of L (halved (v ∷ s) m j W))
    (choices-none (suc r) (range_with_len (m + 1) (length s)) (omega (arith, length-range_with_len (m + 1) (length s)))))
weigh-halves (v ∷ s) m j (suc k) (suc r) first W e n = weigh-more v s m j (suc k) r first W e
    (weigh-halves s (m + 1) (j + 1) (suc k) r first (put first v W) (side-stays m j first e) (omega arith))
    (choices-same (suc r) (m + 1) (length s) (halved (v ∷ s) m j W) (halved s (m + 1) j (put_both v W))
    (λ us up. halved-shared m j v s us W up)
    ∙ weigh-halves s (m + 1) j k (suc r) (not first) (put_both v W) (side-turns m j first e) (omega arith))

-- the product of two values
abbrev pub meets : (List ℕ → Bool) → (List ℕ → Bool) → Test
meets A B = λ p q. A p && B q

pub product_at-weigh : (i : ℕ) (A B : List ℕ → Bool) (s : List ℕ) → product_at i A B s ≡ weigh (suc i) true s (meets A B)
product_at-weigh i A B s = ⊎_elim
    (λ (lt : i < length s).
    ap (λ b. b && odd_of (choices (length s - 1 - i) (range_with_len 0 (length s))) (halved s 0 1 (meets A B))) (lt-ltb i (length s) lt)
    ∙ weigh-halves s 0 1 (suc i) (length s - 1 - i) true (meets A B) refl (omega arith))
    (λ (le : length s ≤ i).
    ap (λ b. b && odd_of (choices (length s - 1 - i) (range_with_len 0 (length s))) (halved s 0 1 (meets A B))) (le-ltb i (length s) le)
    ∙ sym (weigh-wide (suc i) true s (meets A B) (omega arith)))
    (cases_lt i (length s))
