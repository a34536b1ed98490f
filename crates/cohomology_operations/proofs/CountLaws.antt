-- Faces with the value one, counted by the parity of the place that they leave out.
--     parity n                   whether n is odd
--     parity-sum                 of a sum
--     half-more, half-difference    halves modulo 2, of one more and of a difference
--     number even A s            how many faces of s without an even, or an odd, place have the value one
--     odd_number even A s        whether that number is odd
--     faces_with-number          it is the number of the definition
--     number-odd                 and its parity is that of the sum
--     odd_number-both            both together are the sum over all places
use Rattle.std.proofs.Common.{◌≡◌, ℕ, zero, suc, ◌+◌, ◌/◌, ◌%◌, Bool, true, false, cond, ◌&&◌, not, List, [], ◌∷◌, length, nat_eq, refl, sym, ap, ◌∙◌, arith, eqb-true, eq-eqb, add-one}
use Rattle.std.specs.Prelude.{◌==◌}
use Rattle.std.specs.List.{count_by, range_with_len, remove}
use Rattle.std.proofs.lemmas.Bool.{true≢false}
use Rattle.std.proofs.lemmas.List.Sums.{sum_by-cons}
use Rattle.homology.specs.Parity.{xor}
use Rattle.homology.proofs.ParityLaws.{nat_eq-apart}
use Rattle.products.proofs.TruthTables.{by_table}
use Rattle.products.proofs.SplittingLaws.{delta}
use Rattle.cohomology_operations.specs.Bocksteins.{faces_with, difference}

abbrev pub parity : ℕ → Bool
parity n = nat_eq (n % 2) 1

parity-even : (n : ℕ) → parity n ≡ false → n % 2 ≡ 0
parity-even n e = omega (arith, λ (q : n % 2 ≡ 1). true≢false (sym (eq-eqb (n % 2) 1 q) ∙ e))

parity-odd : (n : ℕ) → parity n ≡ true → n % 2 ≡ 1
parity-odd n e = eqb-true (n % 2) 1 e

even-parity : (n : ℕ) → n % 2 ≡ 0 → parity n ≡ false
even-parity n e = nat_eq-apart (n % 2) 1 (λ q. omega (arith, e, q))

odd-parity : (n : ℕ) → n % 2 ≡ 1 → parity n ≡ true
odd-parity n e = eq-eqb (n % 2) 1 e

pub parity-sum : (m n : ℕ) → xor (parity m) (parity n) ≡ parity (m + n)
parity-sum m n = by (parity m) (parity n) refl refl
  where
    by : (b c : Bool) → parity m ≡ b → parity n ≡ c → xor (parity m) (parity n) ≡ parity (m + n)
    by true true e f =
        (λ i. xor (e i) (f i)) ∙ sym (even-parity (m + n) (omega (arith, parity-odd m e, parity-odd n f)))
    by true false e f =
        (λ i. xor (e i) (f i)) ∙ sym (odd-parity (m + n) (omega (arith, parity-odd m e, parity-even n f)))
    by false true e f =
        (λ i. xor (e i) (f i)) ∙ sym (odd-parity (m + n) (omega (arith, parity-even m e, parity-odd n f)))
    by false false e f =
        (λ i. xor (e i) (f i)) ∙ sym (even-parity (m + n) (omega (arith, parity-even m e, parity-even n f)))

-- numbers with one rest have one parity
parity-same : (m n : ℕ) → m % 2 ≡ n % 2 → parity m ≡ parity n
parity-same m n e = ap (λ k. nat_eq k 1) e

-- equal parities, as rests
parity-rests : (m n : ℕ) → xor (parity m) (parity n) ≡ false → (m + n) % 2 ≡ 0
parity-rests m n e = parity-even (m + n) (sym (parity-sum m n) ∙ e)

pub half-more : (n : ℕ) → parity ((1 + n) / 2) ≡ xor (parity n) (parity (n / 2))
half-more n = parity-same ((1 + n) / 2) (n + n / 2) (omega arith) ∙ sym (parity-sum n (n / 2))

pub half-difference : (m n : ℕ) → xor (parity m) (parity n) ≡ false
    → parity (difference m n / 2) ≡ xor (parity (m / 2)) (parity (n / 2))
half-difference m n e =
    let even : (m + n) % 2 ≡ 0 = parity-rests m n e in
    parity-same (difference m n / 2) (m / 2 + n / 2) (omega arith) ∙ sym (parity-sum (m / 2) (n / 2))

pub difference-even : (m n : ℕ) → xor (parity m) (parity n) ≡ false → difference m n % 2 ≡ 0
difference-even m n e = let even : (m + n) % 2 ≡ 0 = parity-rests m n e in omega arith

-- one where the value is
abbrev pub one : Bool → ℕ
one b = cond b 1 0

abbrev pub number : Bool → (List ℕ → Bool) → List ℕ → ℕ
number even A [] = 0
number even A (v ∷ s) = cond even (one (A s)) 0 + number (not even) (λ t. A (v ∷ t)) s

abbrev pub odd_number : Bool → (List ℕ → Bool) → List ℕ → Bool
odd_number even A [] = false
odd_number even A (v ∷ s) = xor (even && A s) (odd_number (not even) (λ t. A (v ∷ t)) s)

pub number-odd : (even : Bool) (A : List ℕ → Bool) (s : List ℕ) → odd_number even A s ≡ parity (number even A s)
number-odd even A [] = refl
number-odd even A (v ∷ s) =
    (λ i. xor (first even (A s) i) (number-odd (not even) (λ t. A (v ∷ t)) s i))
    ∙ parity-sum (cond even (one (A s)) 0) (number (not even) (λ t. A (v ∷ t)) s)
  where
    first : (even b : Bool) → (even && b) ≡ parity (cond even (one b) 0)
    first true true = refl
    first true false = refl
    first false b = refl

pub odd_number-both : (A : List ℕ → Bool) (s : List ℕ) → xor (odd_number true A s) (odd_number false A s) ≡ delta A s
odd_number-both A [] = refl
odd_number-both A (v ∷ s) =
    by_table 3 (λ a b c. xor (xor a b) c) (λ a b c. xor a (xor c b)) refl (A s) (odd_number false (λ t. A (v ∷ t)) s) (odd_number true (λ t. A (v ∷ t)) s)
    ∙ ap (xor (A s)) (odd_number-both (λ t. A (v ∷ t)) s)

-- the rest of the places of this parity
abbrev pub rest_of : Bool → ℕ
rest_of even = cond even 0 1

-- one place further
rest-more : (even : Bool) (k : ℕ) → (suc k % 2 == rest_of even) ≡ (k % 2 == rest_of (not even))
rest-more true k = by (parity k) refl
  where
    by : (b : Bool) → parity k ≡ b → (suc k % 2 == 0) ≡ (k % 2 == 1)
    by true e = eq-eqb (suc k % 2) 0 (omega (arith, parity-odd k e)) ∙ sym e
    by false e = nat_eq-apart (suc k % 2) 0 (λ q. omega (arith, parity-even k e, q)) ∙ sym e
rest-more false k = by (parity k) refl
  where
    by : (b : Bool) → parity k ≡ b → (suc k % 2 == 1) ≡ (k % 2 == 0)
    by true e =
        even-parity (suc k) (omega (arith, parity-odd k e))
        ∙ sym (nat_eq-apart (k % 2) 0 (λ q. omega (arith, parity-odd k e, q)))
    by false e = odd-parity (suc k) (omega (arith, parity-even k e)) ∙ sym (eq-eqb (k % 2) 0 (parity-even k e))

-- a count that begins one place further
count-shift : (P : ℕ → Bool) (m n : ℕ) → count_by P (range_with_len (m + 1) n) ≡ count_by (λ k. P (suc k)) (range_with_len m n)
count-shift P m zero = refl
count-shift P m (suc n) =
    sum_by-cons (λ k. one (P k)) (m + 1) (range_with_len (m + 1 + 1) n)
    ∙ (λ i. one (P (add-one m i)) + count-shift P (m + 1) n i)
    ∙ sym (sum_by-cons (λ k. one (P (suc k))) m (range_with_len (m + 1) n))

-- the faces of a list by its first place and by the others
faces_with-more : (even : Bool) (A : List ℕ → Bool) (v : ℕ) (s : List ℕ)
    → faces_with A (rest_of even) (v ∷ s) ≡ cond even (one (A s)) 0 + faces_with (λ t. A (v ∷ t)) (rest_of (not even)) s
faces_with-more even A v s =
    sum_by-cons (λ k. one (k % 2 == rest_of even && A (remove (v ∷ s) k))) 0 (range_with_len (0 + 1) (length s))
    ∙ (λ i. first even (A s) i + later i)
  where
    first : (even b : Bool) → one (0 % 2 == rest_of even && b) ≡ cond even (one b) 0
    first true b = refl
    first false b = refl

    later : count_by (λ k. k % 2 == rest_of even && A (remove (v ∷ s) k)) (range_with_len (0 + 1) (length s))
        ≡ faces_with (λ t. A (v ∷ t)) (rest_of (not even)) s
    later =
        count-shift (λ k. k % 2 == rest_of even && A (remove (v ∷ s) k)) 0 (length s)
        ∙ (λ i. count_by (λ k. rest-more even k i && A (v ∷ remove s k)) (range_with_len 0 (length s)))

pub faces_with-number : (even : Bool) (A : List ℕ → Bool) (s : List ℕ) → faces_with A (rest_of even) s ≡ number even A s
faces_with-number even A [] = refl
faces_with-number even A (v ∷ s) =
    faces_with-more even A v s
    ∙ ap (λ n. cond even (one (A s)) 0 + n) (faces_with-number (not even) (λ t. A (v ∷ t)) s)
