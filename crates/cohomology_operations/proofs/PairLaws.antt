-- Splittings with one and with two vertices that are not shared.
--     Fits A s n             A has the value one at lists with n vertices less than s alone
--     lone first s W         the sum of W over the splittings of s with one single vertex, by this vertex
--     two first s W          the sum over those with two, by the first of them
--     weigh-lone, weigh-two  they are those sums
--     pairs A s              the sum of products of A at two faces of s that leave out places of one parity
--     two-pairs              the splittings with two single vertices, for a product of A with itself
--     pairs-none, pairs-edge where A has no value at faces of s; at an edge
--     pairs-halves           the sum by the numbers of such faces: there are n (n - 1) / 2 pairs of n faces
use Rattle.std.proofs.Common.{◌≡◌, ℕ, zero, suc, ◌+◌, ◌/◌, Bool, true, false, ◌&&◌, not, List, [], ◌∷◌, length, refl, sym, ap, ◌∙◌, arith}
use Rattle.std.proofs.lemmas.Bool.{false_from_ne_true}
use Rattle.homology.specs.Parity.{xor}
use Rattle.homology.proofs.ParityLaws.{xor-false, xor-comm, and-comm, and-false, and-xor}
use Rattle.products.proofs.TruthTables.{by_table}
use Rattle.products.proofs.SplittingLaws.{Test, put, put_both, weigh}
use Rattle.products.proofs.HalfLaws.{meets}
use Rattle.cohomology_operations.proofs.SquareLaws.{weigh-all}
use Rattle.cohomology_operations.proofs.CountLaws.{parity, half-more, one, number, odd_number, number-odd}

abbrev pub Fits : (List ℕ → Bool) → List ℕ → ℕ → Type 0
Fits A s n = (t : List ℕ) → A t ≡ true → length t + n ≡ length s

-- the lists with v in front
fits-behind : (A : List ℕ → Bool) (v : ℕ) (s : List ℕ) (n : ℕ) → Fits A (v ∷ s) n → Fits (λ t. A (v ∷ t)) s n
fits-behind A v s n fits t e = omega (arith, fits (v ∷ t) e)

abbrev pub lone : Bool → List ℕ → Test → Bool
lone first [] W = false
lone first (v ∷ s) W = xor (put first v W s s) (lone (not first) s (put_both v W))

abbrev pub two : Bool → List ℕ → Test → Bool
two first [] W = false
two first (v ∷ s) W = xor (lone first s (put first v W)) (two (not first) s (put_both v W))

-- all shared, with their number
weigh-shared : (k : ℕ) (first : Bool) (s : List ℕ) (W : Test) → k ≡ length s → weigh k first s W ≡ W s s
weigh-shared k first s W e = ap (λ n. weigh n first s W) e ∙ weigh-all first s W

pub weigh-lone : (k : ℕ) (first : Bool) (s : List ℕ) (W : Test) → suc k ≡ length s → weigh k first s W ≡ lone first s W
weigh-lone k first [] W e = absurd (omega (arith, e))
weigh-lone zero first (v ∷ []) W e = sym (xor-false (put first v W [] []))
weigh-lone zero first (v ∷ w ∷ s) W e = absurd (omega (arith, e))
weigh-lone (suc k) first (v ∷ s) W e =
    (λ i. xor
    (weigh-lone k (not first) s (put_both v W) (omega (arith, e)) i)
    (weigh-shared (suc k) first s (put first v W) (omega (arith, e)) i))
    ∙ xor-comm (lone (not first) s (put_both v W)) (put first v W s s)

pub weigh-two : (k : ℕ) (first : Bool) (s : List ℕ) (W : Test) → suc (suc k) ≡ length s → weigh k first s W ≡ two first s W
weigh-two k first [] W e = absurd (omega (arith, e))
weigh-two zero first (v ∷ []) W e = absurd (omega (arith, e))
weigh-two zero first (v ∷ w ∷ []) W e =
    weigh-lone zero first (w ∷ []) (put first v W) refl ∙ sym (xor-false (lone first (w ∷ []) (put first v W)))
weigh-two zero first (v ∷ w ∷ u ∷ s) W e = absurd (omega (arith, e))
weigh-two (suc k) first (v ∷ s) W e =
    (λ i. xor
    (weigh-two k (not first) s (put_both v W) (omega (arith, e)) i)
    (weigh-lone (suc k) first s (put first v W) (omega (arith, e)) i))
    ∙ xor-comm (two (not first) s (put_both v W)) (lone first s (put first v W))

-- the single vertex goes to the second list where all of s is to have a value there, and is left out in the first
lone-first : (first : Bool) (s : List ℕ) (G A : List ℕ → Bool) → Fits G s 1 → Fits A s 0
    → lone first s (meets G A) ≡ (A s && odd_number (not first) G s)
lone-first first [] G A g a = sym (and-false (A []))
lone-first true (w ∷ s) G A g a =
    ap (λ b. xor (b && A s) (lone false s (meets (λ t. G (w ∷ t)) (λ t. A (w ∷ t)))))
    (false_from_ne_true (G (w ∷ s)) (λ e. omega (arith, g (w ∷ s) e)))
    ∙ lone-first false s (λ t. G (w ∷ t)) (λ t. A (w ∷ t)) (fits-behind G w s 1 g) (fits-behind A w s 0 a)
lone-first false (w ∷ s) G A g a =
    (λ i. xor
    (and-comm (G s) (A (w ∷ s)) i)
    (lone-first true s (λ t. G (w ∷ t)) (λ t. A (w ∷ t)) (fits-behind G w s 1 g) (fits-behind A w s 0 a) i))
    ∙ sym (and-xor (A (w ∷ s)) (G s) (odd_number false (λ t. G (w ∷ t)) s))

-- and the other way round
lone-second : (first : Bool) (s : List ℕ) (A G : List ℕ → Bool) → Fits A s 0 → Fits G s 1
    → lone first s (meets A G) ≡ (A s && odd_number first G s)
lone-second first [] A G a g = sym (and-false (A []))
lone-second true (w ∷ s) A G a g =
    ap (xor (A (w ∷ s) && G s))
    (lone-second false s (λ t. A (w ∷ t)) (λ t. G (w ∷ t)) (fits-behind A w s 0 a) (fits-behind G w s 1 g))
    ∙ sym (and-xor (A (w ∷ s)) (G s) (odd_number false (λ t. G (w ∷ t)) s))
lone-second false (w ∷ s) A G a g =
    ap (λ b. xor b (lone true s (meets (λ t. A (w ∷ t)) (λ t. G (w ∷ t)))))
    (ap (λ b. A s && b) (false_from_ne_true (G (w ∷ s)) (λ e. omega (arith, g (w ∷ s) e))) ∙ and-false (A s))
    ∙ lone-second true s (λ t. A (w ∷ t)) (λ t. G (w ∷ t)) (fits-behind A w s 0 a) (fits-behind G w s 1 g)

abbrev pub pairs : (List ℕ → Bool) → List ℕ → Bool
pairs A [] = false
pairs A (v ∷ s) = xor (A s && odd_number false (λ t. A (v ∷ t)) s) (pairs (λ t. A (v ∷ t)) s)

pub two-pairs : (first : Bool) (s : List ℕ) (A : List ℕ → Bool) → Fits A s 1 → two first s (meets A A) ≡ pairs A s
two-pairs first [] A a = refl
two-pairs true (v ∷ s) A a = λ i. xor
    (lone-first true s (λ t. A (v ∷ t)) A (fits-behind A v s 1 a) (λ t e. omega (arith, a t e)) i)
    (two-pairs false s (λ t. A (v ∷ t)) (fits-behind A v s 1 a) i)
two-pairs false (v ∷ s) A a = λ i. xor
    (lone-second false s A (λ t. A (v ∷ t)) (λ t e. omega (arith, a t e)) (fits-behind A v s 1 a) i)
    (two-pairs true s (λ t. A (v ∷ t)) (fits-behind A v s 1 a) i)

-- no value at a face
pub pairs-none : (A : List ℕ → Bool) (s : List ℕ) → ((t : List ℕ) → A t ≡ true → length t + 1 ≡ length s → ⊥) → pairs A s ≡ false
pairs-none A [] none = refl
pairs-none A (v ∷ s) none = λ i. xor
    (false_from_ne_true (A s) (λ e. none s e (omega arith)) i && odd_number false (λ t. A (v ∷ t)) s)
    (pairs-none (λ t. A (v ∷ t)) s (λ t e h. none (v ∷ t) e (omega (arith, h))) i)

-- the faces of an edge leave out places of both parities
pub pairs-edge : (A : List ℕ → Bool) (s : List ℕ) → 2 ≡ length s → pairs A s ≡ false
pairs-edge A [] e = refl
pairs-edge A (v ∷ []) e = absurd (omega (arith, e))
pairs-edge A (v ∷ w ∷ []) e = λ i. xor (and-false (A (w ∷ [])) i) (xor (and-false (A (v ∷ [])) i) false)
pairs-edge A (v ∷ w ∷ u ∷ s) e = absurd (omega (arith, e))

-- the pairs of a face that leaves out the first place with the others of its parity
pub pairs-halves : (A : List ℕ → Bool) (s : List ℕ) → pairs A s ≡ xor (parity (number true A s / 2)) (parity (number false A s / 2))
pairs-halves A [] = refl
pairs-halves A (v ∷ s) =
    (λ i. xor (A s && number-odd false (λ t. A (v ∷ t)) s i) (pairs-halves (λ t. A (v ∷ t)) s i))
    ∙ more (A s) (number true (λ t. A (v ∷ t)) s) (number false (λ t. A (v ∷ t)) s)
  where
    nothing : (n : ℕ) → parity (n / 2) ≡ parity ((0 + n) / 2)
    nothing n = let same : n ≡ 0 + n = omega arith in ap (λ k. parity (k / 2)) same

    more : (b : Bool) (m n : ℕ)
        → xor (b && parity n) (xor (parity (m / 2)) (parity (n / 2))) ≡ xor (parity ((one b + n) / 2)) (parity ((0 + m) / 2))
    more true m n =
        by_table 3 (λ a b c. xor a (xor b c)) (λ a b c. xor (xor a c) b) refl (parity n) (parity (m / 2)) (parity (n / 2))
        ∙ (λ i. xor (sym (half-more n) i) (nothing m i))
    more false m n = xor-comm (parity (m / 2)) (parity (n / 2)) ∙ (λ i. xor (nothing n i) (nothing m i))
