-- Lists of class numbers, read from the left.
--     numbered-all        where all are class numbers, the list says the sum of their sets
--     numbered-wrong      the first one that is none is refused
--     sum-map, odd-map    a sum over a changed list
--     sum-chain           a sum of chains is a chain
--     sum-cocycle         a sum of cocycles is a cocycle
use Rattle.std.proofs.Common.{◌≡◌, ℕ, zero, suc, ◌<◌, ◌≤◌, Bool, true, cond, List, [], ◌∷◌, map, length, take, get_or, Ok, Err, refl, sym, ap, ◌∙◌, arith, lt-ltb, le-ltb}
use Rattle.std.specs.List.{All}
use Rattle.std.proofs.lemmas.List.Elements.{All-tail}
use Rattle.homology.specs.Parity.{xor}
use Rattle.homology.specs.Sets.{Ids}
use Rattle.homology.specs.ListSums.{odd_over, sum_over}
use Rattle.homology.specs.Complexes.{Complex}
use Rattle.homology.specs.Chains.{IsChain, IsCocycle}
use Rattle.homology.proofs.ParityLaws.{odd-none}
use Rattle.homology.proofs.ListSumLaws.{All-first, Term, sum_over-source}
use Rattle.cohomology.specs.Words.{NoClass, added, number_below, numbered}
use Rattle.cohomology.proofs.Cocycles.{plus-cocycle}
use Rattle.cohomology.proofs.ClassLaws.{empty-chain}

number-in : (n k : ℕ) → k < n → number_below n k ≡ Ok k
number-in n k lt = ap (λ b. cond b (Ok k) (Err (NoClass k))) (lt-ltb k n lt)

number-out : (n k : ℕ) → n ≤ k → number_below n k ≡ Err (NoClass k)
number-out n k le = ap (λ b. cond b (Ok k) (Err (NoClass k))) (le-ltb k n le)

pub numbered-all : (n : ℕ) (each : ℕ → Ids) (l : List ℕ) → All (λ k. k < n) l → numbered n each l ≡ Ok (sum_over l each)
numbered-all n each [] a = refl
numbered-all n each (k ∷ l) a =
    (λ i. added each (number-in n k (All-first (λ k. k < n) k l a) i) (numbered-all n each l (All-tail (λ k. k < n) k l a) i))

-- the one at place i, where those before are class numbers
pub numbered-wrong : (n : ℕ) (each : ℕ → Ids) (l : List ℕ) (i k : ℕ) → i < length l → All (λ k. k < n) (take i l) → k ≡ get_or l i 0 → n ≤ k → numbered n each l ≡ Err (NoClass k)
numbered-wrong n each [] i k lt a is le = absurd (omega (arith, lt))
numbered-wrong n each (x ∷ l) zero k lt a is le = ap (λ r. added each r (numbered n each l)) (ap (number_below n) (sym is) ∙ number-out n k le)
numbered-wrong n each (x ∷ l) (suc i) k lt a is le = λ j.
    added each (number-in n x (All-first (λ k. k < n) x (take i l) a) j)
    (numbered-wrong n each l i k (omega (arith, lt)) (All-tail (λ k. k < n) x (take i l) a) is le j)

pub odd-map : (e : ℕ → ℕ) (l : List ℕ) (p : ℕ → Bool) → odd_over (map e l) p ≡ odd_over l (λ k. p (e k))
odd-map e [] p = refl
odd-map e (k ∷ l) p = ap (xor (p (e k))) (odd-map e l p)

pub sum-map : (e : ℕ → ℕ) (l : List ℕ) (φ : ℕ → Ids) → sum_over (map e l) φ ≡ sum_over l (λ k. φ (e k))
sum-map e l φ = λ i q. odd-map e l (λ h. φ h q) i

pub sum-chain : (K : Complex) (p : ℕ) (l : List ℕ) (φ : ℕ → Ids) → All (λ k. IsChain K p (φ k)) l → IsChain K p (sum_over l φ)
sum-chain K p l φ each = record {
  there = λ t m. let s = term t m in s.holds.there t s.gives;
  degree = λ t m. let s = term t m in s.holds.degree t s.gives;
}
  where
    term : (t : ℕ) → sum_over l φ t ≡ true → Term (λ k. IsChain K p (φ k)) φ t
    term t m = sum_over-source (λ k. IsChain K p (φ k)) l φ t each m

pub sum-cocycle : (K : Complex) (p : ℕ) (l : List ℕ) (φ : ℕ → Ids) → All (λ k. IsCocycle K p (φ k)) l → IsCocycle K p (sum_over l φ)
sum-cocycle K p [] φ each = record { cochain = empty-chain K p; closed = λ x lt. odd-none (length K) _ (λ t h. refl) }
sum-cocycle K p (k ∷ l) φ each =
    plus-cocycle K p (φ k) (sum_over l φ) (All-first (λ k. IsCocycle K p (φ k)) k l each)
    (sum-cocycle K p l φ (All-tail (λ k. IsCocycle K p (φ k)) k l each))
