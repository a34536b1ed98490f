-- Sums of class words, and the words with a greatest number.
--     word_sum K p v w               the sum of two class words
--     word_sum-class, word_sum-is    it is a class word, and its set is the sum of the sets
--     odd_over-sum                   sums over it
--     words-equal                    where it is empty, the two words are equal
--     split-last                     a word that is not empty has a last number
--     front-ascends, front-below     what comes before the last number ascends, and is below it
--     push-ascends, push-below       a number above all others at the end
--     last-below                     the last number is below what all are below
use Rattle.std.proofs.Common.{◌≡◌, ℕ, zero, suc, ◌+◌, ◌<◌, ◌≤◌, Bool, true, false, ◌&&◌, ◌⊎◌, inl, inr, List, [], ◌∷◌, ◌++◌, length, nat_eq, refl, sym, ap, ◌∙◌, arith, eqb-true, ⊎_elim}
use Rattle.std.specs.Prelude.{slice_index_or}
use Rattle.std.specs.List.{All, filter, range_with_len}
use Rattle.std.specs.List.Sorted.{IsStrictlyIncreasing}
use Rattle.std.proofs.lemmas.Bool.{true≢false, cases_Bool, or_cases}
use Rattle.std.proofs.lemmas.List.Elements.{All-tail}
use Rattle.homology.specs.Parity.{xor}
use Rattle.homology.specs.Sets.{Ids, plus, set_of, evaluate}
use Rattle.homology.specs.ListSums.{odd_over}
use Rattle.homology.specs.Complexes.{Complex}
use Rattle.homology.specs.Kinds.{betti}
use Rattle.homology.proofs.ParityLaws.{and-true}
use Rattle.homology.proofs.SetLaws.{same_members, plus-cancels}
use Rattle.homology.proofs.EvaluationLaws.{evaluate-plus}
use Rattle.homology.proofs.KindLaws.{set_of-filter, set_of-range, set_of-range_holds}
use Rattle.homology.proofs.ListSetLaws.{Rises, Rises-ascending, Rises-front, ascending-Rises, set_of-All, same_ascending}
use Rattle.homology.proofs.ListSumLaws.{All-first}
use Rattle.cohomology.specs.Classes.{IsClass}
use Rattle.cohomology.proofs.Searching.{filter-rises, rises-range}
use Rattle.cohomology.proofs.Naming.{word-below}
use Rattle.characteristic_classes.proofs.TopLaws.{odd_over-value}

-- the word of the numbers below n in a set
abbrev pub listed : ℕ → Ids → List ℕ
listed n c = filter c (range_with_len 0 n)

pub listed-ascending : (n : ℕ) (c : Ids) → IsStrictlyIncreasing (listed n c)
listed-ascending n c = ascending-Rises 0 (listed n c) (filter-rises c (range_with_len 0 n) (rises-range 0 n))

pub listed-at : (n : ℕ) (c : Ids) (k : ℕ) → k < n → set_of (listed n c) k ≡ c k
listed-at n c k lt =
    set_of-filter c (range_with_len 0 n) k
    ∙ ap (λ b. c k && b) (set_of-range_holds 0 n k (omega arith) (omega arith))
    ∙ and-true (c k)

listed-member : (n : ℕ) (c : Ids) (k : ℕ) → set_of (listed n c) k ≡ true → k < n
listed-member n c k m = omega (arith, (set_of-range 0 n k (by (c k) (set_of (range_with_len 0 n) k) (sym (set_of-filter c (range_with_len 0 n) k) ∙ m))).1)
  where
    by : (a b : Bool) → (a && b) ≡ true → b ≡ true
    by true b e = e
    by false b e = absurd (true≢false (sym e))

pub listed-below : (n : ℕ) (c : Ids) → All (λ k. k < n) (listed n c)
listed-below n c = set_of-All (λ k. k < n) (listed n c) (λ k m. listed-member n c k m)

pub listed-word : (K : Complex) (p : ℕ) (c : Ids) → IsClass K p (listed (betti K p) c)
listed-word K p c = record { ascending = listed-ascending (betti K p) c; numbers = listed-below (betti K p) c }

-- the set of a listed set of numbers below n
pub listed-is : (n : ℕ) (c : Ids) → ((k : ℕ) → c k ≡ true → k < n) → set_of (listed n c) ≡ c
listed-is n c within = same_members (set_of (listed n c)) c (λ k. at k (cases_Bool (c k)))
  where
    at : (k : ℕ) → (c k ≡ true) ⊎ (c k ≡ false) → set_of (listed n c) k ≡ c k
    at k (inl m) = listed-at n c k (within k m)
    at k (inr e) = set_of-filter c (range_with_len 0 n) k ∙ ap (λ b. b && set_of (range_with_len 0 n) k) e ∙ sym e

-- a sum over a listed set
pub odd_over-listed : (n : ℕ) (c : Ids) (p : ℕ → Bool) → odd_over (listed n c) p ≡ evaluate n p (set_of (listed n c))
odd_over-listed n c p = odd_over-value n (listed n c) p (listed-ascending n c) (listed-below n c)

abbrev pub word_sum : Complex → ℕ → List ℕ → List ℕ → List ℕ
word_sum K p v w = listed (betti K p) (plus (set_of v) (set_of w))

pub word_sum-class : (K : Complex) (p : ℕ) (v w : List ℕ) → IsClass K p (word_sum K p v w)
word_sum-class K p v w = listed-word K p (plus (set_of v) (set_of w))

pub word_sum-is : (K : Complex) (p : ℕ) (v w : List ℕ) → IsClass K p v → IsClass K p w → set_of (word_sum K p v w) ≡ plus (set_of v) (set_of w)
word_sum-is K p v w V W = listed-is (betti K p) (plus (set_of v) (set_of w)) (λ k m. within k (set_of v k) (set_of w k) refl refl m)
  where
    within : (k : ℕ) (a b : Bool) → set_of v k ≡ a → set_of w k ≡ b → plus (set_of v) (set_of w) k ≡ true → k < betti K p
    within k true b e f m = word-below K p v V k e
    within k false true e f m = word-below K p w W k f
    within k false false e f m = absurd (true≢false (sym m ∙ (λ i. xor (e i) (f i))))

pub odd_over-sum : (K : Complex) (p : ℕ) (v w : List ℕ) → IsClass K p v → IsClass K p w → (q : ℕ → Bool)
    → odd_over (word_sum K p v w) q ≡ xor (odd_over v q) (odd_over w q)
odd_over-sum K p v w V W q =
    odd_over-listed (betti K p) (plus (set_of v) (set_of w)) q
    ∙ ap (evaluate (betti K p) q) (word_sum-is K p v w V W)
    ∙ evaluate-plus (betti K p) q (set_of v) (set_of w)
    ∙ sym (λ i. xor (odd_over-value (betti K p) v q V.ascending V.numbers i) (odd_over-value (betti K p) w q W.ascending W.numbers i))

-- words whose sum is zero
pub words-equal : (K : Complex) (p : ℕ) (v w : List ℕ) → IsClass K p v → IsClass K p w → word_sum K p v w ≡ [] → v ≡ w
words-equal K p v w V W none =
    same_ascending v w V.ascending W.ascending (plus-cancels (set_of v) (set_of w) (sym (word_sum-is K p v w V W) ∙ ap set_of none))

-- the last number of a word
pub record Split (w : List ℕ) : Type 0 where
  pub front : List ℕ
  pub last : ℕ
  pub is : w ≡ front ++ last ∷ []

pub split-last : (x : ℕ) (w : List ℕ) → Split (x ∷ w)
split-last x [] = record { front = []; last = x; is = refl }
split-last x (y ∷ w) = let s = split-last y w in record { front = x ∷ s.front; last = s.last; is = ap (λ l. x ∷ l) s.is }

pub push-some : (u : List ℕ) (g : ℕ) → u ++ g ∷ [] ≡ [] → ⊥
push-some [] g e = cc
push-some (x ∷ u) g e = cc

rises-last : (b : ℕ) (u : List ℕ) (g : ℕ) → Rises b (u ++ g ∷ []) → b ≤ g
rises-last b [] g r = r.0
rises-last b (x ∷ u) g r = omega (arith, r.0, rises-last (x + 1) u g r.1)

member-below : (b : ℕ) (u : List ℕ) (g q : ℕ) → Rises b (u ++ g ∷ []) → set_of u q ≡ true → q < g
member-below b [] g q r m = absurd (true≢false (sym m))
member-below b (x ∷ u) g q r m = ⊎_elim
    (λ (here : nat_eq q x ≡ true). omega (arith, eqb-true q x here, rises-last (x + 1) u g r.1))
    (λ (later : set_of u q ≡ true). member-below (x + 1) u g q r.1 later)
    (or_cases (nat_eq q x) (set_of u q) m)

pub front-below : (u : List ℕ) (g : ℕ) → IsStrictlyIncreasing (u ++ g ∷ []) → All (λ k. k < g) u
front-below u g up = set_of-All (λ k. k < g) u (λ q m. member-below 0 u g q (Rises-ascending (u ++ g ∷ []) up) m)

pub front-ascends : (u : List ℕ) (g : ℕ) → IsStrictlyIncreasing (u ++ g ∷ []) → IsStrictlyIncreasing u
front-ascends u g up = ascending-Rises 0 u (Rises-front 0 u (g ∷ []) (Rises-ascending (u ++ g ∷ []) up))

rises-push : (b : ℕ) (u : List ℕ) (g : ℕ) → Rises b u → All (λ k. k < g) u → b ≤ g → Rises b (u ++ g ∷ [])
rises-push b [] g r below le = (le, tt)
rises-push b (x ∷ u) g r below le =
    (r.0, rises-push (x + 1) u g r.1 (All-tail (λ k. k < g) x u below) (omega (arith, All-first (λ k. k < g) x u below)))

pub push-ascends : (u : List ℕ) (g : ℕ) → IsStrictlyIncreasing u → All (λ k. k < g) u → IsStrictlyIncreasing (u ++ g ∷ [])
push-ascends u g up below = ascending-Rises 0 (u ++ g ∷ []) (rises-push 0 u g (Rises-ascending u up) below (omega arith))

pub push-below : (b g : ℕ) (u : List ℕ) → g < b → All (λ k. k < g) u → All (λ k. k < b) (u ++ g ∷ [])
push-below b g [] lt below = λ k d h. at k d h
  where
    at : (k d : ℕ) → k < length (g ∷ []) → slice_index_or (g ∷ []) k d < b
    at zero d h = lt
    at (suc k) d h = absurd (omega (arith, h))
push-below b g (x ∷ u) lt below = at (push-below b g u lt (λ k d h. below (suc k) d (omega arith)))
  where
    at : All (λ k. k < b) (u ++ g ∷ []) → (k d : ℕ) → k < length (x ∷ (u ++ g ∷ [])) → slice_index_or (x ∷ (u ++ g ∷ [])) k d < b
    at rest zero d h = omega (arith, below 0 d (omega arith))
    at rest (suc k) d h = rest k d (omega (arith, h))

pub last-below : (n g : ℕ) (u : List ℕ) → All (λ k. k < n) (u ++ g ∷ []) → g < n
last-below n g [] below = below 0 0 (omega arith)
last-below n g (x ∷ u) below = last-below n g u (λ k d h. below (suc k) d (omega arith))
