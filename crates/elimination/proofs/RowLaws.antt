-- Independent rows and the rows that they express.
--     sum-set                 a sum over an ascending list is one over its set
--     expression              where a row is the sum of the rows in a set, the ascending list of the set expresses it
--     independent-none        no rows are independent
--     independent-more        one row more that they do not express leaves rows independent
use Rattle.std.proofs.Common.{◌≡◌, ℕ, ◌+◌, ◌<◌, ◌≤◌, Bool, true, false, ◌&&◌, List, [], ◌∷◌, ◌++◌, length, length-append, nat_lt, refl, sym, ap, ◌∙◌, arith, ⊎_elim, lt-ltb, ltb-true, get_or}
use Rattle.std.specs.List.{All, filter}
use Rattle.std.specs.List.Sorted.{IsStrictlyIncreasing}
use Rattle.std.proofs.lemmas.Bool.{true≢false, cases_lt, cases_Bool, and_parts}
use Rattle.std.proofs.lemmas.List.{get_or_append_left, get_or-append-add, get_or_default}
use Rattle.std.proofs.lemmas.List.Kept.{IsStrictlyIncreasing-filter}
use Rattle.homology.specs.Sets.{Ids, empty, plus, image, set_of}
use Rattle.homology.specs.ListSums.{sum_over}
use Rattle.homology.proofs.ParityLaws.{odd-same}
use Rattle.homology.proofs.SetLaws.{plus-cancels, image-more}
use Rattle.homology.proofs.ListSetLaws.{set_of-All, set_of-Contains}
use Rattle.homology.proofs.ListSumLaws.{image-sum_over, sum_over-ascending, sum_over-same}
use Rattle.homology.proofs.KindLaws.{set_of-filter}
use Rattle.elimination.specs.Rows.{entry, entries_at, IsExpression, AreIndependent}

-- a sum over an ascending list is one over its set
pub sum-set : (n : ℕ) (φ : ℕ → Ids) (xs : List ℕ) → IsStrictlyIncreasing xs → All (λ x. x < n) xs → sum_over xs φ ≡ image n φ (set_of xs)
sum-set n φ xs up below = sym (image-sum_over n φ xs below) ∙ ap (image n φ) (sum_over-ascending xs up)

-- the ascending list of the terms
pub expression : (n m : ℕ) (rows : List (List Bool)) (terms : Ids) (numbers : List ℕ) (r : List Bool)
    → length rows ≡ m → ((j : ℕ) → m ≤ j → terms j ≡ false) → entry r ≡ image n (entries_at rows) terms
    → set_of numbers ≡ terms → IsStrictlyIncreasing numbers → All (λ q. q < n) numbers → IsExpression rows numbers r
expression n m rows terms numbers r count few is set up below = record {
  ascending = up;
  within = set_of-All (λ k. k < length rows) numbers (λ q there. here q (ap (λ z. z q) (sym set) ∙ there));
  sum = sum-set n (entries_at rows) numbers up below ∙ ap (image n (entries_at rows)) set ∙ sym is;
}
  where
    here : (q : ℕ) → terms q ≡ true → q < length rows
    here q one = ⊎_elim
        (λ (lt : q < m). omega (arith, lt, count))
        (λ (le : m ≤ q). absurd (true≢false (sym one ∙ few q le)))
        (cases_lt q m)

pub independent-none : AreIndependent []
independent-none = record { none = none }
  where
    none : (numbers : List ℕ) → IsStrictlyIncreasing numbers → All (λ k. k < 0) numbers → sum_over numbers (entries_at []) ≡ empty → numbers ≡ []
    none [] up below sum = refl
    none (x ∷ xs) up below sum = absurd (omega (arith, below 0 0 (omega arith)))

pub entries-old : (rows : List (List Bool)) (r : List Bool) (k : ℕ) → k < length rows → entries_at (rows ++ r ∷ []) k ≡ entries_at rows k
entries-old rows r k lt = ap entry (get_or_append_left rows (r ∷ []) [] k lt)

pub entries-new : (rows : List (List Bool)) (r : List Bool) → entries_at (rows ++ r ∷ []) (length rows) ≡ entry r
entries-new rows r = ap entry (grind (arith, get_or-append-add rows (r ∷ []) 0 []))

-- a sum of rows in which the last one counts
module _ (rows : List (List Bool)) (r : List Bool) (numbers : List ℕ) (up : IsStrictlyIncreasing numbers)
    (below : All (λ k. k < length rows + 1) numbers) (zero_sum : sum_over numbers (entries_at (rows ++ r ∷ [])) ≡ empty) where
  abbrev n : ℕ
  n = length rows

  abbrev ψ : ℕ → Ids
  ψ = entries_at (rows ++ r ∷ [])

  abbrev front : List ℕ
  front = filter (λ k. nat_lt k n) numbers

  front-below : All (λ k. k < n) front
  front-below = set_of-All (λ k. k < n) front
      (λ q there. ltb-true q n (and_parts (nat_lt q n) (set_of numbers q) (sym (set_of-filter (λ k. nat_lt k n) numbers q) ∙ there)).0)

  front-sum : image n ψ (set_of numbers) ≡ sum_over front (entries_at rows)
  front-sum =
      (λ i q.
      odd-same n (λ t. set_of numbers t && ψ t q) (λ t. set_of front t && entries_at rows t q)
      (λ t lt. λ j. (ap (λ b. b && set_of numbers t) (sym (lt-ltb t n lt)) ∙ sym (set_of-filter (λ k. nat_lt k n) numbers t)) j && entries-old rows r t lt j q)
      i)
      ∙ sym (sum-set n (entries_at rows) front (IsStrictlyIncreasing-filter (λ k. nat_lt k n) numbers up) front-below)

  pub with_last : set_of numbers n ≡ true → IsExpression rows front r
  with_last there = record {
    ascending = IsStrictlyIncreasing-filter (λ k. nat_lt k n) numbers up;
    within = front-below;
    sum =
        sym
        (plus-cancels (entry r) (sum_over front (entries_at rows))
        ((λ i. plus (sym (entries-new rows r) i) (sym front-sum i))
        ∙ sym (image-more n ψ (set_of numbers) there)
        ∙ sym (sum-set (n + 1) ψ numbers up below)
        ∙ zero_sum));
  }

  at : (k d : ℕ) → k < length numbers → get_or numbers k d ≡ n → get_or numbers k n ≡ n
  at k d lt same = get_or_default numbers k n d lt ∙ same

  without-below : set_of numbers n ≡ false → All (λ k. k < n) numbers
  without-below out = λ k d lt. omega (
    arith,
    below k d lt,
    λ (same : get_or numbers k d ≡ n).
        true≢false (sym (set_of-Contains numbers n (k, lt, at k d lt same)) ∙ out),
  )

  pub without_last : AreIndependent rows → set_of numbers n ≡ false → numbers ≡ []
  without_last I out =
      let here : All (λ k. k < n) numbers = without-below out in
      I.none numbers up here
      (sum_over-same numbers (entries_at rows) ψ (λ k d lt. sym (entries-old rows r (get_or numbers k d) (here k d lt))) ∙ zero_sum)

-- one row more that is no sum of the others
pub independent-more : (rows : List (List Bool)) (r : List Bool) → AreIndependent rows → ((numbers : List ℕ) → IsExpression rows numbers r → ⊥)
    → AreIndependent (rows ++ r ∷ [])
independent-more rows r I never = record { none = λ numbers up below sum. at numbers up (λ k d lt. omega (arith, below k d lt, count)) sum }
  where
    count : length (rows ++ r ∷ []) ≡ length rows + 1
    count = length-append rows (r ∷ [])

    at : (numbers : List ℕ) → IsStrictlyIncreasing numbers → All (λ k. k < length rows + 1) numbers
        → sum_over numbers (entries_at (rows ++ r ∷ [])) ≡ empty → numbers ≡ []
    at numbers up below sum = ⊎_elim
        (λ (there : set_of numbers (length rows) ≡ true). absurd (never _ (with_last rows r numbers up below sum there)))
        (λ (out : set_of numbers (length rows) ≡ false). without_last rows r numbers up below sum I out)
        (cases_Bool (set_of numbers (length rows)))
