-- Sums of rows over the field with two elements: each vector is a sum of some given rows, or some vector separates it from all of them.
--     Spans m s         the vector s is a sum of some of the first m rows
--     Separates m s     some vector has the value 0 at each of these rows and 1 at s
--     spans-or-separates     one of the two holds
--     spans-word        the numbers of rows whose sum it is
-- Source: Fredholm's alternative; any textbook of linear algebra.
use Rattle.std.proofs.Common.{◌≡◌, ℕ, zero, suc, ◌<◌, Bool, true, false, ◌⊎◌, inl, inr, List, [], ◌∷◌, ◌++◌, refl, sym, ap, ◌∙◌, arith, ⊎_elim}
use Rattle.std.specs.List.{All}
use Rattle.std.specs.List.Sorted.{IsStrictlyIncreasing}
use Rattle.std.proofs.lemmas.Bool.{cases_eq}
use Rattle.homology.specs.Parity.{xor}
use Rattle.homology.specs.Sets.{Ids, single, plus, evaluate}
use Rattle.homology.specs.ListSums.{odd_over}
use Rattle.homology.proofs.ParityLaws.{odd-one}
use Rattle.homology.proofs.EvaluationLaws.{evaluate-plus, evaluate-plus_cochain}
use Rattle.homology.proofs.ListSumLaws.{odd_over-push}
use Rattle.characteristic_classes.proofs.WordLaws.{push-ascends, push-below}

-- a vector below n that is zero, or a place at which it is 1
pub zero-or-place : (n : ℕ) (s : Ids) → ((l : ℕ) → l < n → s l ≡ false) ⊎ ((l : ℕ) × (l < n) × (s l ≡ true))
zero-or-place zero s = inl (λ l lt. absurd (omega arith))
zero-or-place (suc n) s = by (s n) refl (zero-or-place n s)
  where
    by : (b : Bool) → s n ≡ b → ((l : ℕ) → l < n → s l ≡ false) ⊎ ((l : ℕ) × (l < n) × (s l ≡ true))
        → ((l : ℕ) → l < suc n → s l ≡ false) ⊎ ((l : ℕ) × (l < suc n) × (s l ≡ true))
    by true e rest = inr (n, omega arith, e)
    by false e (inl none) = inl (λ l lt. ⊎_elim
        (λ (same : l ≡ n). ap s same ∙ e)
        (λ (other : l ≡ n → ⊥). none l (omega (arith, other)))
        (cases_eq l n))
    by false e (inr some) = inr (some.0, omega (arith, some.1), some.2)

module _ (n : ℕ) (row : ℕ → Ids) where
  abbrev pub Spans : ℕ → Ids → Type 0
  Spans zero s = (l : ℕ) → l < n → s l ≡ false
  Spans (suc m) s = Spans m s ⊎ Spans m (plus s (row m))

  pub record Separates (m : ℕ) (s : Ids) : Type 0 where
    pub by : Ids
    pub rows : (j : ℕ) → j < m → evaluate n by (row j) ≡ false
    pub at : evaluate n by s ≡ true

  -- with one row more, where it has the value 0 too
  separates-more : (m : ℕ) (s x : Ids) → ((j : ℕ) → j < m → evaluate n x (row j) ≡ false) → evaluate n x (row m) ≡ false
      → evaluate n x s ≡ true → Separates (suc m) s
  separates-more m s x rows last at = record {
    by = x;
    rows = λ j lt. ⊎_elim
        (λ (same : j ≡ m). ap (λ i. evaluate n x (row i)) same ∙ last)
        (λ (other : j ≡ m → ⊥). rows j (omega (arith, other)))
        (cases_eq j m);
    at = at;
  }

  -- one of X, Y and their sum separates
  separates-step : (m : ℕ) (s : Ids) → Separates m s → Separates m (plus s (row m)) → Separates (suc m) s
  separates-step m s X Y = by (evaluate n X.by (row m)) (evaluate n Y.by (row m)) refl refl
    where
      sum : (c : Bool) → evaluate n Y.by (row m) ≡ c → xor (evaluate n Y.by s) c ≡ true
      sum c e = ap (xor (evaluate n Y.by s)) (sym e) ∙ sym (evaluate-plus n Y.by s (row m)) ∙ Y.at

      xor-false_is : (a : Bool) → xor a false ≡ true → a ≡ true
      xor-false_is true e = refl
      xor-false_is false e = e

      xor-true_is : (a : Bool) → xor a true ≡ true → a ≡ false
      xor-true_is true e = cc
      xor-true_is false e = refl

      by : (b c : Bool) → evaluate n X.by (row m) ≡ b → evaluate n Y.by (row m) ≡ c → Separates (suc m) s
      by false c e f = separates-more m s X.by X.rows e X.at
      by true false e f = separates-more m s Y.by Y.rows f (xor-false_is (evaluate n Y.by s) (sum false f))
      by true true e f = separates-more m s (plus X.by Y.by)
          (λ j lt. evaluate-plus_cochain n X.by Y.by (row j) ∙ (λ i. xor (X.rows j lt i) (Y.rows j lt i)))
          (evaluate-plus_cochain n X.by Y.by (row m) ∙ (λ i. xor (e i) (f i)))
          (evaluate-plus_cochain n X.by Y.by s ∙ (λ i. xor (X.at i) (xor-true_is (evaluate n Y.by s) (sum true f) i)))

  pub spans-or-separates : (m : ℕ) (s : Ids) → Spans m s ⊎ Separates m s
  spans-or-separates zero s = at (zero-or-place n s)
    where
      at : ((l : ℕ) → l < n → s l ≡ false) ⊎ ((l : ℕ) × (l < n) × (s l ≡ true)) → Spans zero s ⊎ Separates zero s
      at (inl none) = inl none
      at (inr some) = inr (record {
        by = single some.0;
        rows = λ j lt. absurd (omega arith);
        at = odd-one n some.0 s some.1 ∙ some.2;
      })
  spans-or-separates (suc m) s = at (spans-or-separates m s) (spans-or-separates m (plus s (row m)))
    where
      at : Spans m s ⊎ Separates m s → Spans m (plus s (row m)) ⊎ Separates m (plus s (row m)) → Spans (suc m) s ⊎ Separates (suc m) s
      at (inl without) rest = inl (inl without)
      at (inr X) (inl with_it) = inl (inr with_it)
      at (inr X) (inr Y) = inr (separates-step m s X Y)

  -- the numbers of the rows
  pub record SumOfRows (m : ℕ) (s : Ids) : Type 0 where
    pub numbers : List ℕ
    pub ascending : IsStrictlyIncreasing numbers
    pub below : All (λ j. j < m) numbers
    pub is : (l : ℕ) → l < n → odd_over numbers (λ j. row j l) ≡ s l

  pub spans-word : (m : ℕ) (s : Ids) → Spans m s → SumOfRows m s
  spans-word zero s none = record {
    numbers = [];
    ascending = λ k h. absurd (omega (arith, h));
    below = λ k d h. absurd (omega (arith, h));
    is = λ l lt. sym (none l lt);
  }
  spans-word (suc m) s (inl without) =
      let w = spans-word m s without in
      record { numbers = w.numbers; ascending = w.ascending; below = λ k d h. omega (arith, w.below k d h); is = w.is }
  spans-word (suc m) s (inr with_it) =
      let w = spans-word m (plus s (row m)) with_it in
      record {
        numbers = w.numbers ++ m ∷ [];
        ascending = push-ascends w.numbers m w.ascending w.below;
        below = push-below (suc m) m w.numbers (omega arith) w.below;
        is = λ l lt. odd_over-push w.numbers m (λ j. row j l) ∙ ap (λ b. xor b (row m l)) (w.is l lt) ∙ back (s l) (row m l);
      }
    where
      back : (a b : Bool) → xor (xor a b) b ≡ a
      back true true = refl
      back true false = refl
      back false true = refl
      back false false = refl
