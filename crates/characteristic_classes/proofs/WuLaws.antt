-- Wu classes.
--     rows-wu, wu-rows       a word is one where its rows add up to the values of the squares
--     wu-one                 two are equal, where only the empty word is degenerate
--     wu-solved              there is one, where only the empty word of the complementary degree is degenerate
--     wu_class-word          what the search finds is a class word
--     wu_class-found, wu_class-is        it finds each
use Rattle.std.proofs.Common.{◌≡◌, ℕ, ◌-◌, ◌<◌, ◌≤◌, Bool, true, false, cond, not, ◌&&◌, ◌⊎◌, inl, inr, List, [], ◌∷◌, unwrap_or, find, Some, refl, sym, ap, ◌∙◌, subst, arith}
use Rattle.std.specs.Prelude.{slice_index_or, Ok}
use Rattle.std.specs.List.{Contains, list_any, range_with_len}
use Rattle.std.proofs.lemmas.Bool.{true≢false, not-true}
use Rattle.std.proofs.lemmas.List.Folds.{list_any_at}
use Rattle.homology.specs.Parity.{xor}
use Rattle.homology.specs.Sets.{Ids, set_of, evaluate}
use Rattle.homology.specs.ListSums.{odd_over}
use Rattle.homology.specs.Complexes.{Complex, IsComplex}
use Rattle.homology.specs.Kinds.{betti, sublists}
use Rattle.homology.proofs.ParityLaws.{xor-self, and-comm, odd-same}
use Rattle.homology.proofs.ListSumLaws.{odd_over-same}
use Rattle.cohomology.specs.Searches.{first}
use Rattle.cohomology.specs.Classes.{IsClass, classes}
use Rattle.cohomology.proofs.Searching.{FirstWord, first-word}
use Rattle.cohomology.proofs.Canonicals.{xor-none}
use Rattle.cohomology.proofs.TestLaws.{classes-words}
use Rattle.cohomology_operations.specs.Squares.{square}
use Rattle.manifolds.specs.Closed.{top, closed}
use Rattle.characteristic_classes.specs.Pairings.{cocycle, on_top, pair}
use Rattle.characteristic_classes.specs.WuClasses.{is_wu, wu_class}
use Rattle.characteristic_classes.proofs.PairingLaws.{one-word, no-word, pair-left, pair-right, pair-turned}
use Rattle.characteristic_classes.proofs.WordLaws.{listed, listed-at, listed-word, odd_over-listed, word_sum, word_sum-class, odd_over-sum, words-equal}
use Rattle.characteristic_classes.proofs.SquareLaws.{top-square_word}
use Rattle.characteristic_classes.proofs.SearchLaws.{all-member, all-holds, here, later}
use Rattle.characteristic_classes.proofs.DegeneracyLaws.{row-degenerate, IsFree}
use Rattle.characteristic_classes.proofs.SolvingLaws.{Separates, SumOfRows, spans-or-separates, spans-word, Spans}

-- the value of the square of a class
abbrev pub square_value : Complex → ℕ → List ℕ → Bool
square_value K k w = on_top K (square K k (top K - k) (cocycle K (top K - k) w))

-- the rows of v add up to the values of the squares
abbrev pub Solves : Complex → ℕ → List ℕ → Type 0
Solves K k v = (l : ℕ) → l < betti K (top K - k) → odd_over v (λ j. pair K k (j ∷ []) (l ∷ [])) ≡ square_value K k (l ∷ [])

wu_class-is_first : (K : Complex) (k : ℕ) → wu_class K k ≡ first (is_wu K k) (classes K k)
unfolding wu_class
wu_class-is_first K k = refl

-- what is found is listed, or empty
first-listed : (P : List ℕ → Type 0) (test : List ℕ → Bool) (cs : List (List ℕ)) → ((c : List ℕ) → Contains cs c → P c) → P [] → P (first test cs)
first-listed P test [] each none = none
first-listed P test (c ∷ cs) each none = by (first-listed P test cs (λ d m. each d (later c cs d m)) none) (test c)
  where
    by : P (first test cs) → (b : Bool) → P (unwrap_or (cond b (Some c) (find test cs)) [])
    by rest true = each c (here c cs)
    by rest false = rest

pub wu_class-word : (K : Complex) (k : ℕ) → IsClass K k (wu_class K k)
wu_class-word K k = subst (IsClass K k) (sym (wu_class-is_first K k))
    (first-listed (IsClass K k) (is_wu K k) (classes K k) (λ w m. (classes-words K k w).0 m) (no-word K k))

module _ (K : Complex) (ok : IsComplex K) (n : ℕ) (shut : closed K ≡ Ok n) (k : ℕ) (le : k ≤ top K) where
  pub rows-wu : (v : List ℕ) → IsClass K k v → Solves K k v → is_wu K k v ≡ true
  rows-wu v V rows = all-holds
      (λ x. not (xor (pair K k v x) (square_value K k x)))
      (classes K (top K - k))
      (λ x m. ap not (ap (λ b. xor b (square_value K k x)) (same x ((classes-words K (top K - k) x).0 m)) ∙ xor-self (square_value K k x)))
    where
      same : (x : List ℕ) → IsClass K (top K - k) x → pair K k v x ≡ square_value K k x
      same x X =
          pair-right K ok k v x X
          ∙ odd_over-same x (λ l. pair K k v (l ∷ [])) (λ l. square_value K k (l ∷ []))
          (λ i d h. pair-left K ok k v V (slice_index_or x i d ∷ []) ∙ rows (slice_index_or x i d) (X.numbers i d h))
          ∙ sym (top-square_word K ok n shut k le x X)

  pub wu-rows : (v : List ℕ) → IsClass K k v → is_wu K k v ≡ true → Solves K k v
  wu-rows v V e l lt =
      sym (pair-left K ok k v V (l ∷ []))
      ∙ xor-none (pair K k v (l ∷ [])) (square_value K k (l ∷ []))
      (not-true (xor (pair K k v (l ∷ [])) (square_value K k (l ∷ [])))
      (all-member (λ x. not (xor (pair K k v x) (square_value K k x))) (classes K (top K - k)) (l ∷ []) e
      ((classes-words K (top K - k) (l ∷ [])).1 (one-word K (top K - k) l lt))))

  pub wu-one : IsFree K k → (v w : List ℕ) → IsClass K k v → IsClass K k w → Solves K k v → Solves K k w → v ≡ w
  wu-one free v w V W D E = words-equal K k v w V W (free (word_sum K k v w) (word_sum-class K k v w)
      (row-degenerate K ok k (word_sum K k v w) (word_sum-class K k v w) (λ l lt.
      odd_over-sum K k v w V W (λ j. pair K k (j ∷ []) (l ∷ []))
      ∙ (λ i. xor (D l lt i) (E l lt i))
      ∙ xor-self (square_value K k (l ∷ [])))))

  -- a solution
  pub record Solution : Type 0 where
    pub word : List ℕ
    pub class : IsClass K k word
    pub solves : Solves K k word

  -- a vector that separates the values from all rows would be a degenerate class of the complementary degree
  separates-none : IsFree K (top K - k)
      → Separates (betti K (top K - k)) (λ j l. pair K k (j ∷ []) (l ∷ [])) (betti K k) (λ l. square_value K k (l ∷ [])) → ⊥
  separates-none free X = true≢false (sym X.at ∙ zero_value)
    where
      b : ℕ
      b = betti K (top K - k)

      x : List ℕ
      x = listed b X.by

      X2 : IsClass K (top K - k) x
      X2 = listed-word K (top K - k) X.by

      members : (p : Ids) → odd_over x p ≡ evaluate b X.by p
      members p =
          odd_over-listed b X.by p
          ∙ odd-same b (λ l. p l && set_of x l) (λ l. X.by l && p l) (λ l lt. ap (λ c. p l && c) (listed-at b X.by l lt) ∙ and-comm (p l) (X.by l))

      back : top K - (top K - k) ≡ k
      back = omega arith

      row_at : (j : ℕ) → j < betti K k → odd_over x (λ l. pair K (top K - k) (l ∷ []) (j ∷ [])) ≡ false
      row_at j lt =
          odd_over-same x (λ l. pair K (top K - k) (l ∷ []) (j ∷ [])) (λ l. pair K k (j ∷ []) (l ∷ []))
          (λ i d h. sym (pair-turned K ok n shut k le (j ∷ []) (slice_index_or x i d ∷ []) (one-word K k j lt) (one-word K (top K - k) (slice_index_or x i d) (X2.numbers i d h))))
          ∙ members (λ l. pair K k (j ∷ []) (l ∷ []))
          ∙ X.rows j lt

      empty-word : x ≡ []
      empty-word = free x X2 (row-degenerate K ok (top K - k) x X2 (λ j lt. row_at j (subst (λ m. j < betti K m) back lt)))

      zero_value : evaluate b X.by (λ l. square_value K k (l ∷ [])) ≡ false
      zero_value = sym (members (λ l. square_value K k (l ∷ []))) ∙ ap (λ w. odd_over w (λ l. square_value K k (l ∷ []))) empty-word

  pub wu-solved : IsFree K (top K - k) → Solution
  wu-solved free = at (spans-or-separates b row (betti K k) s)
    where
      b : ℕ
      b = betti K (top K - k)

      row : ℕ → Ids
      row j = λ l. pair K k (j ∷ []) (l ∷ [])

      s : Ids
      s = λ l. square_value K k (l ∷ [])

      of : SumOfRows b row (betti K k) s → Solution
      of w = record { word = w.numbers; class = record { ascending = w.ascending; numbers = w.below }; solves = w.is }

      at : Spans b row (betti K k) s ⊎ Separates b row (betti K k) s → Solution
      at (inl spans) = of (spans-word b row (betti K k) s spans)
      at (inr X) = absurd (separates-none free X)

  pub wu_class-found : (v : List ℕ) → IsClass K k v → Solves K k v → is_wu K k (wu_class K k) ≡ true
  wu_class-found v V rows = ap (is_wu K k) (wu_class-is_first K k) ∙ at (first-word (betti K k) (is_wu K k) some)
    where
      there : Contains (classes K k) v
      there = (classes-words K k v).1 V

      some : list_any (is_wu K k) (sublists (range_with_len 0 (betti K k))) ≡ true
      some = list_any_at (is_wu K k) (classes K k) there.0 v there.1 (ap (is_wu K k) there.2 ∙ rows-wu v V rows)

      at : FirstWord (betti K k) (is_wu K k) (first (is_wu K k) (classes K k)) → is_wu K k (first (is_wu K k) (classes K k)) ≡ true
      at F = F.passes

  pub wu_class-is : IsFree K k → (v : List ℕ) → IsClass K k v → Solves K k v → wu_class K k ≡ v
  wu_class-is free v V rows = wu-one free (wu_class K k) v (wu_class-word K k) V (wu-rows (wu_class K k) (wu_class-word K k) (wu_class-found v V rows)) rows
