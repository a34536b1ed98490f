-- The values of squares on the fundamental cycle of a closed complex.
--     sum-cocycle           sums of cocycles are cocycles
--     square-empty          the square of nothing
--     top-square_sum        the value of the square of a sum of cocycles
--     top-square_word       so it is additive in class words
--     top-square_class      it is that of the class
use Rattle.std.proofs.Common.{◌≡◌, ℕ, ◌+◌, ◌-◌, ◌≤◌, Bool, true, false, cond, List, [], ◌∷◌, nat_lt, refl, ap, ◌∙◌, subst, arith}
use Rattle.std.specs.Prelude.{slice_index_or, Ok}
use Rattle.std.specs.List.{All}
use Rattle.std.proofs.lemmas.List.Elements.{All-tail}
use Rattle.homology.specs.Parity.{xor}
use Rattle.homology.specs.Sets.{Ids, empty, plus}
use Rattle.homology.specs.ListSums.{odd_over, sum_over}
use Rattle.homology.specs.Complexes.{Complex, IsComplex}
use Rattle.homology.specs.Chains.{IsCocycle, AreCohomologous}
use Rattle.homology.proofs.ListSumLaws.{All-first}
use Rattle.cohomology.specs.Classes.{IsClass, class_of}
use Rattle.cohomology.proofs.Cocycles.{plus-cocycle}
use Rattle.cohomology.proofs.ClassLaws.{empty-chain}
use Rattle.cohomology_operations.specs.Squares.{square}
use Rattle.cohomology_operations.proofs.ChangeLaws.{coboundary-empty, cup-none_left}
use Rattle.cohomology_operations.proofs.SquareLaws.{square-additive, square-cohomologous}
use Rattle.manifolds.specs.Closed.{top, closed}
use Rattle.characteristic_classes.specs.Pairings.{cocycle, on_top}
use Rattle.characteristic_classes.proofs.TopLaws.{on_top-plus, on_top-empty, on_top-cohomologous}
use Rattle.characteristic_classes.proofs.PairingLaws.{one-word, word-cocycle, cocycle-terms, canonical-cohomologous}

pub empty-cocycle : (K : Complex) (p : ℕ) → IsCocycle K p empty
empty-cocycle K p = record { cochain = empty-chain K p; closed = λ x lt. ap (λ z. z x) (coboundary-empty K) }

pub sum-cocycle : (K : Complex) (p : ℕ) (xs : List ℕ) (φ : ℕ → Ids) → All (λ x. IsCocycle K p (φ x)) xs → IsCocycle K p (sum_over xs φ)
sum-cocycle K p [] φ each = empty-cocycle K p
sum-cocycle K p (x ∷ xs) φ each = plus-cocycle K p (φ x) (sum_over xs φ)
    (All-first (λ y. IsCocycle K p (φ y)) x xs each)
    (sum-cocycle K p xs φ (All-tail (λ y. IsCocycle K p (φ y)) x xs each))

square-empty : (K : Complex) (k q : ℕ) → square K k q empty ≡ empty
square-empty K k q = ap (λ z. cond (nat_lt q k) empty z) (cup-none_left K (q - k) empty) ∙ by (nat_lt q k)
  where
    by : (b : Bool) → cond b empty empty ≡ empty
    by true = refl
    by false = refl

module _ (K : Complex) (ok : IsComplex K) (n : ℕ) (shut : closed K ≡ Ok n) where
  -- q + k is the dimension
  top-square_sum : (k q : ℕ) → q + k ≡ top K → (xs : List ℕ) (φ : ℕ → Ids) → All (λ x. IsCocycle K q (φ x)) xs
      → on_top K (square K k q (sum_over xs φ)) ≡ odd_over xs (λ x. on_top K (square K k q (φ x)))
  top-square_sum k q whole [] φ each = ap (on_top K) (square-empty K k q) ∙ on_top-empty K
  top-square_sum k q whole (x ∷ xs) φ each =
      on_top-cohomologous K ok n shut (square K k q (plus (φ x) (sum_over xs φ))) (plus (square K k q (φ x)) (square K k q (sum_over xs φ)))
      (subst (λ m. AreCohomologous K m (square K k q (plus (φ x) (sum_over xs φ))) (plus (square K k q (φ x)) (square K k q (sum_over xs φ)))) whole
      (square-additive K ok k q (φ x) (sum_over xs φ) (All-first (λ y. IsCocycle K q (φ y)) x xs each) (sum-cocycle K q xs φ (All-tail (λ y. IsCocycle K q (φ y)) x xs each))))
      ∙ on_top-plus K (square K k q (φ x)) (square K k q (sum_over xs φ))
      ∙ ap (xor (on_top K (square K k q (φ x)))) (top-square_sum k q whole xs φ (All-tail (λ y. IsCocycle K q (φ y)) x xs each))

  pub top-square_word : (k : ℕ) → k ≤ top K → (w : List ℕ) → IsClass K (top K - k) w
      → on_top K (square K k (top K - k) (cocycle K (top K - k) w)) ≡ odd_over w (λ l. on_top K (square K k (top K - k) (cocycle K (top K - k) (l ∷ []))))
  top-square_word k le w W =
      let whole : (top K - k) + k ≡ top K = omega arith in
      ap (λ z. on_top K (square K k (top K - k) z)) (cocycle-terms K ok (top K - k) w W)
      ∙ top-square_sum k (top K - k) whole w (λ l. cocycle K (top K - k) (l ∷ []))
      (λ i d h. word-cocycle K ok (top K - k) (slice_index_or w i d ∷ []) (one-word K (top K - k) (slice_index_or w i d) (W.numbers i d h)))

  pub top-squares : (k : ℕ) → k ≤ top K → (a b : Ids) → AreCohomologous K (top K - k) a b
      → on_top K (square K k (top K - k) a) ≡ on_top K (square K k (top K - k) b)
  top-squares k le a b E =
      let whole : (top K - k) + k ≡ top K = omega arith in
      on_top-cohomologous K ok n shut (square K k (top K - k) a) (square K k (top K - k) b)
      (subst (λ m. AreCohomologous K m (square K k (top K - k) a) (square K k (top K - k) b)) whole (square-cohomologous K ok k (top K - k) a b E))

  pub top-square_class : (k : ℕ) → k ≤ top K → (a : Ids) → IsCocycle K (top K - k) a
      → on_top K (square K k (top K - k) a) ≡ on_top K (square K k (top K - k) (cocycle K (top K - k) (class_of K (top K - k) a)))
  top-square_class k le a A =
      top-squares k le a (cocycle K (top K - k) (class_of K (top K - k) a)) (canonical-cohomologous K ok (top K - k) a A)
