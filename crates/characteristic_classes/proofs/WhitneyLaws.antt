-- Stiefel-Whitney classes and products of them.
--     whitney-cocycle       the cochain of a class is a cocycle
--     whitney-word          so it has a class word
--     product-cocycle       products of these classes
--     number-other          their values in a closed complex are those of other cocycles of the classes
use Rattle.std.proofs.Common.{◌≡◌, ℕ, ◌+◌, ◌-◌, true, List, [], ◌∷◌, refl, sym, subst, arith}
use Rattle.std.specs.Prelude.{Ok}
use Rattle.std.specs.List.{All, range_with_len, sum}
use Rattle.std.proofs.lemmas.List.Sums.{sum_by-cons}
use Rattle.std.proofs.lemmas.List.Elements.{All-tail}
use Rattle.homology.specs.Sets.{Ids, empty, set_of}
use Rattle.homology.specs.Complexes.{Complex, IsComplex}
use Rattle.homology.specs.Chains.{IsCocycle, AreCohomologous}
use Rattle.homology.proofs.KindLaws.{set_of-range}
use Rattle.homology.proofs.ListSetLaws.{set_of-All}
use Rattle.homology.proofs.ListSumLaws.{All-first}
use Rattle.cohomology.specs.Classes.{IsClass}
use Rattle.cohomology_operations.specs.Squares.{square}
use Rattle.cohomology_operations.proofs.SquareLaws.{square-cocycle}
use Rattle.cohomology_operations.proofs.ClassLaws.{cohomologous-same, cohomologous-chained, product-cohomologous, product-cocycle as cup-cocycle}
use Rattle.manifolds.specs.Closed.{top, closed}
use Rattle.characteristic_classes.specs.Pairings.{cocycle, on_top}
use Rattle.characteristic_classes.specs.WuClasses.{wu_class, whitney_cochain, whitney_class, product_of, product}
use Rattle.characteristic_classes.proofs.TopLaws.{on_top-cohomologous}
use Rattle.characteristic_classes.proofs.PairingLaws.{word-cocycle, class-word, canonical-cohomologous}
use Rattle.characteristic_classes.proofs.SquareLaws.{empty-cocycle, sum-cocycle}
use Rattle.characteristic_classes.proofs.WuLaws.{wu_class-word}

module _ (K : Complex) (ok : IsComplex K) where
  pub wu-cocycle : (i : ℕ) → IsCocycle K i (cocycle K i (wu_class K i))
  wu-cocycle i = word-cocycle K ok i (wu_class K i) (wu_class-word K i)

  -- each square has degree k
  pub whitney-cocycle : (k : ℕ) → IsCocycle K k (whitney_cochain K k)
  whitney-cocycle k = sum-cocycle K k (range_with_len 0 (k + 1)) term (set_of-All (λ i. IsCocycle K k (term i)) (range_with_len 0 (k + 1)) each)
    where
      term : ℕ → Ids
      term i = square K (k - i) i (cocycle K i (wu_class K i))

      each : (i : ℕ) → set_of (range_with_len 0 (k + 1)) i ≡ true → IsCocycle K k (term i)
      each i m =
          let within = set_of-range 0 (k + 1) i m in
          let whole : i + (k - i) ≡ k = omega (arith, within.1) in
          subst (λ d. IsCocycle K d (term i)) whole (square-cocycle K ok (k - i) i (cocycle K i (wu_class K i)) (wu-cocycle i))

  pub whitney-word : (k : ℕ) → IsClass K k (whitney_class K k)
  whitney-word k = class-word K ok k (whitney_cochain K k) (whitney-cocycle k)

  pub product-cocycle : (parts : List ℕ) → IsCocycle K (sum parts) (product K parts)
  product-cocycle [] = empty-cocycle K 0
  product-cocycle (k ∷ []) =
      let one : k ≡ sum (k ∷ []) = omega (arith, sum_by-cons (λ x. x) k []) in
      subst (λ d. IsCocycle K d (cocycle K k (whitney_class K k))) one (word-cocycle K ok k (whitney_class K k) (whitney-word k))
  product-cocycle (k ∷ j ∷ parts) =
      subst (λ d. IsCocycle K d (product K (k ∷ j ∷ parts))) (sym (sum_by-cons (λ x. x) k (j ∷ parts)))
      (cup-cocycle K ok k (sum (j ∷ parts)) (cocycle K k (whitney_class K k)) (product K (j ∷ parts))
      (word-cocycle K ok k (whitney_class K k) (whitney-word k)) (product-cocycle (j ∷ parts)))

  -- another cocycle of each class
  abbrev IsOther : (ℕ → Ids) → ℕ → Type 0
  IsOther a k = AreCohomologous K k (a k) (whitney_cochain K k)

  other-canonical : (a : ℕ → Ids) (k : ℕ) → IsOther a k → AreCohomologous K k (a k) (cocycle K k (whitney_class K k))
  other-canonical a k E =
      cohomologous-chained K ok k (a k) (whitney_cochain K k) (cocycle K k (whitney_class K k)) E (canonical-cohomologous K ok k (whitney_cochain K k) (whitney-cocycle k))

  product-other : (a : ℕ → Ids) (parts : List ℕ) → All (IsOther a) parts → AreCohomologous K (sum parts) (product_of K a parts) (product K parts)
  product-other a [] each = cohomologous-same K ok 0 empty empty (empty-cocycle K 0) refl
  product-other a (k ∷ []) each =
      let one : k ≡ sum (k ∷ []) = omega (arith, sum_by-cons (λ (x : ℕ). x) k []) in
      subst (λ d. AreCohomologous K d (a k) (cocycle K k (whitney_class K k))) one (other-canonical a k (All-first (IsOther a) k [] each))
  product-other a (k ∷ j ∷ parts) each =
      subst (λ d. AreCohomologous K d (product_of K a (k ∷ j ∷ parts)) (product K (k ∷ j ∷ parts))) (sym (sum_by-cons (λ x. x) k (j ∷ parts)))
      (product-cohomologous K ok k (sum (j ∷ parts)) (a k) (cocycle K k (whitney_class K k)) (product_of K a (j ∷ parts)) (product K (j ∷ parts))
      (other-canonical a k (All-first (IsOther a) k (j ∷ parts) each))
      (product-other a (j ∷ parts) (All-tail (IsOther a) k (j ∷ parts) each)))

  pub number-other : (n : ℕ) → closed K ≡ Ok n → (a : ℕ → Ids) (parts : List ℕ) → All (IsOther a) parts → sum parts ≡ top K
      → on_top K (product_of K a parts) ≡ on_top K (product K parts)
  number-other n shut a parts each whole =
      on_top-cohomologous K ok n shut (product_of K a parts) (product K parts)
      (subst (λ d. AreCohomologous K d (product_of K a parts) (product K parts)) whole (product-other a parts each))
