-- The pairing of class words.
--     pairing-count .. row-beyond   rows and entries
--     one-word                      one class number is a class word
--     word-cocycle, cocycle-terms   the canonical cocycle of a word is the sum of those of its numbers
--     cup-sum_left, cup-sum_right   products of sums
--     pair-left, pair-right, pair-terms      so the pairing is additive
--     pair-row                      a row of it by the contraction: f of a cap product
--     pair-turned                   it is symmetric
--     pair-classes                  it is the value of the product of any two cocycles of the classes
use Rattle.std.proofs.Common.{◌≡◌, ℕ, zero, suc, ◌+◌, ◌-◌, ◌<◌, ◌≤◌, Bool, false, ◌&&◌, List, [], ◌∷◌, map, length, refl, sym, ap, ◌∙◌, subst, arith, ⊎_elim}
use Rattle.std.specs.Prelude.{slice_index_or, Ok}
use Rattle.std.proofs.lemmas.Bool.{cases_lt, false_from_ne_true}
use Rattle.std.proofs.lemmas.List.{get_or_past}
use Rattle.std.proofs.lemmas.List.FromFn.{length-map-range_with_len, get_or-map-range_with_len}
use Rattle.homology.specs.Parity.{xor}
use Rattle.homology.specs.Sets.{Ids, plus, set_of, image}
use Rattle.homology.specs.ListSums.{odd_over, sum_over}
use Rattle.homology.specs.Complexes.{Complex, IsComplex}
use Rattle.homology.specs.Chains.{IsCocycle, AreCohomologous}
use Rattle.homology.specs.Kinds.{ids, betti}
use Rattle.homology.specs.Contractions.{IsContraction, cycle_of}
use Rattle.homology.proofs.ParityLaws.{and-comm, odd-same}
use Rattle.homology.proofs.SetLaws.{same_members}
use Rattle.homology.proofs.ListSumLaws.{odd_over-same, odd_over-none}
use Rattle.factors.specs.Factors.{HasContraction}
use Rattle.factors.proofs.Existence.{contraction-exists}
use Rattle.cohomology.specs.Classes.{IsClass, essential_at, class_of}
use Rattle.cohomology.proofs.Canonicals.{canonical-found, canonical-word, canonical-own}
use Rattle.cohomology.proofs.ClassLaws.{class-found}
use Rattle.products.specs.Products.{cup}
use Rattle.products.specs.Caps.{cap}
use Rattle.products.proofs.CapLaws.{evaluate-cap}
use Rattle.products.proofs.CoboundaryLaw.{cup-plus_left, cup-plus_right}
use Rattle.cohomology_operations.proofs.ChangeLaws.{cup-none_left, cup-none_right}
use Rattle.cohomology_operations.proofs.ClassLaws.{product-commutes, product-cohomologous}
use Rattle.manifolds.specs.Closed.{top, closed}
use Rattle.characteristic_classes.specs.Pairings.{cocycle, on_top, pair, row, pairing}
use Rattle.characteristic_classes.proofs.TopLaws.{on_top-value, on_top-sum, on_top-cohomologous}

pub one-word : (K : Complex) (p k : ℕ) → k < betti K p → IsClass K p (k ∷ [])
one-word K p k lt = record { ascending = λ j h. absurd (omega (arith, h)); numbers = at }
  where
    at : (j d : ℕ) → j < length (k ∷ []) → slice_index_or (k ∷ []) j d < betti K p
    at zero d h = lt
    at (suc j) d h = absurd (omega (arith, h))

pub no-word : (K : Complex) (p : ℕ) → IsClass K p []
no-word K p = record { ascending = λ k h. absurd (omega (arith, h)); numbers = λ k d h. absurd (omega (arith, h)) }

odd_over-map : (h : ℕ → ℕ) (xs : List ℕ) (p : ℕ → Bool) → odd_over (map h xs) p ≡ odd_over xs (λ x. p (h x))
odd_over-map h [] p = refl
odd_over-map h (x ∷ xs) p = ap (xor (p (h x))) (odd_over-map h xs p)

pub cup-sum_left : (K : Complex) (i : ℕ) (xs : List ℕ) (φ : ℕ → Ids) (b : Ids) → cup K i (sum_over xs φ) b ≡ sum_over xs (λ x. cup K i (φ x) b)
cup-sum_left K i [] φ b = cup-none_left K i b
cup-sum_left K i (x ∷ xs) φ b = cup-plus_left K i (φ x) (sum_over xs φ) b ∙ ap (plus (cup K i (φ x) b)) (cup-sum_left K i xs φ b)

pub cup-sum_right : (K : Complex) (i : ℕ) (a : Ids) (xs : List ℕ) (φ : ℕ → Ids) → cup K i a (sum_over xs φ) ≡ sum_over xs (λ x. cup K i a (φ x))
cup-sum_right K i a [] φ = cup-none_right K i a
cup-sum_right K i a (x ∷ xs) φ = cup-plus_right K i a (φ x) (sum_over xs φ) ∙ ap (plus (cup K i a (φ x))) (cup-sum_right K i a xs φ)

-- the rows of the pairing and their entries
module _ (K : Complex) (p : ℕ) where
  pub pairing-count : length (pairing K p) ≡ betti K p
  pairing-count = length-map-range_with_len (row K p) 0 (betti K p)

  pub pairing-row : (j : ℕ) (d : List Bool) → j < betti K p → slice_index_or (pairing K p) j d ≡ row K p j
  pairing-row j d lt = get_or-map-range_with_len (row K p) 0 (betti K p) j j d lt (omega arith)

  pub row-width : (j : ℕ) → length (row K p j) ≡ betti K (top K - p)
  row-width j = length-map-range_with_len (λ k. pair K p (j ∷ []) (k ∷ [])) 0 (betti K (top K - p))

  pub row-entry : (j k : ℕ) → k < betti K (top K - p) → slice_index_or (row K p j) k false ≡ pair K p (j ∷ []) (k ∷ [])
  row-entry j k lt = get_or-map-range_with_len (λ m. pair K p (j ∷ []) (m ∷ [])) 0 (betti K (top K - p)) k k false lt (omega arith)

  pub row-beyond : (j k : ℕ) → betti K (top K - p) ≤ k → slice_index_or (row K p j) k false ≡ false
  row-beyond j k le = get_or_past (row K p j) k false (omega (arith, le, row-width j))

module _ (K : Complex) (ok : IsComplex K) where
  pub word-cocycle : (p : ℕ) (w : List ℕ) → IsClass K p w → IsCocycle K p (cocycle K p w)
  word-cocycle p w W =
      let H = contraction-exists K ok in
      (canonical-found K ok H.f (cycle_of K H.phi) H.phi H.is p w W).0.cocycle

  outside : (p : ℕ) (w : List ℕ) → IsClass K p w → (t : ℕ) → length K ≤ t → cocycle K p w t ≡ false
  outside p w W t le = false_from_ne_true (cocycle K p w t) (λ m. omega (arith, (word-cocycle p w W).cochain.there t m))

  -- the canonical cocycle of a word
  pub cocycle-terms : (p : ℕ) (w : List ℕ) → IsClass K p w → cocycle K p w ≡ sum_over w (λ j. cocycle K p (j ∷ []))
  cocycle-terms p w W = same_members (cocycle K p w) (sum_over w (λ j. cocycle K p (j ∷ []))) (λ t. ⊎_elim
      (λ (lt : t < length K). within t lt)
      (λ (le : length K ≤ t).
      outside p w W t le
      ∙ sym (odd_over-none w (λ j. cocycle K p (j ∷ []) t) (λ i d h. outside p (slice_index_or w i d ∷ []) (one-word K p (slice_index_or w i d) (W.numbers i d h)) t le)))
      (cases_lt t (length K)))
    where
      H : HasContraction K
      H = contraction-exists K ok

      within : (t : ℕ) → t < length K → cocycle K p w t ≡ odd_over w (λ j. cocycle K p (j ∷ []) t)
      within t lt =
          canonical-word K ok H.f (cycle_of K H.phi) H.phi H.is p w W t lt
          ∙ odd_over-map (essential_at K p) w (H.f t)
          ∙ odd_over-same w (λ j. H.f t (essential_at K p j)) (λ j. cocycle K p (j ∷ []) t)
          (λ i d h. sym (canonical-own K ok H.f (cycle_of K H.phi) H.phi H.is p (slice_index_or w i d) (W.numbers i d h) t lt))

  -- the pairing is additive in the first word, and in the second
  pub pair-left : (p : ℕ) (v : List ℕ) → IsClass K p v → (w : List ℕ) → pair K p v w ≡ odd_over v (λ j. pair K p (j ∷ []) w)
  pair-left p v V w =
      ap (λ z. on_top K (cup K 0 z (cocycle K (top K - p) w))) (cocycle-terms p v V)
      ∙ ap (on_top K) (cup-sum_left K 0 v (λ j. cocycle K p (j ∷ [])) (cocycle K (top K - p) w))
      ∙ on_top-sum K v (λ j. cup K 0 (cocycle K p (j ∷ [])) (cocycle K (top K - p) w))

  pub pair-right : (p : ℕ) (v w : List ℕ) → IsClass K (top K - p) w → pair K p v w ≡ odd_over w (λ k. pair K p v (k ∷ []))
  pair-right p v w W =
      ap (λ z. on_top K (cup K 0 (cocycle K p v) z)) (cocycle-terms (top K - p) w W)
      ∙ ap (on_top K) (cup-sum_right K 0 (cocycle K p v) w (λ k. cocycle K (top K - p) (k ∷ [])))
      ∙ on_top-sum K w (λ k. cup K 0 (cocycle K p v) (cocycle K (top K - p) (k ∷ [])))

  pub pair-terms : (p : ℕ) (v w : List ℕ) → IsClass K p v → IsClass K (top K - p) w
      → pair K p v w ≡ odd_over v (λ j. odd_over w (λ k. pair K p (j ∷ []) (k ∷ [])))
  pair-terms p v w V W =
      pair-left p v V w
      ∙ odd_over-same v (λ j. pair K p (j ∷ []) w) (λ j. odd_over w (λ k. pair K p (j ∷ []) (k ∷ [])))
      (λ i d h. pair-right p (slice_index_or v i d ∷ []) w W)

  -- by the contraction: b(a cap M), where b is the set of the t with the essential simplex of the class in f t
  pub pair-row : (f g phi : ℕ → Ids) → IsContraction K f g phi → (p : ℕ) (v : List ℕ) → IsClass K p v → (k : ℕ) → k < betti K (top K - p)
      → pair K p v (k ∷ []) ≡ image (length K) f (cap K p (cocycle K p v) (set_of (ids K (top K)))) (essential_at K (top K - p) k)
  pair-row f g phi C p v V k lt =
      on_top-value K (cup K 0 a b)
      ∙ sym (evaluate-cap K ok p a (word-cocycle p v V).cochain b (set_of (ids K (top K))))
      ∙ odd-same (length K) (λ t. b t && z t) (λ t. z t && f t (essential_at K (top K - p) k))
      (λ t below. ap (λ c. c && z t) (canonical-own K ok f g phi C (top K - p) k lt t below) ∙ and-comm (f t (essential_at K (top K - p) k)) (z t))
    where
      a : Ids
      a = cocycle K p v

      b : Ids
      b = cocycle K (top K - p) (k ∷ [])

      z : Ids
      z = cap K p (cocycle K p v) (set_of (ids K (top K)))

  pub pair-row_of : (p : ℕ) (v : List ℕ) → IsClass K p v → (c : Ids)
      → ((f g phi : ℕ → Ids) → IsContraction K f g phi → image (length K) f (cap K p (cocycle K p v) (set_of (ids K (top K)))) ≡ c)
      → (k : ℕ) → k < betti K (top K - p) → pair K p v (k ∷ []) ≡ c (essential_at K (top K - p) k)
  pair-row_of p v V c is k lt =
      let H = contraction-exists K ok in
      pair-row H.f (cycle_of K H.phi) H.phi H.is p v V k lt ∙ ap (λ z. z (essential_at K (top K - p) k)) (is H.f (cycle_of K H.phi) H.phi H.is)

  module _ (n : ℕ) (shut : closed K ≡ Ok n) where
    -- products of classes commute
    pub pair-turned : (p : ℕ) → p ≤ top K → (v w : List ℕ) → IsClass K p v → IsClass K (top K - p) w → pair K p v w ≡ pair K (top K - p) w v
    pair-turned p le v w V W =
        let whole : p + (top K - p) ≡ top K = omega arith in
        let back : p ≡ top K - (top K - p) = omega arith in
        on_top-cohomologous K ok n shut (cup K 0 a b) (cup K 0 b a)
        (subst (λ m. AreCohomologous K m (cup K 0 a b) (cup K 0 b a)) whole
        (product-commutes K ok p (top K - p) a b (word-cocycle p v V) (word-cocycle (top K - p) w W)))
        ∙ ap (λ m. on_top K (cup K 0 b (cocycle K m v))) back
      where
        a : Ids
        a = cocycle K p v

        b : Ids
        b = cocycle K (top K - p) w

    pub top-products : (p : ℕ) → p ≤ top K → (a c b d : Ids) → AreCohomologous K p a c → AreCohomologous K (top K - p) b d
        → on_top K (cup K 0 a b) ≡ on_top K (cup K 0 c d)
    top-products p le a c b d E F =
        let whole : p + (top K - p) ≡ top K = omega arith in
        on_top-cohomologous K ok n shut (cup K 0 a b) (cup K 0 c d)
        (subst (λ m. AreCohomologous K m (cup K 0 a b) (cup K 0 c d)) whole (product-cohomologous K ok p (top K - p) a c b d E F))

  -- a cocycle and the canonical one of its class
  pub canonical-cohomologous : (p : ℕ) (a : Ids) → IsCocycle K p a → AreCohomologous K p a (cocycle K p (class_of K p a))
  canonical-cohomologous p a A =
      let H = contraction-exists K ok in
      let found = class-found K ok H.f (cycle_of K H.phi) H.phi H.is p a A in
      record { first = A; second = word-cocycle p (class_of K p a) found.0; differ_by_coboundary = found.1 }

  pub class-word : (p : ℕ) (a : Ids) → IsCocycle K p a → IsClass K p (class_of K p a)
  class-word p a A = let H = contraction-exists K ok in (class-found K ok H.f (cycle_of K H.phi) H.phi H.is p a A).0

  pub pair-classes : (n : ℕ) → closed K ≡ Ok n → (p : ℕ) → p ≤ top K → (a b : Ids) → IsCocycle K p a → IsCocycle K (top K - p) b
      → on_top K (cup K 0 a b) ≡ pair K p (class_of K p a) (class_of K (top K - p) b)
  pair-classes n shut p le a b A B = top-products n shut p le a (cocycle K p (class_of K p a)) b (cocycle K (top K - p) (class_of K (top K - p) b))
      (canonical-cohomologous p a A) (canonical-cohomologous (top K - p) b B)
