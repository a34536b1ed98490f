-- Kernels, images and decomposable classes are subspaces; the Bockstein on its own values.
--     apply-cocycle, apply-sum       values of operations at cocycles
--     value-linear                   on class words an operation is linear
--     kernel-space, image-space, dimensions-add     so its kernel and image are subspaces, whose dimensions add up
--     sums-subspace                  the sums of some of the listed words are a subspace
--     class-twice, value-twice       the Bockstein takes its own values to zero
--     image-kernel, page-sum         so its image lies in its kernel, and nothing is cut off in the page number
use Rattle.std.proofs.Common.{◌≡◌, ℕ, zero, suc, ◌+◌, ◌-◌, ◌<◌, ◌≤◌, Bool, true, false, ◌||◌, List, [], ◌∷◌, refl, sym, ap, ◌∙◌, subst, arith, add-one, ⊎_elim, inl, inr, ◌⊎◌}
use Rattle.std.proofs.lemmas.Bool.{or_cases, or_left, or_right}
use Rattle.homology.specs.Parity.{xor}
use Rattle.homology.specs.Sets.{Ids, plus, set_of}
use Rattle.homology.specs.Complexes.{Complex, IsComplex}
use Rattle.homology.specs.Chains.{IsCocycle, AreCohomologous}
use Rattle.homology.specs.Contractions.{cycle_of}
use Rattle.homology.specs.Kinds.{betti}
use Rattle.homology.specs.Simplices.{same_list}
use Rattle.homology.proofs.BoundaryLaws.{same_list-true, same_list-same}
use Rattle.homology.proofs.SetLaws.{same_members}
use Rattle.factors.proofs.Existence.{contraction-exists}
use Rattle.cohomology.specs.Classes.{IsClass, class_of}
use Rattle.cohomology.proofs.Canonicals.{canonical-found}
use Rattle.cohomology.proofs.ClassLaws.{class-found, class_of-canonical, class_of-sum, class-zero, canonical-sum}
use Rattle.cohomology.proofs.Cocycles.{plus-cocycle}
use Rattle.cohomology_operations.specs.Bocksteins.{bockstein}
use Rattle.cohomology_operations.proofs.SquareLaws.{square-cocycle, square-additive}
use Rattle.cohomology_operations.proofs.BocksteinLaws.{bockstein-cocycle, bockstein-class, bockstein-sum}
use Rattle.cohomology_operations.proofs.ClassLaws.{class-cohomologous}
use Rattle.characteristic_classes.specs.Pairings.{cocycle}
use Rattle.operation_spaces.specs.Spaces.{IsWord, sum, IsSubspace, dimension, IsLinear}
use Rattle.operation_spaces.specs.OperationSpaces.{Operation, Square, Bockstein, raises, apply, value_of, kernel, image, is_sum, products, decomposable, image_below, page}
use Rattle.operation_spaces.proofs.Words.{words-same, empty-word, sum-word, sum-at, sum-self}
use Rattle.operation_spaces.proofs.DimensionLaws.{dimension-le}
use Rattle.operation_spaces.proofs.RankLaws.{image-finds, kernel-subspace, image-subspace, rank}
use Rattle.operation_spaces.proofs.DoubleBockstein.{bockstein-twice}
use Rattle.characteristic_classes.proofs.WordLaws.{listed-at}

class-word : (K : Complex) (p : ℕ) (w : List ℕ) → IsClass K p w → IsWord (betti K p) w
class-word K p w W = record { ascending = W.ascending; numbers = W.numbers }

word-class : (K : Complex) (p : ℕ) (w : List ℕ) → IsWord (betti K p) w → IsClass K p w
word-class K p w W = record { ascending = W.ascending; numbers = W.numbers }

module _ (K : Complex) (ok : IsComplex K) where
  cocycle-is : (p : ℕ) (w : List ℕ) → IsClass K p w → IsCocycle K p (cocycle K p w)
  cocycle-is p w W =
      let H = contraction-exists K ok in
      (canonical-found K ok H.f (cycle_of K H.phi) H.phi H.is p w W).0.cocycle

  class-is : (p : ℕ) (a : Ids) → IsCocycle K p a → IsClass K p (class_of K p a)
  class-is p a A =
      let H = contraction-exists K ok in
      (class-found K ok H.f (cycle_of K H.phi) H.phi H.is p a A).0

  apply-cocycle : (op : Operation) (p : ℕ) (a : Ids) → IsCocycle K p a → IsCocycle K (p + raises op) (apply K op p a)
  apply-cocycle (Square k) p a A = square-cocycle K ok k p a A
  apply-cocycle Bockstein p a A = bockstein-cocycle K ok p a A

  apply-sum : (op : Operation) (p : ℕ) (a b : Ids) → IsCocycle K p a → IsCocycle K p b
      → AreCohomologous K (p + raises op) (apply K op p (plus a b)) (plus (apply K op p a) (apply K op p b))
  apply-sum (Square k) p a b A B = square-additive K ok k p a b A B
  apply-sum Bockstein p a b A B = bockstein-sum K ok p a b A B

  value-word : (op : Operation) (p : ℕ) (w : List ℕ) → IsWord (betti K p) w → IsWord (betti K (p + raises op)) (value_of K op p w)
  value-word op p w W =
      class-word K (p + raises op) (value_of K op p w)
      (class-is (p + raises op) (apply K op p (cocycle K p w)) (apply-cocycle op p (cocycle K p w) (cocycle-is p w (word-class K p w W))))

  -- the cocycle of a sum
  cocycle-sum : (p : ℕ) (v w : List ℕ) → IsWord (betti K p) v → IsWord (betti K p) w
      → cocycle K p (sum (betti K p) v w) ≡ plus (cocycle K p v) (cocycle K p w)
  cocycle-sum p v w V W =
      let H = contraction-exists K ok in
      canonical-sum K ok H.f (cycle_of K H.phi) H.phi H.is p v w (sum (betti K p) v w)
      (word-class K p v V) (word-class K p w W) (word-class K p (sum (betti K p) v w) (sum-word (betti K p) v w))
      (same_members (set_of (sum (betti K p) v w)) (plus (set_of v) (set_of w)) (sum-at (betti K p) v w V W))

  class-sum : (p : ℕ) (a b : Ids) → IsCocycle K p a → IsCocycle K p b
      → class_of K p (plus a b) ≡ sum (betti K p) (class_of K p a) (class_of K p b)
  class-sum p a b A B =
      let H = contraction-exists K ok in
      let AW : IsWord (betti K p) (class_of K p a) = class-word K p (class_of K p a) (class-is p a A) in
      let BW : IsWord (betti K p) (class_of K p b) = class-word K p (class_of K p b) (class-is p b B) in
      words-same (betti K p) (class_of K p (plus a b)) (sum (betti K p) (class_of K p a) (class_of K p b))
      (class-word K p (class_of K p (plus a b)) (class-is p (plus a b) (plus-cocycle K p a b A B)))
      (sum-word (betti K p) (class_of K p a) (class_of K p b))
      (λ k _.
      ap (λ z. z k) (class_of-sum K ok H.f (cycle_of K H.phi) H.phi H.is p a b A B)
      ∙ sym (sum-at (betti K p) (class_of K p a) (class_of K p b) AW BW k))

  value-sum : (op : Operation) (p : ℕ) (v w : List ℕ) → IsWord (betti K p) v → IsWord (betti K p) w
      → value_of K op p (sum (betti K p) v w) ≡ sum (betti K (p + raises op)) (value_of K op p v) (value_of K op p w)
  value-sum op p v w V W =
      let A : IsCocycle K p (cocycle K p v) = cocycle-is p v (word-class K p v V) in
      let B : IsCocycle K p (cocycle K p w) = cocycle-is p w (word-class K p w W) in
      ap (λ a. class_of K (p + raises op) (apply K op p a)) (cocycle-sum p v w V W)
      ∙ class-cohomologous K ok (p + raises op) (apply K op p (plus (cocycle K p v) (cocycle K p w)))
      (plus (apply K op p (cocycle K p v)) (apply K op p (cocycle K p w))) (apply-sum op p (cocycle K p v) (cocycle K p w) A B)
      ∙ class-sum (p + raises op) (apply K op p (cocycle K p v)) (apply K op p (cocycle K p w))
      (apply-cocycle op p (cocycle K p v) A) (apply-cocycle op p (cocycle K p w) B)

  pub value-linear : (op : Operation) (p : ℕ) → IsLinear (betti K p) (betti K (p + raises op)) (value_of K op p)
  value-linear op p = record { words = value-word op p; sums = value-sum op p }

  pub kernel-space : (op : Operation) (p : ℕ) → IsSubspace (betti K p) (kernel K op p)
  kernel-space op p = kernel-subspace (betti K p) (betti K (p + raises op)) (value_of K op p) (value-linear op p)

  pub image-space : (op : Operation) (p : ℕ) → IsSubspace (betti K (p + raises op)) (image K op p)
  image-space op p = image-subspace (betti K p) (betti K (p + raises op)) (value_of K op p) (value-linear op p)

  pub dimensions-add : (op : Operation) (p : ℕ)
      → dimension (betti K p) (kernel K op p) + dimension (betti K (p + raises op)) (image K op p) ≡ betti K p
  dimensions-add op p = rank (betti K p) (betti K (p + raises op)) (value_of K op p) (value-linear op p)

  pub class-twice : (p : ℕ) (a : Ids) → IsCocycle K p a → class_of K (p + 1 + 1) (bockstein K (bockstein K a)) ≡ []
  class-twice p a A =
      let H = contraction-exists K ok in
      class-zero K ok H.f (cycle_of K H.phi) H.phi H.is (p + 1 + 1) (bockstein K (bockstein K a))
      (bockstein-cocycle K ok (p + 1) (bockstein K a) (bockstein-cocycle K ok p a A)) (bockstein-twice K ok p a A)

  -- the value at the class of a cocycle is the class of the value
  value-twice : (p : ℕ) (v : List ℕ) → IsClass K p v → value_of K Bockstein (p + 1) (value_of K Bockstein p v) ≡ []
  value-twice p v V =
      let H = contraction-exists K ok in
      let A : IsCocycle K p (cocycle K p v) = cocycle-is p v V in
      let B : IsCocycle K (p + 1) (bockstein K (cocycle K p v)) = bockstein-cocycle K ok p (cocycle K p v) A in
      let w : List ℕ = value_of K Bockstein p v in
      let W : IsClass K (p + 1) w = class-is (p + 1) (bockstein K (cocycle K p v)) B in
      bockstein-class K ok (p + 1) (cocycle K (p + 1) w) (bockstein K (cocycle K p v)) (cocycle-is (p + 1) w W) B
      (class_of-canonical K ok H.f (cycle_of K H.phi) H.phi H.is (p + 1) w W)
      ∙ class-twice p (cocycle K p v) A

  pub image-kernel : (p : ℕ) (w : List ℕ) → image K Bockstein p w ≡ true → kernel K Bockstein (p + 1) w ≡ true
  image-kernel p w e =
      let found = image-finds (betti K p) (value_of K Bockstein p) w e in
      same_list-same (value_of K Bockstein (p + 1) w) []
      (ap (value_of K Bockstein (p + 1)) (sym found.2) ∙ value-twice p found.0 (word-class K p found.0 found.1))

  page-exact : (p : ℕ) → image_below K p ≤ dimension (betti K p) (kernel K Bockstein p)
  page-exact zero = omega arith
  page-exact (suc p) = dimension-le (betti K (suc p)) (image K Bockstein p) (kernel K Bockstein (suc p))
      (λ w _ e. subst (λ q. kernel K Bockstein q w ≡ true) (add-one p) (image-kernel p w e))

  pub page-sum : (p : ℕ) → page K p + image_below K p ≡ dimension (betti K p) (kernel K Bockstein p)
  page-sum p = omega (arith, page-exact p)

-- sums of some words, modulo 2: a word taken twice is left out
module _ (n : ℕ) where
  at-sum : (v w : List ℕ) (k : ℕ) → k < n → set_of (sum n v w) k ≡ xor (set_of v k) (set_of w k)
  at-sum v w k lt = listed-at n (plus (set_of v) (set_of w)) k lt

  inner : (g v w : List ℕ) → sum n v (sum n g w) ≡ sum n g (sum n v w)
  inner g v w = words-same n (sum n v (sum n g w)) (sum n g (sum n v w)) (sum-word n v (sum n g w)) (sum-word n g (sum n v w)) (λ k lt.
      at-sum v (sum n g w) k lt ∙ ap (xor (set_of v k)) (at-sum g w k lt)
      ∙ turned (set_of v k) (set_of g k) (set_of w k)
      ∙ sym (at-sum g (sum n v w) k lt ∙ ap (xor (set_of g k)) (at-sum v w k lt)))
    where
      turned : (a b c : Bool) → xor a (xor b c) ≡ xor b (xor a c)
      turned true true c = refl
      turned true false c = refl
      turned false b c = refl

  outer : (g v w : List ℕ) → sum n (sum n g v) w ≡ sum n g (sum n v w)
  outer g v w = words-same n (sum n (sum n g v) w) (sum n g (sum n v w)) (sum-word n (sum n g v) w) (sum-word n g (sum n v w)) (λ k lt.
      at-sum (sum n g v) w k lt ∙ ap (λ b. xor b (set_of w k)) (at-sum g v k lt)
      ∙ joined (set_of g k) (set_of v k) (set_of w k)
      ∙ sym (at-sum g (sum n v w) k lt ∙ ap (xor (set_of g k)) (at-sum v w k lt)))
    where
      joined : (a b c : Bool) → xor (xor a b) c ≡ xor a (xor b c)
      joined true true true = refl
      joined true true false = refl
      joined true false c = refl
      joined false b c = refl

  both : (g v w : List ℕ) → sum n (sum n g v) (sum n g w) ≡ sum n v w
  both g v w = words-same n (sum n (sum n g v) (sum n g w)) (sum n v w) (sum-word n (sum n g v) (sum n g w)) (sum-word n v w) (λ k lt.
      at-sum (sum n g v) (sum n g w) k lt ∙ (λ i. xor (at-sum g v k lt i) (at-sum g w k lt i))
      ∙ cancel (set_of g k) (set_of v k) (set_of w k)
      ∙ sym (at-sum v w k lt))
    where
      cancel : (a b c : Bool) → xor (xor a b) (xor a c) ≡ xor b c
      cancel true true true = refl
      cancel true true false = refl
      cancel true false true = refl
      cancel true false false = refl
      cancel false b c = refl

  sums-empty : (gs : List (List ℕ)) → is_sum n gs [] ≡ true
  sums-empty [] = refl
  sums-empty (g ∷ gs) = or_left (is_sum n gs []) (is_sum n gs (sum n g [])) (sums-empty gs)

  sums-add : (gs : List (List ℕ)) (v w : List ℕ) → is_sum n gs v ≡ true → is_sum n gs w ≡ true → is_sum n gs (sum n v w) ≡ true
  sums-add [] v w e f =
      same_list-same (sum n v w) [] ((λ i. sum n (same_list-true v [] e i) (same_list-true w [] f i)) ∙ sum-self n [] (empty-word n))
  sums-add (g ∷ gs) v w e f = ⊎_elim
      (λ (v_out : is_sum n gs v ≡ true). ⊎_elim
      (λ (w_out : is_sum n gs w ≡ true). left (sums-add gs v w v_out w_out))
      (λ (w_in : is_sum n gs (sum n g w) ≡ true). right (ap (is_sum n gs) (sym (inner g v w)) ∙ sums-add gs v (sum n g w) v_out w_in))
      (or_cases (is_sum n gs w) (is_sum n gs (sum n g w)) f))
      (λ (v_in : is_sum n gs (sum n g v) ≡ true). ⊎_elim
      (λ (w_out : is_sum n gs w ≡ true). right (ap (is_sum n gs) (sym (outer g v w)) ∙ sums-add gs (sum n g v) w v_in w_out))
      (λ (w_in : is_sum n gs (sum n g w) ≡ true). left (ap (is_sum n gs) (sym (both g v w)) ∙ sums-add gs (sum n g v) (sum n g w) v_in w_in))
      (or_cases (is_sum n gs w) (is_sum n gs (sum n g w)) f))
      (or_cases (is_sum n gs v) (is_sum n gs (sum n g v)) e)
    where
      left : is_sum n gs (sum n v w) ≡ true → is_sum n (g ∷ gs) (sum n v w) ≡ true
      left h = or_left (is_sum n gs (sum n v w)) (is_sum n gs (sum n g (sum n v w))) h

      right : is_sum n gs (sum n g (sum n v w)) ≡ true → is_sum n (g ∷ gs) (sum n v w) ≡ true
      right h = or_right (is_sum n gs (sum n v w)) (is_sum n gs (sum n g (sum n v w))) h

  pub sums-subspace : (gs : List (List ℕ)) → IsSubspace n (is_sum n gs)
  sums-subspace gs = record { zero = sums-empty gs; sums = λ v w V W e f. sums-add gs v w e f }

pub decomposable-space : (K : Complex) (p : ℕ) → IsSubspace (betti K p) (decomposable K p)
decomposable-space K p = sums-subspace (betti K p) (products K p)
