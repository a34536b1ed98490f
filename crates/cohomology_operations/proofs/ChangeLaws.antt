-- Laws of coboundaries, and of products with themselves and with coboundaries, as sets.
--     coboundary-empty, coboundary-coboundary     the empty set and a coboundary have no coboundary
--     cocycle-closed                              nor has a cocycle, as a set
--     cup-none_left, cup-none_right               products with the empty set
--     cup-sums                                    a product of two sums
--     coboundary-left, coboundary-right, coboundary-both
--                                                 the coboundary of a product of which one factor or both have none
--     product-changes, cup-exchanged, square-sum, square-change
--                                                 the laws in src/cochain_laws.rt
use Rattle.std.proofs.Common.{◌≡◌, ℕ, zero, suc, ◌<◌, ◌≤◌, false, length, refl, sym, ap, ◌∙◌, ⊎_elim}
use Rattle.std.proofs.lemmas.Bool.{cases_lt}
use Rattle.homology.specs.Parity.{xor}
use Rattle.homology.specs.Sets.{Ids, empty, plus, evaluate}
use Rattle.homology.specs.Complexes.{Complex, IsComplex}
use Rattle.homology.specs.Chains.{IsCocycle, boundary_of, coboundary}
use Rattle.homology.proofs.ParityLaws.{odd-none}
use Rattle.homology.proofs.SetLaws.{same_members, plus-self, plus-empty}
use Rattle.homology.proofs.EvaluationLaws.{evaluate-empty, evaluate-coboundary}
use Rattle.homology.proofs.BoundaryLaws.{boundary-boundary_of}
use Rattle.cohomology.proofs.Cocycles.{coboundary-plus}
use Rattle.products.specs.Products.{cup, cup_below}
use Rattle.products.proofs.TruthTables.{by_table}
use Rattle.products.proofs.CoboundaryLaw.{cup-plus_left, cup-plus_right, coboundary-outside, coboundary-cup}

pub coboundary-empty : (K : Complex) → coboundary K empty ≡ empty
coboundary-empty K = same_members _ empty (λ x. odd-none (length K) _ (λ t _. refl))

-- the coboundary is the transpose of the boundary, and a boundary has no boundary
pub coboundary-coboundary : (K : Complex) → IsComplex K → (a : Ids) → coboundary K (coboundary K a) ≡ empty
coboundary-coboundary K ok a = same_members _ empty (λ x. ⊎_elim
    (λ (lt : x < length K).
    evaluate-coboundary K a (boundary_of K x)
    ∙ ap (evaluate (length K) a) (boundary-boundary_of K ok x lt)
    ∙ evaluate-empty (length K) a)
    (λ (le : length K ≤ x). coboundary-outside K (coboundary K a) x le)
    (cases_lt x (length K)))

pub cocycle-closed : (K : Complex) (p : ℕ) (a : Ids) → IsCocycle K p a → coboundary K a ≡ empty
cocycle-closed K p a A = same_members _ empty (λ x. ⊎_elim
    (λ (lt : x < length K). A.closed x lt)
    (λ (le : length K ≤ x). coboundary-outside K a x le)
    (cases_lt x (length K)))

-- the empty set is the sum of two empty sets
pub cup-none_left : (K : Complex) (i : ℕ) (b : Ids) → cup K i empty b ≡ empty
cup-none_left K i b = cup-plus_left K i empty empty b ∙ plus-self (cup K i empty b)

pub cup-none_right : (K : Complex) (i : ℕ) (a : Ids) → cup K i a empty ≡ empty
cup-none_right K i a = cup-plus_right K i a empty empty ∙ plus-self (cup K i a empty)

pub cup-sums : (K : Complex) (i : ℕ) (a c b d : Ids)
    → cup K i (plus a c) (plus b d) ≡ plus (plus (cup K i a b) (cup K i a d)) (plus (cup K i c b) (cup K i c d))
cup-sums K i a c b d =
    cup-plus_left K i a c (plus b d) ∙ (λ j. plus (cup-plus_right K i a b d j) (cup-plus_right K i c b d j))

module _ (K : Complex) (ok : IsComplex K) where
  pub coboundary-left : (i : ℕ) (a b : Ids) → coboundary K a ≡ empty
      → coboundary K (cup K i a b) ≡ plus (cup K i a (coboundary K b)) (plus (cup_below K i a b) (cup_below K i b a))
  coboundary-left i a b A =
      coboundary-cup K ok i a b
      ∙ ap (λ z. plus (plus z (cup K i a (coboundary K b))) (plus (cup_below K i a b) (cup_below K i b a)))
      (ap (λ z. cup K i z b) A ∙ cup-none_left K i b)

  pub coboundary-right : (i : ℕ) (a b : Ids) → coboundary K b ≡ empty
      → coboundary K (cup K i a b) ≡ plus (cup K i (coboundary K a) b) (plus (cup_below K i a b) (cup_below K i b a))
  coboundary-right i a b B =
      coboundary-cup K ok i a b
      ∙ ap (λ z. plus z (plus (cup_below K i a b) (cup_below K i b a)))
      (ap (plus (cup K i (coboundary K a) b)) (ap (cup K i a) B ∙ cup-none_right K i a) ∙ plus-empty (cup K i (coboundary K a) b))

  pub coboundary-both : (i : ℕ) (a b : Ids) → coboundary K a ≡ empty → coboundary K b ≡ empty
      → coboundary K (cup K i a b) ≡ plus (cup_below K i a b) (cup_below K i b a)
  coboundary-both i a b A B =
      coboundary-left i a b A
      ∙ ap (λ z. plus z (plus (cup_below K i a b) (cup_below K i b a))) (ap (cup K i a) B ∙ cup-none_right K i a)

  pub cup-exchanged : (i : ℕ) (a b : Ids) → coboundary K a ≡ empty → coboundary K b ≡ empty
      → plus (cup K i a b) (cup K i b a) ≡ coboundary K (cup K (suc i) a b)
  cup-exchanged i a b A B = sym (coboundary-both (suc i) a b A B)

  -- the coboundary of three terms
  coboundary-three : (x y z : Ids) → coboundary K (plus (plus x y) z) ≡ plus (plus (coboundary K x) (coboundary K y)) (coboundary K z)
  coboundary-three x y z = coboundary-plus K (plus x y) z ∙ ap (λ w. plus w (coboundary K z)) (coboundary-plus K x y)

  pub product-changes : (a b : Ids) → coboundary K a ≡ empty → coboundary K b ≡ empty → (u v : Ids)
      → plus (cup K 0 (plus a (coboundary K u)) (plus b (coboundary K v))) (cup K 0 a b)
      ≡ coboundary K (plus (plus (cup K 0 u b) (cup K 0 a v)) (cup K 0 u (coboundary K v)))
  product-changes a b A B u v =
      ap (λ z. plus z (cup K 0 a b)) (cup-sums K 0 a d b e)
      ∙ same_members _ _ (λ x. by_table 4
      (λ ab ae db de. xor (xor (xor ab ae) (xor db de)) ab)
      (λ ab ae db de. xor (xor (xor db false) (xor ae false)) (xor de false)) refl
      (cup K 0 a b x) (cup K 0 a e x) (cup K 0 d b x) (cup K 0 d e x))
      ∙ sym (coboundary-three (cup K 0 u b) (cup K 0 a v) (cup K 0 u e)
      ∙ (λ j. plus
      (plus (coboundary-right 0 u b B j) (coboundary-left 0 a v A j))
      (coboundary-right 0 u e (coboundary-coboundary K ok v) j)))
    where
      d : Ids
      d = coboundary K u

      e : Ids
      e = coboundary K v

  pub square-sum : (i : ℕ) (a b : Ids) → coboundary K a ≡ empty → coboundary K b ≡ empty
      → plus (cup K i (plus a b) (plus a b)) (plus (cup K i a a) (cup K i b b)) ≡ coboundary K (cup K (suc i) a b)
  square-sum i a b A B =
      ap (λ z. plus z (plus (cup K i a a) (cup K i b b))) (cup-sums K i a b a b)
      ∙ same_members _ _ (λ x. by_table 4
      (λ aa ab ba bb. xor (xor (xor aa ab) (xor ba bb)) (xor aa bb)) (λ aa ab ba bb. xor ab ba) refl
      (cup K i a a x) (cup K i a b x) (cup K i b a x) (cup K i b b x))
      ∙ cup-exchanged i a b A B

  -- of the product with the index less by one, of u with itself
  coboundary-below : (i : ℕ) (u : Ids)
      → coboundary K (cup_below K i u u) ≡ plus (cup_below K i (coboundary K u) u) (cup_below K i u (coboundary K u))
  coboundary-below zero u = coboundary-empty K
  coboundary-below (suc i) u =
      coboundary-cup K ok i u u
      ∙ ap (plus (plus (cup K i (coboundary K u) u) (cup K i u (coboundary K u)))) (plus-self (cup_below K i u u))
      ∙ plus-empty (plus (cup K i (coboundary K u) u) (cup K i u (coboundary K u)))

  pub square-change : (i : ℕ) (a : Ids) → coboundary K a ≡ empty → (u : Ids)
      → plus (cup K i (plus a (coboundary K u)) (plus a (coboundary K u))) (cup K i a a)
      ≡ coboundary K (plus (plus (cup K (suc i) a (coboundary K u)) (cup K i u (coboundary K u))) (cup_below K i u u))
  square-change i a A u =
      ap (λ z. plus z (cup K i a a)) (cup-sums K i a d a d)
      ∙ same_members _ _ (λ x. by_table 6
      (λ aa ad da dd m n. xor (xor (xor aa ad) (xor da dd)) aa)
      (λ aa ad da dd m n. xor (xor (xor ad da) (xor dd (xor m n))) (xor n m)) refl
      (cup K i a a x) (cup K i a d x) (cup K i d a x) (cup K i d d x) (cup_below K i u d x) (cup_below K i d u x))
      ∙ sym (coboundary-three (cup K (suc i) a d) (cup K i u d) (cup_below K i u u)
      ∙ (λ j. plus
      (plus (coboundary-both (suc i) a d A D j) (coboundary-right i u d D j))
      (coboundary-below i u j)))
    where
      d : Ids
      d = coboundary K u

      D : coboundary K d ≡ empty
      D = coboundary-coboundary K ok u
