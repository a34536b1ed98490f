-- Squares of cocycles and their classes.
--     square-small, square-beyond      the square by cases
--     square-chain, square-cocycle     its degree and its coboundary
--     square-cohomologous              it goes over to classes
--     square-additive                  and is additive there
--     square-zero, square-degree       Sq^0, and Sq^p in degree p
use Rattle.std.proofs.Common.{◌≡◌, ℕ, zero, suc, ◌+◌, ◌-◌, ◌<◌, ◌≤◌, Bool, true, false, ◌&&◌, List, [], ◌∷◌, cond, not, length, refl, sym, ap, ◌∙◌, subst, arith, lt-ltb, le-ltb, ⊎_elim}
use Rattle.std.proofs.lemmas.Bool.{true≢false, cases_lt}
use Rattle.homology.specs.Parity.{xor}
use Rattle.homology.specs.Sets.{Ids, empty, plus}
use Rattle.homology.specs.Complexes.{Complex, IsComplex, simplex_at, dim}
use Rattle.homology.specs.Chains.{IsChain, IsCocycle, AreCohomologous, coboundary}
use Rattle.homology.proofs.ParityLaws.{xor-false}
use Rattle.homology.proofs.SetLaws.{same_members, plus-comm, plus-self, plus-twice}
use Rattle.homology.proofs.ContractionFacts.{plus-chain}
use Rattle.cohomology.proofs.Cocycles.{plus-cocycle}
use Rattle.cohomology.proofs.ClassLaws.{empty-chain}
use Rattle.cohomology.specs.Classes.{class_of}
use Rattle.products.specs.Products.{value_at, cup, cup_below}
use Rattle.products.proofs.SplittingLaws.{Test, put, put_both, weigh, weigh-wide}
use Rattle.products.proofs.HalfLaws.{meets}
use Rattle.products.proofs.ValueLaws.{value_at-there}
use Rattle.products.proofs.CoboundaryLaw.{cup-weigh, cup-degree}
use Rattle.cohomology_operations.specs.Squares.{square}
use Rattle.cohomology_operations.proofs.ChangeLaws.{cocycle-closed, coboundary-empty, coboundary-both, square-sum, square-change}
use Rattle.cohomology_operations.proofs.ClassLaws.{Lowers, Bounded, cup-chain, cup-lowers_left, cohomologous-plus, cohomologous-same, difference-bounded, class-cohomologous, cohomologous-class}

pub square-small : (K : Complex) (k p : ℕ) (a : Ids) → k ≤ p → square K k p a ≡ cup K (p - k) a a
square-small K k p a le = ap (λ b. cond b empty (cup K (p - k) a a)) (le-ltb p k le)

pub square-beyond : (K : Complex) (k p : ℕ) (a : Ids) → p < k → square K k p a ≡ empty
square-beyond K k p a lt = ap (λ b. cond b empty (cup K (p - k) a a)) (lt-ltb p k lt)

-- Sq^p in degree p
pub square-degree : (K : Complex) (p : ℕ) (a : Ids) → square K p p a ≡ cup K 0 a a
square-degree K p a =
    let none : p - p ≡ 0 = omega arith in
    square-small K p p a (omega arith) ∙ ap (λ i. cup K i a a) none

-- all vertices shared
pub weigh-all : (first : Bool) (s : List ℕ) (W : Test) → weigh (length s) first s W ≡ W s s
weigh-all first [] W = refl
weigh-all first (v ∷ s) W =
    ap (xor (weigh (length s) (not first) s (put_both v W))) (weigh-wide (suc (length s)) first s (put first v W) (omega arith))
    ∙ xor-false (weigh (length s) (not first) s (put_both v W))
    ∙ weigh-all (not first) s (put_both v W)

module _ (K : Complex) (ok : IsComplex K) where
  -- the product of index p of a with itself, at a simplex of dimension p
  cup-itself : (p : ℕ) (a : Ids) (x : ℕ) → x < length K → dim K x ≡ p → cup K p a a x ≡ a x
  cup-itself p a x lt d =
      let long : suc p ≡ length (simplex_at K x) = omega (arith, (ok.simplices x lt).nonempty) in
      cup-weigh K p a a x
      ∙ ap (λ n. weigh n true (simplex_at K x) (meets (value_at K a) (value_at K a))) long
      ∙ weigh-all true (simplex_at K x) (meets (value_at K a) (value_at K a))
      ∙ (λ j. value_at-there K ok a x lt j && value_at-there K ok a x lt j)
      ∙ both (a x)
    where
      both : (b : Bool) → (b && b) ≡ b
      both true = refl
      both false = refl

  pub square-zero : (p : ℕ) (a : Ids) → IsChain K p a → square K 0 p a ≡ a
  square-zero p a A =
      let whole : p - 0 ≡ p = omega arith in
      square-small K 0 p a (omega arith)
      ∙ ap (λ i. cup K i a a) whole
      ∙ same_members (cup K p a a) a (λ x. at x (a x) (cup K p a a x) refl refl)
    where
      at : (x : ℕ) (b c : Bool) → a x ≡ b → cup K p a a x ≡ c → cup K p a a x ≡ a x
      at x true c e f = cup-itself p a x (A.there x e) (A.degree x e)
      at x false true e f =
          let found : (x < length K) × (dim K x + p ≡ p + p) = cup-degree K ok p p p a a A A x f in
          cup-itself p a x found.0 (omega (arith, found.1))
      at x false false e f = f ∙ sym e

  pub square-chain : (k p : ℕ) (a : Ids) → IsChain K p a → IsChain K (p + k) (square K k p a)
  square-chain k p a A = ⊎_elim
      (λ (beyond : p < k). subst (IsChain K (p + k)) (sym (square-beyond K k p a beyond)) (empty-chain K (p + k)))
      (λ (small : k ≤ p). subst (IsChain K (p + k)) (sym (square-small K k p a small)) (cup-chain K ok (p - k) (p + k) p p a a (omega arith) A A))
      (cases_lt p k)

  square-closed : (k p : ℕ) (a : Ids) → coboundary K a ≡ empty → coboundary K (square K k p a) ≡ empty
  square-closed k p a A = ⊎_elim
      (λ (beyond : p < k). ap (coboundary K) (square-beyond K k p a beyond) ∙ coboundary-empty K)
      (λ (small : k ≤ p).
      ap (coboundary K) (square-small K k p a small) ∙ coboundary-both K ok (p - k) a a A A ∙ plus-self (cup_below K (p - k) a a))
      (cases_lt p k)

  pub square-cocycle : (k p : ℕ) (a : Ids) → IsCocycle K p a → IsCocycle K (p + k) (square K k p a)
  square-cocycle k p a A = record {
    cochain = square-chain k p a A.cochain;
    closed = λ x lt. ap (λ z. z x) (square-closed k p a (cocycle-closed K p a A));
  }

  -- the square of a sum
  pub square-additive : (k p : ℕ) (a b : Ids) → IsCocycle K p a → IsCocycle K p b
      → AreCohomologous K (p + k) (square K k p (plus a b)) (plus (square K k p a) (square K k p b))
  square-additive k p a b A B = ⊎_elim
      (λ (beyond : p < k). cohomologous-same K ok (p + k) (square K k p (plus a b)) (plus (square K k p a) (square K k p b)) whole
      (square-beyond K k p (plus a b) beyond ∙ sym (λ j. plus (square-beyond K k p a beyond j) (square-beyond K k p b beyond j))))
      (λ (small : k ≤ p). cohomologous-plus K ok (p + k) (square K k p (plus a b)) (plus (square K k p a) (square K k p b)) (cup K (suc (p - k)) a b)
      whole
      (plus-cocycle K (p + k) (square K k p a) (square K k p b) (square-cocycle k p a A) (square-cocycle k p b B))
      (λ x m. let found = cup-degree K ok (suc (p - k)) p p a b A.cochain B.cochain x m in (found.0, omega (arith, found.1)))
      ((λ j. plus (square-small K k p (plus a b) small j) (plus (square-small K k p a small j) (square-small K k p b small j)))
      ∙ square-sum K ok (p - k) a b (cocycle-closed K p a A) (cocycle-closed K p b B)))
      (cases_lt p k)
    where
      whole : IsCocycle K (p + k) (square K k p (plus a b))
      whole = square-cocycle k p (plus a b) (plus-cocycle K p a b A B)

  -- the cochain by which the square changes, where a changes by the coboundary of u
  abbrev change : ℕ → Ids → Ids → Ids
  change i a u = plus (plus (cup K (suc i) a (coboundary K u)) (cup K i u (coboundary K u))) (cup_below K i u u)

  lowers-plus : (n : ℕ) (v w : Ids) → Lowers K n v → Lowers K n w → Lowers K n (plus v w)
  lowers-plus n v w V W x m = by (v x) (w x) refl refl
    where
      by : (b c : Bool) → v x ≡ b → w x ≡ c → (x < length K) × (dim K x + 1 ≡ n)
      by true c e f = V x e
      by false true e f = W x f
      by false false e f = absurd (true≢false (sym m ∙ (λ j. xor (e j) (f j))))

  -- its degree
  change-below : (n i p : ℕ) (u : Ids) → n + i ≡ p + p → Lowers K p u → Lowers K n (cup_below K i u u)
  change-below n zero p u e U x m = absurd (true≢false (sym m))
  change-below n (suc i) zero u e U x m = absurd (omega arith)
  change-below n (suc i) (suc p) u e U x m =
      let found : (x < length K) × (dim K x + i ≡ p + p) = cup-degree K ok i p p u u lower lower x m in
      (found.0, omega (arith, e, found.1))
    where
      lower : IsChain K p u
      lower = record { there = λ y h. (U y h).0; degree = λ y h. omega (arith, (U y h).1) }

  change-lowers : (n i p : ℕ) (a u : Ids) → n + i ≡ p + p → IsChain K p a → IsChain K p (coboundary K u) → Lowers K p u → Lowers K n (change i a u)
  change-lowers n i p a u e A D U =
      lowers-plus n (plus (cup K (suc i) a (coboundary K u)) (cup K i u (coboundary K u))) (cup_below K i u u)
      (lowers-plus n (cup K (suc i) a (coboundary K u)) (cup K i u (coboundary K u))
      (λ x m. let found = cup-degree K ok (suc i) p p a (coboundary K u) A D x m in (found.0, omega (arith, e, found.1)))
      (cup-lowers_left K ok i n p p u (coboundary K u) e U D))
      (change-below n i p u e U)

  pub square-cohomologous : (k p : ℕ) (a b : Ids) → AreCohomologous K p a b → AreCohomologous K (p + k) (square K k p a) (square K k p b)
  square-cohomologous k p a b E = ⊎_elim
      (λ (beyond : p < k). cohomologous-same K ok (p + k) (square K k p a) (square K k p b) (square-cocycle k p a E.first)
      (square-beyond K k p a beyond ∙ sym (square-beyond K k p b beyond)))
      (λ (small : k ≤ p). cohomologous-plus K ok (p + k) (square K k p a) (square K k p b) (change (p - k) a u.by)
      (square-cocycle k p a E.first)
      (square-cocycle k p b E.second)
      (change-lowers (p + k) (p - k) p a u.by (omega arith) E.first.cochain (subst (IsChain K p) u.is sum) u.lowers)
      ((λ j. plus (square-small K k p a small j) (square-small K k p b small j))
      ∙ plus-comm (cup K (p - k) a a) (cup K (p - k) b b)
      ∙ ap (λ z. plus (cup K (p - k) z z) (cup K (p - k) a a)) (sym (plus-twice a b) ∙ ap (plus a) u.is)
      ∙ square-change K ok (p - k) a (cocycle-closed K p a E.first) u.by))
      (cases_lt p k)
    where
      u : Bounded K p (plus a b)
      u = difference-bounded K ok p a b E

      sum : IsChain K p (plus a b)
      sum = plus-chain K p a b E.first.cochain E.second.cochain

  pub square-class : (k p : ℕ) (a b : Ids) → IsCocycle K p a → IsCocycle K p b → class_of K p a ≡ class_of K p b
      → class_of K (p + k) (square K k p a) ≡ class_of K (p + k) (square K k p b)
  square-class k p a b A B e =
      class-cohomologous K ok (p + k) (square K k p a) (square K k p b) (square-cohomologous k p a b (cohomologous-class K ok p a b A B e))
