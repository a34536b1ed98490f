-- Cocycles of one class.
--     cohomologous-degrees, cohomologous-sound     what passes the test has one degree, and is cohomologous
--     cohomologous-found                    cohomologous cocycles pass it
--     cohomologous-apart                           cocycles of two degrees do not
--     zero-sum                              the sum of cohomologous cocycles is a cocycle of the zero class
--     Difference, first-difference          cocycles of one degree that do not pass have a first number at which their class words differ
--     products-zero, squares-zero, bocksteins-zero      sums of results
use Rattle.std.proofs.Common.{◌≡◌, ◌≢◌, ℕ, ◌+◌, ◌<◌, Bool, true, false, ◌||◌, List, [], ◌∷◌, cond, nat_eq, Result, Ok, Err, refl, sym, ap, ◌∙◌, subst, arith, eqb-true}
use Rattle.homology.specs.Parity.{xor}
use Rattle.homology.specs.Sets.{Ids, plus, set_of}
use Rattle.homology.specs.Complexes.{Complex, IsComplex, simplex_at}
use Rattle.homology.specs.Chains.{IsCocycle, AreCohomologous}
use Rattle.homology.specs.Kinds.{betti}
use Rattle.homology.specs.Contractions.{cycle_of}
use Rattle.homology.proofs.ParityLaws.{nat_eq-self, nat_eq-apart}
use Rattle.homology.proofs.ListSetLaws.{Rises, Rises-ascending, set_of-below}
use Rattle.factors.specs.Factors.{HasContraction}
use Rattle.factors.proofs.Existence.{contraction-exists}
use Rattle.cohomology.specs.Classes.{IsClass, essential_at, class_of}
use Rattle.cohomology.proofs.Cocycles.{plus-cocycle}
use Rattle.cohomology.proofs.ClassLaws.{class-found, class-zero, class-bounds, class_of-sum}
use Rattle.products.specs.Products.{cup}
use Rattle.cohomology_operations.specs.Squares.{square}
use Rattle.cohomology_operations.specs.Bocksteins.{bockstein}
use Rattle.cohomology_operations.specs.Cohomologous.{NotCohomologous, Degrees, Differs, is_zero, cohomologous}
use Rattle.cohomology_operations.proofs.ClassLaws.{product-cohomologous}
use Rattle.cohomology_operations.proofs.SquareLaws.{square-cohomologous}
use Rattle.cohomology_operations.proofs.BocksteinLaws.{bockstein-cohomologous}

passes : (t : Bool) (v : Result (Unit {0}) NotCohomologous) (why : NotCohomologous) → cond t v (Err why) ≡ Ok tt → (t ≡ true) × (v ≡ Ok tt)
passes true v why e = (refl, e)
passes false v why e = absurd (cc)

zero-none : (K : Complex) (p : ℕ) (w : List ℕ) → is_zero K p w ≡ Ok tt → w ≡ []
zero-none K p [] e = refl
zero-none K p (k ∷ w) e = absurd (cc)

pub cohomologous-degrees : (K : Complex) (p q : ℕ) (a b : Ids) → cohomologous K (p, a) (q, b) ≡ Ok tt → p ≡ q
cohomologous-degrees K p q a b e = eqb-true p q (passes (nat_eq p q) (is_zero K p (class_of K p (plus a b))) (Degrees p q) e).0

pub cohomologous-apart : (K : Complex) (p q : ℕ) (a b : Ids) → p ≢ q → cohomologous K (p, a) (q, b) ≡ Err (Degrees p q)
cohomologous-apart K p q a b apart = ap (λ t. cond t (is_zero K p (class_of K p (plus a b))) (Err (Degrees p q))) (nat_eq-apart p q apart)

-- of one degree
pub cohomologous-one : (K : Complex) (p : ℕ) (a b : Ids) → cohomologous K (p, a) (p, b) ≡ is_zero K p (class_of K p (plus a b))
cohomologous-one K p a b = ap (λ t. cond t (is_zero K p (class_of K p (plus a b))) (Err (Degrees p p))) (nat_eq-self p)

-- a number that begins a word
pub record Difference (K : Complex) (p : ℕ) (a b : Ids) (why : NotCohomologous) : Type 0 where
  pub number : ℕ
  pub is : why ≡ Differs (simplex_at K (essential_at K p number))
  pub below : number < betti K p
  pub there : set_of (class_of K p a) number ≢ set_of (class_of K p b) number
  pub before : (j : ℕ) → j < number → set_of (class_of K p a) j ≡ set_of (class_of K p b) j

differ : (c d : Bool) → true ≡ xor c d → c ≢ d
differ true true e = absurd (cc)
differ true false e = λ f. absurd (cc)
differ false true e = λ f. absurd (cc)
differ false false e = absurd (cc)

same : (c d : Bool) → false ≡ xor c d → c ≡ d
same true true e = refl
same true false e = absurd (cc)
same false true e = absurd (cc)
same false false e = refl

module _ (K : Complex) (ok : IsComplex K) where
  pub zero-sum : (n : ℕ) (a b : Ids) → AreCohomologous K n a b → IsCocycle K n (plus a b) × (class_of K n (plus a b) ≡ [])
  zero-sum n a b E =
      let H = contraction-exists K ok in
      let S : IsCocycle K n (plus a b) = plus-cocycle K n a b E.first E.second in
      (S, class-zero K ok H.f (cycle_of K H.phi) H.phi H.is n (plus a b) S E.differ_by_coboundary)

  pub cohomologous-found : (p : ℕ) (a b : Ids) → AreCohomologous K p a b → cohomologous K (p, a) (p, b) ≡ Ok tt
  cohomologous-found p a b E = cohomologous-one K p a b ∙ ap (is_zero K p) (zero-sum p a b E).1

  pub cohomologous-sound : (p q : ℕ) (a b : Ids) → IsCocycle K p a → IsCocycle K q b → cohomologous K (p, a) (q, b) ≡ Ok tt → AreCohomologous K p a b
  cohomologous-sound p q a b A B e =
      let H = contraction-exists K ok in
      let B2 : IsCocycle K p b = subst (λ n. IsCocycle K n b) (sym (cohomologous-degrees K p q a b e)) B in
      let none : class_of K p (plus a b) ≡ [] =
      zero-none K p (class_of K p (plus a b)) (passes (nat_eq p q) (is_zero K p (class_of K p (plus a b))) (Degrees p q) e).1 in
      record {
        first = A;
        second = B2;
        differ_by_coboundary = class-bounds K ok H.f (cycle_of K H.phi) H.phi H.is p (plus a b) (plus-cocycle K p a b A B2) none;
      }

  pub first-difference : (p : ℕ) (a b : Ids) → IsCocycle K p a → IsCocycle K p b → (why : NotCohomologous) → cohomologous K (p, a) (p, b) ≡ Err why → Difference K p a b why
  first-difference p a b A B why e = by (class_of K p (plus a b)) word sums (sym (cohomologous-one K p a b) ∙ e)
    where
      H : HasContraction K
      H = contraction-exists K ok

      word : IsClass K p (class_of K p (plus a b))
      word = (class-found K ok H.f (cycle_of K H.phi) H.phi H.is p (plus a b) (plus-cocycle K p a b A B)).0

      sums : set_of (class_of K p (plus a b)) ≡ plus (set_of (class_of K p a)) (set_of (class_of K p b))
      sums = class_of-sum K ok H.f (cycle_of K H.phi) H.phi H.is p a b A B

      by : (w : List ℕ) → IsClass K p w → set_of w ≡ plus (set_of (class_of K p a)) (set_of (class_of K p b)) → is_zero K p w ≡ Err why → Difference K p a b why
      by [] W is e = absurd (cc)
      by (k ∷ w) W is e = record {
        number = k;
        is = cc;
        below = W.numbers 0 0 (omega arith);
        there = differ (set_of (class_of K p a) k) (set_of (class_of K p b) k) (sym here ∙ ap (λ z. z k) is);
        before = λ j lt. same (set_of (class_of K p a) j) (set_of (class_of K p b) j) (sym (earlier j lt) ∙ ap (λ z. z j) is);
      }
        where
          here : set_of (k ∷ w) k ≡ true
          here = ap (λ t. t || set_of w k) (nat_eq-self k)

          earlier : (j : ℕ) → j < k → set_of (k ∷ w) j ≡ false
          earlier j lt =
              let rises : Rises 0 (k ∷ w) = Rises-ascending (k ∷ w) W.ascending in
              let rises_from : Rises k (k ∷ w) = (omega arith, rises.1) in
              set_of-below k (k ∷ w) j rises_from lt

  pub products-zero : (p p2 q q2 : ℕ) (a a2 b b2 : Ids) → IsCocycle K p a → IsCocycle K p2 a2 → IsCocycle K q b → IsCocycle K q2 b2
      → cohomologous K (p, a) (p2, a2) ≡ Ok tt → cohomologous K (q, b) (q2, b2) ≡ Ok tt → class_of K (p + q) (plus (cup K 0 a b) (cup K 0 a2 b2)) ≡ []
  products-zero p p2 q q2 a a2 b b2 A A2 B B2 e f =
      (zero-sum (p + q) (cup K 0 a b) (cup K 0 a2 b2)
      (product-cohomologous K ok p q a a2 b b2 (cohomologous-sound p p2 a a2 A A2 e) (cohomologous-sound q q2 b b2 B B2 f))).1

  pub squares-zero : (k p p2 : ℕ) (a a2 : Ids) → IsCocycle K p a → IsCocycle K p2 a2 → cohomologous K (p, a) (p2, a2) ≡ Ok tt
      → class_of K (p + k) (plus (square K k p a) (square K k p a2)) ≡ []
  squares-zero k p p2 a a2 A A2 e =
      (zero-sum (p + k) (square K k p a) (square K k p a2) (square-cohomologous K ok k p a a2 (cohomologous-sound p p2 a a2 A A2 e))).1

  pub bocksteins-zero : (p p2 : ℕ) (a a2 : Ids) → IsCocycle K p a → IsCocycle K p2 a2 → cohomologous K (p, a) (p2, a2) ≡ Ok tt
      → class_of K (p + 1) (plus (bockstein K a) (bockstein K a2)) ≡ []
  bocksteins-zero p p2 a a2 A A2 e =
      (zero-sum (p + 1) (bockstein K a) (bockstein K a2) (bockstein-cohomologous K ok p a a2 (cohomologous-sound p p2 a a2 A A2 e))).1
