-- The Bockstein of cocycles, which is their Sq^1.
--     numbers-even             at a simplex without a coboundary the faces of both parities are as many, modulo 2
--     bockstein-pairs           there the Bockstein sums over the pairs of faces of one parity
--     bockstein-square          it is Sq^1
--     bockstein-cocycle, bockstein-cohomologous, bockstein-class, bockstein-sum
--                               the laws of that square
use Rattle.std.proofs.Common.{◌≡◌, ℕ, zero, suc, ◌+◌, ◌-◌, ◌/◌, ◌%◌, ◌<◌, ◌≤◌, Bool, true, false, [], length, nat_eq, refl, sym, ap, ◌∙◌, subst, arith, eqb-true, eq-eqb, ⊎_elim}
use Rattle.std.proofs.lemmas.Bool.{true≢false, false_from_ne_true, cases_lt}
use Rattle.std.proofs.lemmas.List.{get_or_past}
use Rattle.homology.specs.Parity.{xor}
use Rattle.homology.specs.Sets.{Ids, empty, plus}
use Rattle.homology.specs.Complexes.{Complex, IsComplex, simplex_at, dim}
use Rattle.homology.specs.Chains.{IsCocycle, AreCohomologous, coboundary}
use Rattle.homology.proofs.SetLaws.{same_members}
use Rattle.homology.proofs.FaceLists.{Picks-self}
use Rattle.cohomology.specs.Classes.{class_of}
use Rattle.cohomology.proofs.Cocycles.{plus-cocycle}
use Rattle.products.specs.Products.{value_at, cup}
use Rattle.products.proofs.HalfLaws.{meets}
use Rattle.products.proofs.ValueLaws.{value_at-there, value_at-coboundary}
use Rattle.products.proofs.CoboundaryLaw.{value_at-length, cup-weigh}
use Rattle.cohomology_operations.specs.Squares.{square}
use Rattle.cohomology_operations.specs.Bocksteins.{faces_with, difference, bockstein}
use Rattle.cohomology_operations.proofs.SquareLaws.{square-small, square-beyond, square-cocycle, square-cohomologous, square-class, square-additive}
use Rattle.cohomology_operations.proofs.CountLaws.{parity, half-difference, difference-even, number, number-odd, odd_number-both, faces_with-number}
use Rattle.cohomology_operations.proofs.PairLaws.{weigh-two, pairs, two-pairs, pairs-none, pairs-edge, pairs-halves}

bockstein-is : (K : Complex) (a : Ids) (x : ℕ)
    → bockstein K a x ≡ parity (difference (number true (value_at K a) (simplex_at K x)) (number false (value_at K a) (simplex_at K x)) / 2)
unfolding bockstein
bockstein-is K a x = λ i. parity (difference
    (faces_with-number true (value_at K a) (simplex_at K x) i)
    (faces_with-number false (value_at K a) (simplex_at K x) i) / 2)

pub bockstein-outside : (K : Complex) (a : Ids) (x : ℕ) → length K ≤ x → bockstein K a x ≡ false
bockstein-outside K a x out =
    bockstein-is K a x
    ∙ ap (λ s. parity (difference (number true (value_at K a) s) (number false (value_at K a) s) / 2)) (get_or_past K x [] out)

module _ (K : Complex) (ok : IsComplex K) where
  numbers-even : (a : Ids) (x : ℕ) → x < length K → coboundary K a x ≡ false
      → xor (parity (number true (value_at K a) (simplex_at K x))) (parity (number false (value_at K a) (simplex_at K x))) ≡ false
  numbers-even a x lt e =
      sym (λ i. xor (number-odd true (value_at K a) (simplex_at K x) i) (number-odd false (value_at K a) (simplex_at K x) i))
      ∙ odd_number-both (value_at K a) (simplex_at K x)
      ∙ sym (value_at-coboundary K ok a x (simplex_at K x) lt (Picks-self (simplex_at K x)))
      ∙ value_at-there K ok (coboundary K a) x lt
      ∙ e

  pub faces-even : (a : Ids) (x : ℕ) → x < length K → coboundary K a x ≡ false
      → difference (faces_with (value_at K a) 0 (simplex_at K x)) (faces_with (value_at K a) 1 (simplex_at K x)) % 2 ≡ 0
  faces-even a x lt e =
      (λ i. difference
      (faces_with-number true (value_at K a) (simplex_at K x) i)
      (faces_with-number false (value_at K a) (simplex_at K x) i) % 2)
      ∙ difference-even (number true (value_at K a) (simplex_at K x)) (number false (value_at K a) (simplex_at K x)) (numbers-even a x lt e)

  bockstein-pairs : (a : Ids) (x : ℕ) → x < length K → coboundary K a x ≡ false → bockstein K a x ≡ pairs (value_at K a) (simplex_at K x)
  bockstein-pairs a x lt e =
      bockstein-is K a x
      ∙ half-difference (number true (value_at K a) (simplex_at K x)) (number false (value_at K a) (simplex_at K x)) (numbers-even a x lt e)
      ∙ sym (pairs-halves (value_at K a) (simplex_at K x))

  -- no face of x has the degree of a
  pairs-other : (p : ℕ) (a : Ids) (x : ℕ) → IsCocycle K p a → nat_eq (length (simplex_at K x)) (p + 2) ≡ false
      → pairs (value_at K a) (simplex_at K x) ≡ false
  pairs-other p a x A apart = pairs-none (value_at K a) (simplex_at K x) (λ t e h.
      let long : length t ≡ p + 1 = value_at-length K ok p a A.cochain t e in
      true≢false (sym (eq-eqb (length (simplex_at K x)) (p + 2) (omega (arith, long, h))) ∙ apart))

  pairs-square : (p : ℕ) (a : Ids) (x : ℕ) → x < length K → IsCocycle K p a
      → (b : Bool) → nat_eq (length (simplex_at K x)) (p + 2) ≡ b → pairs (value_at K a) (simplex_at K x) ≡ square K 1 p a x
  pairs-square zero a x lt A true e =
      let long : length (simplex_at K x) ≡ 2 = omega (arith, eqb-true (length (simplex_at K x)) (0 + 2) e) in
      pairs-edge (value_at K a) (simplex_at K x) (sym long)
  pairs-square zero a x lt A false e = pairs-other zero a x A e
  pairs-square (suc p) a x lt A true e =
      let long : length (simplex_at K x) ≡ suc p + 2 = eqb-true (length (simplex_at K x)) (suc p + 2) e in
      sym (ap (λ z. z x) (square-small K 1 (suc p) a (omega arith))
      ∙ ap (λ i. cup K i a a x) one_less
      ∙ cup-weigh K p a a x
      ∙ weigh-two (suc p) true (simplex_at K x) (meets (value_at K a) (value_at K a)) (omega (arith, long))
      ∙ two-pairs true (simplex_at K x) (value_at K a)
      (λ t h. let short : length t ≡ suc p + 1 = value_at-length K ok (suc p) a A.cochain t h in omega (arith, long, short)))
    where
      one_less : suc p - 1 ≡ p
      one_less = omega arith
  pairs-square (suc p) a x lt A false e =
      pairs-other (suc p) a x A e
      ∙ sym (false_from_ne_true (square K 1 (suc p) a x) (λ m.
      let found : (x < length K) × (dim K x + 1 ≡ suc p + 1 + 1) = degree (square-cocycle K ok 1 (suc p) a A) m in
      true≢false (sym (eq-eqb (length (simplex_at K x)) (suc p + 2) (omega (arith, found.1, (ok.simplices x lt).nonempty))) ∙ e)))
    where
      degree : IsCocycle K (suc p + 1) (square K 1 (suc p) a) → square K 1 (suc p) a x ≡ true → (x < length K) × (dim K x + 1 ≡ suc p + 1 + 1)
      degree S m = let d : dim K x ≡ suc p + 1 = S.cochain.degree x m in (S.cochain.there x m, omega (arith, d))

  pub bockstein-square : (p : ℕ) (a : Ids) → IsCocycle K p a → bockstein K a ≡ square K 1 p a
  bockstein-square p a A = same_members (bockstein K a) (square K 1 p a) (λ x. ⊎_elim
      (λ (lt : x < length K).
      bockstein-pairs a x lt (A.closed x lt) ∙ pairs-square p a x lt A (nat_eq (length (simplex_at K x)) (p + 2)) refl)
      (λ (le : length K ≤ x).
      bockstein-outside K a x le
      ∙ sym (false_from_ne_true (square K 1 p a x) (λ m. omega (arith, (square-cocycle K ok 1 p a A).cochain.there x m))))
      (cases_lt x (length K)))

  pub bockstein-zero : (a : Ids) → IsCocycle K 0 a → bockstein K a ≡ empty
  bockstein-zero a A = bockstein-square 0 a A ∙ square-beyond K 1 0 a (omega arith)

  pub bockstein-cocycle : (p : ℕ) (a : Ids) → IsCocycle K p a → IsCocycle K (p + 1) (bockstein K a)
  bockstein-cocycle p a A = subst (IsCocycle K (p + 1)) (sym (bockstein-square p a A)) (square-cocycle K ok 1 p a A)

  pub bockstein-cohomologous : (p : ℕ) (a b : Ids) → AreCohomologous K p a b → AreCohomologous K (p + 1) (bockstein K a) (bockstein K b)
  bockstein-cohomologous p a b E =
      subst (λ z. AreCohomologous K (p + 1) z (bockstein K b)) (sym (bockstein-square p a E.first))
      (subst (AreCohomologous K (p + 1) (square K 1 p a)) (sym (bockstein-square p b E.second)) (square-cohomologous K ok 1 p a b E))

  pub bockstein-class : (p : ℕ) (a b : Ids) → IsCocycle K p a → IsCocycle K p b → class_of K p a ≡ class_of K p b
      → class_of K (p + 1) (bockstein K a) ≡ class_of K (p + 1) (bockstein K b)
  bockstein-class p a b A B e =
      ap (class_of K (p + 1)) (bockstein-square p a A)
      ∙ square-class K ok 1 p a b A B e
      ∙ sym (ap (class_of K (p + 1)) (bockstein-square p b B))

  pub bockstein-sum : (p : ℕ) (a b : Ids) → IsCocycle K p a → IsCocycle K p b
      → AreCohomologous K (p + 1) (bockstein K (plus a b)) (plus (bockstein K a) (bockstein K b))
  bockstein-sum p a b A B =
      subst (λ z. AreCohomologous K (p + 1) z (plus (bockstein K a) (bockstein K b))) (sym (bockstein-square p (plus a b) (plus-cocycle K p a b A B)))
      (subst (AreCohomologous K (p + 1) (square K 1 p (plus a b)))
      (λ i. plus (sym (bockstein-square p a A) i) (sym (bockstein-square p b B) i))
      (square-additive K ok 1 p a b A B))
