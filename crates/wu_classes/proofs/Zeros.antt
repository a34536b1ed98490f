-- The zero cochain. K is a complex.
--     none-empty, no-items     a list without members
--     zero-word            it is the canonical cocycle of the empty class word
--     zero-closed          it is a cocycle
--     zero-class           its class word is empty
--     zero-square          and so are its squares
use Rattle.std.proofs.Common.{◌≡◌, ℕ, ◌-◌, ◌<◌, ◌≤◌, List, [], ◌∷◌, length, refl, sym, ap, ◌∙◌, subst, arith, ⊎_elim}
use Rattle.std.proofs.lemmas.Bool.{cases_lt}
use Rattle.homology.specs.Sets.{Ids, empty, set_of}
use Rattle.homology.specs.Complexes.{Complex, IsComplex}
use Rattle.homology.specs.Contractions.{cycle_of}
use Rattle.factors.proofs.Existence.{contraction-exists}
use Rattle.cohomology.specs.Classes.{class_of}
use Rattle.cohomology.proofs.ClassLaws.{canonical-empty, class-zero, empty-coboundary}
use Rattle.cohomology_operations.specs.Squares.{square}
use Rattle.cohomology_operations.proofs.ChangeLaws.{cup-none_left}
use Rattle.cohomology_operations.proofs.SquareLaws.{square-beyond, square-small}
use Rattle.characteristic_classes.specs.Pairings.{cocycle}
use Rattle.characteristic_classes.proofs.SquareLaws.{empty-cocycle}
use Rattle.class_solver.specs.Refusals.{IsTestedCocycle}
use Rattle.class_solver.proofs.TestedCocycles.{tested-cocycle}

pub none-empty : (xs : List ℕ) → length xs ≡ 0 → set_of xs ≡ empty
none-empty [] none = refl
none-empty (x ∷ xs) none = absurd (omega (arith, none))

pub no-items : (xs : List ℕ) → length xs ≡ 0 → xs ≡ []
no-items [] none = refl
no-items (x ∷ xs) none = absurd (omega (arith, none))

module _ (K : Complex) (ok : IsComplex K) where
  pub zero-word : (p : ℕ) (w : List ℕ) → w ≡ [] → cocycle K p w ≡ empty
  zero-word p w none =
      ap (cocycle K p) none
      ∙ (let H = contraction-exists K ok in canonical-empty K ok H.f (cycle_of K H.phi) H.phi H.is p)

  pub zero-closed : (p : ℕ) (a : Ids) → a ≡ empty → IsTestedCocycle K p a
  zero-closed p a none = subst (IsTestedCocycle K p) (sym none) (tested-cocycle K p empty (empty-cocycle K p))

  pub zero-class : (p : ℕ) (a : Ids) → a ≡ empty → class_of K p a ≡ []
  zero-class p a none =
      ap (class_of K p) none
      ∙ (let H = contraction-exists K ok in class-zero K ok H.f (cycle_of K H.phi) H.phi H.is p empty (empty-cocycle K p) (empty-coboundary K p))

pub zero-square : (K : Complex) (k q : ℕ) (a : Ids) → a ≡ empty → square K k q a ≡ empty
zero-square K k q a none = ap (square K k q) none ∙ ⊎_elim
    (λ (lt : q < k). square-beyond K k q empty lt)
    (λ (le : k ≤ q). square-small K k q empty le ∙ cup-none_left K (q - k) empty)
    (cases_lt q k)
