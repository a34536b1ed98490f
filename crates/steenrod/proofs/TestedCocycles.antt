-- Lists of cochains of which the first are cocycles, and sums of cocycles.
--     none-below, tested-more      the first n of the cochains are cocycles: for 0, and for one more
--     sum-cocycle, sum-zero        the sum of two cocycles of one degree is one, and that of two cohomologous ones is of the zero class, where degree
--                                  and cochain are known
--     cohomologous-at              cohomologous cocycles, where degree and cochains are known
use Rattle.std.proofs.Common.{◌≡◌, ℕ, ◌+◌, ◌<◌, ◌⊎◌, inl, inr, List, [], sym, ap, ◌∙◌, subst, arith, None}
use Rattle.std.proofs.lemmas.Bool.{cases_order}
use Rattle.homology.specs.Sets.{Ids, plus}
use Rattle.homology.specs.Complexes.{Complex, IsComplex}
use Rattle.homology.specs.Chains.{IsCocycle, AreCohomologous}
use Rattle.cohomology.specs.Searches.{first_broken}
use Rattle.cohomology.specs.Classes.{class_of}
use Rattle.cohomology.proofs.Cocycles.{plus-cocycle}
use Rattle.cohomology_operations.proofs.CohomologousLaws.{zero-sum}
use Rattle.steenrod.specs.Refusals.{cochain_at, AreTestedBelow}
use Rattle.steenrod.proofs.Words.{cocycle-at}

pub none-below : (K : Complex) (cs : List Ids) → AreTestedBelow K cs 0
none-below K cs k lt = absurd (omega (arith, lt))

pub tested-more : (K : Complex) (cs : List Ids) (n : ℕ) (a : Ids) → AreTestedBelow K cs n → cochain_at cs n ≡ a → first_broken K a ≡ None
    → AreTestedBelow K cs (n + 1)
tested-more K cs n a before is none k lt = by (cases_order k n)
  where
    by : (k ≡ n) ⊎ ((k < n) ⊎ (n < k)) → first_broken K (cochain_at cs k) ≡ None
    by (inl same) = ap (λ j. first_broken K (cochain_at cs j)) same ∙ ap (first_broken K) is ∙ none
    by (inr (inl less)) = before k less
    by (inr (inr more)) = absurd (omega (arith, lt, more))

pub sum-cocycle : (K : Complex) (p q n : ℕ) (a b z : Ids) → IsCocycle K p a → IsCocycle K q b → p ≡ q → n ≡ p → z ≡ plus a b → IsCocycle K n z
sum-cocycle K p q n a b z A B same e f =
    cocycle-at K n p z (plus a b) e f (plus-cocycle K p a b A (subst (λ k. IsCocycle K k b) (sym same) B))

pub sum-zero : (K : Complex) → IsComplex K → (p n : ℕ) (a b z : Ids) → AreCohomologous K p a b → n ≡ p → z ≡ plus a b → class_of K n z ≡ []
sum-zero K ok p n a b z E e f = (λ i. class_of K (e i) (f i)) ∙ (zero-sum K ok p a b E).1

pub cohomologous-at : (K : Complex) (n m : ℕ) (y z a b : Ids) → n ≡ m → y ≡ a → z ≡ b → AreCohomologous K m a b → AreCohomologous K n y z
cohomologous-at K n m y z a b e f g E =
    subst (λ k. AreCohomologous K k y z) (sym e) (subst (λ w. AreCohomologous K m w z) (sym f) (subst (AreCohomologous K m a) (sym g) E))
