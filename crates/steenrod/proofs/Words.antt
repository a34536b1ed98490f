-- From what the calls ensure to what is defined.
--     word-at, cocycle-at    a class word and a cocycle, where degree and cochain are known
--     product-choice, square-choice, bockstein-choice
--                            the class words of the results for other cocycles in the classes
--     square-identity        the class word of Sq^0
use Rattle.std.proofs.Common.{◌≡◌, ℕ, ◌+◌, List, sym, subst, ◌∙◌, arith}
use Rattle.homology.specs.Sets.{Ids}
use Rattle.homology.specs.Complexes.{Complex, IsComplex}
use Rattle.homology.specs.Chains.{IsChain, IsCocycle, AreCohomologous}
use Rattle.cohomology.specs.Classes.{class_of}
use Rattle.products.specs.Products.{cup}
use Rattle.cohomology_operations.specs.Squares.{square}
use Rattle.cohomology_operations.specs.Bocksteins.{bockstein}
use Rattle.cohomology_operations.proofs.ClassLaws.{class-cohomologous, product-cohomologous}
use Rattle.cohomology_operations.proofs.SquareLaws.{square-zero, square-cohomologous}
use Rattle.cohomology_operations.proofs.BocksteinLaws.{bockstein-cohomologous}

pub word-at : (K : Complex) (n m : ℕ) (z a : Ids) (w : List ℕ) → n ≡ m → z ≡ a → w ≡ class_of K n z → w ≡ class_of K m a
word-at K n m z a w e f is = is ∙ (λ i. class_of K (e i) (f i))

pub cocycle-at : (K : Complex) (n m : ℕ) (z a : Ids) → n ≡ m → z ≡ a → IsCocycle K m a → IsCocycle K n z
cocycle-at K n m z a e f A = subst (λ k. IsCocycle K k z) (sym e) (subst (IsCocycle K m) (sym f) A)

module _ (K : Complex) (ok : IsComplex K) where
  pub product-choice : (p q : ℕ) (a b : Ids) (w : List ℕ) → w ≡ class_of K (p + q) (cup K 0 a b)
      → (c d : Ids) → AreCohomologous K p a c → AreCohomologous K q b d → w ≡ class_of K (p + q) (cup K 0 c d)
  product-choice p q a b w is c d E F =
      is ∙ class-cohomologous K ok (p + q) (cup K 0 a b) (cup K 0 c d) (product-cohomologous K ok p q a c b d E F)

  pub square-choice : (k p : ℕ) (a : Ids) (w : List ℕ) → w ≡ class_of K (p + k) (square K k p a)
      → (c : Ids) → AreCohomologous K p a c → w ≡ class_of K (p + k) (square K k p c)
  square-choice k p a w is c E =
      is ∙ class-cohomologous K ok (p + k) (square K k p a) (square K k p c) (square-cohomologous K ok k p a c E)

  pub bockstein-choice : (p : ℕ) (a : Ids) (w : List ℕ) → w ≡ class_of K (p + 1) (bockstein K a)
      → (c : Ids) → AreCohomologous K p a c → w ≡ class_of K (p + 1) (bockstein K c)
  bockstein-choice p a w is c E =
      is ∙ class-cohomologous K ok (p + 1) (bockstein K a) (bockstein K c) (bockstein-cohomologous K ok p a c E)

  pub square-identity : (k p : ℕ) (a : Ids) (w : List ℕ) → IsChain K p a → w ≡ class_of K (p + k) (square K k p a) → k ≡ 0 → w ≡ class_of K p a
  square-identity k p a w A is e =
      let same : p + 0 ≡ p = omega arith in
      is ∙ (λ i. class_of K (p + e i) (square K (e i) p a)) ∙ (λ i. class_of K (same i) (square-zero K ok p a A i))
