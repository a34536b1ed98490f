-- Products of cocycles and their classes.
--     Lowers K n w             the members of w are simplices of dimension n - 1, so none for n = 0
--     bounds                   the coboundary of such a set is a coboundary of degree n
--     bounding                 each coboundary of degree n is one
--     cup-chain, cup_below-chain, cup-lowers     degrees of products
--     cohomologous-plus, cohomologous-same, cohomologous-chained
--                              cohomologous cocycles: from a sum, from equality, in a row
--     class-cohomologous, cohomologous-class     they are those with one class word
--     product-cocycle, product-cohomologous, product-commutes
--                              the laws in src/product_laws.rt
use Rattle.std.proofs.Common.{◌≡◌, ℕ, zero, suc, ◌+◌, ◌<◌, ◌≤◌, true, false, length, sym, ap, ◌∙◌, subst, arith, ⊎_elim}
use Rattle.std.proofs.lemmas.Bool.{true≢false, false_from_ne_true, cases_lt}
use Rattle.homology.specs.Sets.{Ids, empty, plus}
use Rattle.homology.specs.Complexes.{Complex, IsComplex, dim}
use Rattle.homology.specs.Chains.{IsChain, IsCocycle, IsCoboundary, AreCohomologous, coboundary}
use Rattle.homology.specs.Contractions.{cycle_of}
use Rattle.homology.proofs.SetLaws.{same_members, plus-comm, plus-self, plus-empty}
use Rattle.homology.proofs.ContractionFacts.{plus-chain}
use Rattle.factors.proofs.Existence.{contraction-exists}
use Rattle.cohomology.specs.Classes.{class_of}
use Rattle.cohomology.proofs.ClassLaws.{empty-coboundary, plus-coboundary, sums-last, class-same, class-differ}
use Rattle.products.specs.Products.{cup}
use Rattle.products.proofs.CoboundaryLaw.{coboundary-outside, cup-degree, cup-plus_left}
use Rattle.cohomology_operations.proofs.ChangeLaws.{coboundary-empty, cocycle-closed, cup-none_left, coboundary-right, coboundary-both, cup-exchanged}

abbrev pub Lowers : Complex → ℕ → Ids → Type 0
Lowers K n w = (x : ℕ) → w x ≡ true → (x < length K) × (dim K x + 1 ≡ n)

pub bounds : (K : Complex) (n : ℕ) (w e : Ids) → Lowers K n w → e ≡ coboundary K w → IsCoboundary K n e
bounds K zero w e low is =
    is
    ∙ ap (coboundary K) (same_members w empty (λ x. false_from_ne_true (w x) (λ m. omega (arith, (low x m).1))))
    ∙ coboundary-empty K
bounds K (suc n) w e low is =
    (w, record { there = λ x m. (low x m).0; degree = λ x m. omega (arith, (low x m).1) }, λ x lt. ap (λ z. z x) is)

-- what a coboundary is the coboundary of
pub record Bounded (K : Complex) (n : ℕ) (e : Ids) : Type 0 where
  pub by : Ids
  pub lowers : Lowers K n by
  pub is : e ≡ coboundary K by

pub bounding : (K : Complex) (n : ℕ) (e : Ids) → IsChain K n e → IsCoboundary K n e → Bounded K n e
bounding K zero e chain none = record {
  by = empty;
  lowers = λ x m. absurd (true≢false (sym m));
  is = none ∙ sym (coboundary-empty K);
}
bounding K (suc n) e chain u = record {
  by = u.0;
  lowers = λ x m. let d : dim K x ≡ n = u.1.degree x m in (u.1.there x m, omega arith);
  is = same_members e (coboundary K u.0) (λ x. ⊎_elim
      (λ (lt : x < length K). u.2 x lt)
      (λ (le : length K ≤ x). outside x le ∙ sym (coboundary-outside K u.0 x le))
      (cases_lt x (length K)));
}
  where
    outside : (x : ℕ) → length K ≤ x → e x ≡ false
    outside x le = false_from_ne_true (e x) (λ m. omega (arith, chain.there x m))

module _ (K : Complex) (ok : IsComplex K) where
  pub cup-chain : (i n p q : ℕ) (a b : Ids) → n + i ≡ p + q → IsChain K p a → IsChain K q b → IsChain K n (cup K i a b)
  cup-chain i n p q a b e A B = record {
    there = λ x m. (cup-degree K ok i p q a b A B x m).0;
    degree = λ x m. omega (arith, e, (cup-degree K ok i p q a b A B x m).1);
  }

  -- a product of which the first factor lowers
  pub cup-lowers_left : (i n p q : ℕ) (u b : Ids) → n + i ≡ p + q → Lowers K p u → IsChain K q b → Lowers K n (cup K i u b)
  cup-lowers_left i n zero q u b e U B x m = absurd (true≢false (sym m ∙ ap (λ z. cup K i z b x) none ∙ ap (λ z. z x) (cup-none_left K i b)))
    where
      none : u ≡ empty
      none = same_members u empty (λ y. false_from_ne_true (u y) (λ h. omega (arith, (U y h).1)))
  cup-lowers_left i n (suc p) q u b e U B x m =
      let found : (x < length K) × (dim K x + i ≡ p + q) = cup-degree K ok i p q u b lower B x m in
      (found.0, omega (arith, e, found.1))
    where
      lower : IsChain K p u
      lower = record { there = λ y h. (U y h).0; degree = λ y h. omega (arith, (U y h).1) }

  pub cohomologous-plus : (n : ℕ) (a b w : Ids) → IsCocycle K n a → IsCocycle K n b → Lowers K n w → plus a b ≡ coboundary K w
      → AreCohomologous K n a b
  cohomologous-plus n a b w A B low is = record { first = A; second = B; differ_by_coboundary = bounds K n w (plus a b) low is }

  pub cohomologous-same : (n : ℕ) (a b : Ids) → IsCocycle K n a → a ≡ b → AreCohomologous K n a b
  cohomologous-same n a b A e = subst (AreCohomologous K n a) e (record {
    first = A;
    second = A;
    differ_by_coboundary = subst (IsCoboundary K n) (sym (plus-self a)) (empty-coboundary K n);
  })

  pub cohomologous-chained : (n : ℕ) (a b c : Ids) → AreCohomologous K n a b → AreCohomologous K n b c → AreCohomologous K n a c
  cohomologous-chained n a b c E F = record {
    first = E.first;
    second = F.second;
    differ_by_coboundary = subst (IsCoboundary K n) (joined a b c)
        (plus-coboundary K n (plus a b) (plus b c) E.differ_by_coboundary F.differ_by_coboundary);
  }
    where
      joined : (a b c : Ids) → plus (plus a b) (plus b c) ≡ plus a c
      joined a b c = ap (plus (plus a b)) (plus-comm b c) ∙ sums-last a c b

  -- the difference of cohomologous cocycles
  pub difference-bounded : (n : ℕ) (a b : Ids) → AreCohomologous K n a b → Bounded K n (plus a b)
  difference-bounded n a b E = bounding K n (plus a b) (plus-chain K n a b E.first.cochain E.second.cochain) E.differ_by_coboundary

  pub class-cohomologous : (n : ℕ) (a b : Ids) → AreCohomologous K n a b → class_of K n a ≡ class_of K n b
  class-cohomologous n a b E =
      let H = contraction-exists K ok in
      class-same K ok H.f (cycle_of K H.phi) H.phi H.is n a b E.first E.second E.differ_by_coboundary

  pub cohomologous-class : (n : ℕ) (a b : Ids) → IsCocycle K n a → IsCocycle K n b → class_of K n a ≡ class_of K n b → AreCohomologous K n a b
  cohomologous-class n a b A B e =
      let H = contraction-exists K ok in
      record { first = A; second = B; differ_by_coboundary = class-differ K ok H.f (cycle_of K H.phi) H.phi H.is n a b A B e }

  pub product-cocycle : (p q : ℕ) (a b : Ids) → IsCocycle K p a → IsCocycle K q b → IsCocycle K (p + q) (cup K 0 a b)
  product-cocycle p q a b A B = record {
    cochain = cup-chain 0 (p + q) p q a b (omega arith) A.cochain B.cochain;
    closed = λ x lt. ap (λ z. z x) (coboundary-both K ok 0 a b (cocycle-closed K p a A) (cocycle-closed K q b B));
  }

  -- with one factor exchanged for another
  product-left : (p q : ℕ) (a c b : Ids) → AreCohomologous K p a c → IsCocycle K q b → AreCohomologous K (p + q) (cup K 0 a b) (cup K 0 c b)
  product-left p q a c b E B =
      let u : Bounded K p (plus a c) = difference-bounded p a c E in
      cohomologous-plus (p + q) (cup K 0 a b) (cup K 0 c b) (cup K 0 u.by b)
      (product-cocycle p q a b E.first B) (product-cocycle p q c b E.second B)
      (cup-lowers_left 0 (p + q) p q u.by b (omega arith) u.lowers B.cochain)
      (sym (cup-plus_left K 0 a c b)
      ∙ ap (λ z. cup K 0 z b) u.is
      ∙ sym (coboundary-right K ok 0 u.by b (cocycle-closed K q b B) ∙ plus-empty (cup K 0 (coboundary K u.by) b)))

  pub product-commutes : (p q : ℕ) (a b : Ids) → IsCocycle K p a → IsCocycle K q b → AreCohomologous K (p + q) (cup K 0 a b) (cup K 0 b a)
  product-commutes p q a b A B = cohomologous-plus (p + q) (cup K 0 a b) (cup K 0 b a) (cup K 1 a b)
      (product-cocycle p q a b A B)
      (subst (λ n. IsCocycle K n (cup K 0 b a)) (turned p q) (product-cocycle q p b a B A))
      (λ x m. let found = cup-degree K ok 1 p q a b A.cochain B.cochain x m in (found.0, found.1))
      (cup-exchanged K ok 0 a b (cocycle-closed K p a A) (cocycle-closed K q b B))
    where
      turned : (p q : ℕ) → q + p ≡ p + q
      turned p q = omega arith

  product-right : (p q : ℕ) (a b d : Ids) → IsCocycle K p a → AreCohomologous K q b d → AreCohomologous K (p + q) (cup K 0 a b) (cup K 0 a d)
  product-right p q a b d A E =
      cohomologous-chained (p + q) (cup K 0 a b) (cup K 0 b a) (cup K 0 a d) (product-commutes p q a b A E.first)
      (cohomologous-chained (p + q) (cup K 0 b a) (cup K 0 d a) (cup K 0 a d)
      (subst (λ n. AreCohomologous K n (cup K 0 b a) (cup K 0 d a)) (turned p q) (product-left q p b d a E A))
      (subst (λ n. AreCohomologous K n (cup K 0 d a) (cup K 0 a d)) (turned p q) (product-commutes q p d a E.second A)))
    where
      turned : (p q : ℕ) → q + p ≡ p + q
      turned p q = omega arith

  pub product-cohomologous : (p q : ℕ) (a c b d : Ids) → AreCohomologous K p a c → AreCohomologous K q b d
      → AreCohomologous K (p + q) (cup K 0 a b) (cup K 0 c d)
  product-cohomologous p q a c b d E F =
      cohomologous-chained (p + q) (cup K 0 a b) (cup K 0 c b) (cup K 0 c d)
      (product-left p q a c b E F.first) (product-right p q c b d E.second F)

  pub product-class : (p q : ℕ) (a c b d : Ids) → IsCocycle K p a → IsCocycle K p c → IsCocycle K q b → IsCocycle K q d
      → class_of K p a ≡ class_of K p c → class_of K q b ≡ class_of K q d
      → class_of K (p + q) (cup K 0 a b) ≡ class_of K (p + q) (cup K 0 c d)
  product-class p q a c b d A C B D e f =
      class-cohomologous (p + q) (cup K 0 a b) (cup K 0 c d)
      (product-cohomologous p q a c b d (cohomologous-class p a c A C e) (cohomologous-class q b d B D f))
