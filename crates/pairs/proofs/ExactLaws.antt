-- The exact sequence of a pair, by algebra on cochains of K.
--     restricted, included, connected     the three maps take cocycles to cocycles
--     coboundary-restricts        a coboundary of K restricts to one of A
--     coboundary-extends          a coboundary of A is the restriction of one of K
--     extended-cocycle, extended-restricts     a cocycle of A and a relative bound of its connecting cochain
--     shrunk-cocycle              a cocycle of K and a coboundary with the same members in A
--     lifted-cocycle, lifted-same the members in A of a bound in K of a relative cocycle
--     exact-part, part-exact      a cocycle of A whose connecting cochain is a relative coboundary comes from K, and back
--     exact-whole, whole-exact    a cocycle of K that is a coboundary on A comes from the pair, and back
--     exact-pair, pair-exact      a relative cocycle that is a coboundary of K comes from A, and back
use Rattle.std.proofs.Common.{◌≡◌, ℕ, zero, suc, ◌+◌, ◌<◌, ◌≤◌, length, refl, sym, ap, ◌∙◌, subst, arith, add-one, ⊎_elim}
use Rattle.std.proofs.lemmas.Bool.{cases_lt, false_from_ne_true}
use Rattle.homology.specs.Parity.{xor}
use Rattle.homology.specs.Sets.{Ids, empty, plus}
use Rattle.homology.specs.Complexes.{Complex, IsComplex}
use Rattle.homology.specs.Chains.{IsChain, IsCocycle, IsCoboundary, coboundary}
use Rattle.homology.proofs.ParityLaws.{xor-false, xor-self}
use Rattle.homology.proofs.SetLaws.{same_members, plus-assoc, plus-self, plus-empty, plus-twice}
use Rattle.homology.proofs.ContractionFacts.{plus-chain}
use Rattle.cohomology.proofs.Cocycles.{coboundary-plus, plus-cocycle}
use Rattle.cohomology.proofs.ClassLaws.{empty-chain, empty-coboundary}
use Rattle.cohomology.proofs.BoundLaws.{coboundary-cocycle}
use Rattle.products.proofs.CoboundaryLaw.{coboundary-outside}
use Rattle.pairs.specs.Pairs.{IsPart, moved, IsRelativeChain, IsRelativeCocycle, IsRelativeCoboundary}
use Rattle.pairs.specs.Sequences.{connecting_cochain}
use Rattle.pairs.specs.Exactness.{ComesFromWhole, ComesFromPair, ComesFromPart}
use Rattle.pairs.proofs.PartLaws.{moved-same, moved-plus, moved-empty, moved-chain, relative-none, none-relative, moved-back, coboundary-moved, coboundary-chain, coboundary-coboundary, cocycle-none}

pub included : (K A : Complex) (p : ℕ) (r : Ids) → IsRelativeCocycle K A p r → IsCocycle K p r
included K A p r R = record { cochain = R.cochain.chain; closed = R.closed }

pub connecting-plus : (K A : Complex) (a b : Ids) → connecting_cochain K A (plus a b) ≡ plus (connecting_cochain K A a) (connecting_cochain K A b)
connecting-plus K A a b = ap (coboundary K) (moved-plus A K a b) ∙ coboundary-plus K (moved A K a) (moved A K b)

-- a coboundary of K that restricts to e
record Extension (K A : Complex) (p : ℕ) (e : Ids) : Type 0 where
  pub whole : Ids
  pub chain : IsChain K p whole
  pub coboundary : IsCoboundary K p whole
  pub restricts : moved K A whole ≡ e

module _ (K A : Complex) (k : IsComplex K) (a_ok : IsComplex A) (part : IsPart K A) where
  pub restricted : (p : ℕ) (z : Ids) → IsCocycle K p z → IsCocycle A p (moved K A z)
  restricted p z cocycle = record {
    cochain = moved-chain K A p z cocycle.cochain;
    closed = λ x _. ap (λ c. c x)
        (coboundary-moved K A k a_ok part z ∙ ap (moved K A) (cocycle-none K p z cocycle) ∙ moved-empty K A);
  }

  -- the coboundary in K restricts to that in A
  connecting-restricts : (p : ℕ) (a : Ids) → IsChain A p a → moved K A (connecting_cochain K A a) ≡ coboundary A a
  connecting-restricts p a chain =
      sym (coboundary-moved K A k a_ok part (moved A K a)) ∙ ap (coboundary A) (moved-back K A k a_ok part p a chain)

  pub connected : (p : ℕ) (a : Ids) → IsCocycle A p a → IsRelativeCocycle K A (p + 1) (connecting_cochain K A a)
  connected p a cocycle = record {
    cochain = none-relative K A k (p + 1) (connecting_cochain K A a)
        (coboundary-chain K k p (moved A K a) (moved-chain A K p a cocycle.cochain))
        (connecting-restricts p a cocycle.cochain ∙ cocycle-none A p a cocycle);
    closed = coboundary-coboundary K k (moved A K a);
  }

  pub coboundary-restricts : (p : ℕ) (e : Ids) → IsCoboundary K p e → IsCoboundary A p (moved K A e)
  coboundary-restricts zero e none = ap (moved K A) none ∙ moved-empty K A
  coboundary-restricts (suc p) e u = (
    moved K A u.0,
    moved-chain K A p u.0 u.1,
    λ x _. ap (λ c. c x) (moved-same K A e (coboundary K u.0) u.2 ∙ sym (coboundary-moved K A k a_ok part u.0)),
  )

  -- the connecting cochain of a bound in A restricts to what it bounds
  pub connecting-bounds : (p : ℕ) (e v : Ids) → IsChain A (suc p) e → IsChain A p v → ((x : ℕ) → x < length A → e x ≡ coboundary A v x)
      → moved K A (connecting_cochain K A v) ≡ e
  connecting-bounds p e v chain v_chain bounds =
      connecting-restricts p v v_chain
      ∙ same_members _ _ (λ x. ⊎_elim
      (λ (lt : x < length A). sym (bounds x lt))
      (λ (le : length A ≤ x).
      coboundary-outside A v x le ∙ sym (false_from_ne_true (e x) (λ m. omega (arith, le, chain.there x m))))
      (cases_lt x (length A)))

  pub connecting-chain : (p : ℕ) (v : Ids) → IsChain A p v → IsChain K (suc p) (connecting_cochain K A v)
  connecting-chain p v chain = subst (λ q. IsChain K q (connecting_cochain K A v)) (add-one p)
      (coboundary-chain K k p (moved A K v) (moved-chain A K p v chain))

  coboundary-extends : (p : ℕ) (e : Ids) → IsChain A p e → IsCoboundary A p e → Extension K A p e
  coboundary-extends zero e chain none =
      record { whole = empty; chain = empty-chain K 0; coboundary = refl; restricts = moved-empty K A ∙ sym none }
  coboundary-extends (suc p) e chain v = record {
    whole = connecting_cochain K A v.0;
    chain = connecting-chain p v.0 v.1;
    coboundary = (moved A K v.0, moved-chain A K p v.0 v.1, λ x _. refl);
    restricts = connecting-bounds p e v.0 chain v.1 v.2;
  }

  -- at the part
  module _ (p : ℕ) (a u : Ids) (cocycle : IsCocycle A p a) (U : IsRelativeChain K A p u)
      (bounds : (x : ℕ) → x < length K → connecting_cochain K A a x ≡ coboundary K u x) where
    pub extended-cocycle : IsCocycle K p (plus (moved A K a) u)
    extended-cocycle = record {
      cochain = plus-chain K p (moved A K a) u (moved-chain A K p a cocycle.cochain) U.chain;
      closed = λ x lt.
          ap (λ z. z x) (coboundary-plus K (moved A K a) u)
          ∙ ap (λ b. xor b (coboundary K u x)) (bounds x lt)
          ∙ xor-self (coboundary K u x);
    }

    pub extended-restricts : moved K A (plus (moved A K a) u) ≡ a
    extended-restricts =
        moved-plus K A (moved A K a) u
        ∙ (λ i. plus (moved-back K A k a_ok part p a cocycle.cochain i) (relative-none K A p u U i))
        ∙ plus-empty a

  pub exact-part : (p : ℕ) (a : Ids) → IsCocycle A p a → IsRelativeCoboundary K A (suc p) (connecting_cochain K A a) → ComesFromWhole K A p a
  exact-part p a cocycle u = record {
    whole = plus (moved A K a) u.0;
    cocycle = extended-cocycle p a u.0 cocycle u.1 u.2;
    same = subst (IsCoboundary A p) (sym none) (empty-coboundary A p);
  }
    where
      none : plus a (moved K A (plus (moved A K a) u.0)) ≡ empty
      none = ap (plus a) (extended-restricts p a u.0 cocycle u.1 u.2) ∙ plus-self a

  pub part-exact : (p : ℕ) (a : Ids) → IsCocycle A p a → ComesFromWhole K A p a → IsRelativeCoboundary K A (suc p) (connecting_cochain K A a)
  part-exact p a cocycle C = (plus (plus (moved A K a) C.whole) E.whole, none-relative K A k p _ chain none, bounds)
    where
      E : Extension K A p (plus a (moved K A C.whole))
      E = coboundary-extends p (plus a (moved K A C.whole))
          (plus-chain A p a (moved K A C.whole) cocycle.cochain (moved-chain K A p C.whole C.cocycle.cochain)) C.same

      sum : IsChain K p (plus (moved A K a) C.whole)
      sum = plus-chain K p (moved A K a) C.whole (moved-chain A K p a cocycle.cochain) C.cocycle.cochain

      chain : IsChain K p (plus (plus (moved A K a) C.whole) E.whole)
      chain = plus-chain K p (plus (moved A K a) C.whole) E.whole sum E.chain

      none : moved K A (plus (plus (moved A K a) C.whole) E.whole) ≡ empty
      none =
          moved-plus K A (plus (moved A K a) C.whole) E.whole
          ∙ (λ i. plus (moved-plus K A (moved A K a) C.whole i) (E.restricts i))
          ∙ ap (λ z. plus (plus z (moved K A C.whole)) (plus a (moved K A C.whole))) (moved-back K A k a_ok part p a cocycle.cochain)
          ∙ plus-self (plus a (moved K A C.whole))

      bounds : (x : ℕ) → x < length K → connecting_cochain K A a x ≡ coboundary K (plus (plus (moved A K a) C.whole) E.whole) x
      bounds x lt = sym (
          ap (λ z. z x) (coboundary-plus K (plus (moved A K a) C.whole) E.whole)
          ∙ (λ i. xor (coboundary-plus K (moved A K a) C.whole i x) ((coboundary-cocycle K k p E.whole E.chain E.coboundary).closed x lt i))
          ∙ xor-false (xor (connecting_cochain K A a x) (coboundary K C.whole x))
          ∙ ap (xor (connecting_cochain K A a x)) (C.cocycle.closed x lt)
          ∙ xor-false (connecting_cochain K A a x))

  -- at the whole
  pub shrunk-cocycle : (p : ℕ) (z d : Ids) → IsCocycle K p z → IsChain K p d → IsCoboundary K p d → moved K A d ≡ moved K A z
      → IsRelativeCocycle K A p (plus z d)
  shrunk-cocycle p z d cocycle chain is restricts =
      let sum : IsCocycle K p (plus z d) = plus-cocycle K p z d cocycle (coboundary-cocycle K k p d chain is) in
      record {
        cochain = none-relative K A k p (plus z d) sum.cochain
            (moved-plus K A z d ∙ ap (plus (moved K A z)) restricts ∙ plus-self (moved K A z));
        closed = sum.closed;
      }

  pub exact-whole : (p : ℕ) (z : Ids) → IsCocycle K p z → IsCoboundary A p (moved K A z) → ComesFromPair K A p z
  exact-whole p z cocycle is =
      let E : Extension K A p (moved K A z) = coboundary-extends p (moved K A z) (moved-chain K A p z cocycle.cochain) is in
      record {
        relative = plus z E.whole;
        cocycle = shrunk-cocycle p z E.whole cocycle E.chain E.coboundary E.restricts;
        same = subst (IsCoboundary K p) (sym (plus-twice z E.whole)) E.coboundary;
      }

  pub whole-exact : (p : ℕ) (z : Ids) → IsCocycle K p z → ComesFromPair K A p z → IsCoboundary A p (moved K A z)
  whole-exact p z cocycle C = subst (IsCoboundary A p) same (coboundary-restricts p (plus z C.relative) C.same)
    where
      same : moved K A (plus z C.relative) ≡ moved K A z
      same =
          moved-plus K A z C.relative
          ∙ ap (plus (moved K A z)) (relative-none K A p C.relative C.cocycle.cochain)
          ∙ plus-empty (moved K A z)

  -- at the pair
  module _ (p : ℕ) (r u : Ids) (R : IsRelativeCocycle K A (suc p) r) (U : IsChain K p u)
      (bounded : (x : ℕ) → x < length K → r x ≡ coboundary K u x) where
    pub lifted-cocycle : IsCocycle A p (moved K A u)
    lifted-cocycle = record {
      cochain = moved-chain K A p u U;
      closed = λ x _. ap (λ c. c x)
          (coboundary-moved K A k a_ok part u
          ∙ sym (moved-same K A r (coboundary K u) bounded)
          ∙ relative-none K A (suc p) r R.cochain);
    }

    pub lifted-same : IsRelativeCoboundary K A (suc p) (plus r (connecting_cochain K A (moved K A u)))
    lifted-same = (plus u back, none-relative K A k p (plus u back) chain none, bounds)
      where
        back : Ids
        back = moved A K (moved K A u)

        chain : IsChain K p (plus u back)
        chain = plus-chain K p u back U (moved-chain A K p (moved K A u) (moved-chain K A p u U))

        none : moved K A (plus u back) ≡ empty
        none =
            moved-plus K A u back
            ∙ ap (plus (moved K A u)) (moved-back K A k a_ok part p (moved K A u) (moved-chain K A p u U))
            ∙ plus-self (moved K A u)

        bounds : (x : ℕ) → x < length K → xor (r x) (connecting_cochain K A (moved K A u) x) ≡ coboundary K (plus u back) x
        bounds x lt =
            ap (λ b. xor b (connecting_cochain K A (moved K A u) x)) (bounded x lt) ∙ sym (ap (λ z. z x) (coboundary-plus K u back))

  pub exact-pair : (p : ℕ) (r : Ids) → IsRelativeCocycle K A (suc p) r → IsCoboundary K (suc p) r → ComesFromPart K A p r
  exact-pair p r R u = record {
    part = moved K A u.0;
    cocycle = lifted-cocycle p r u.0 R u.1 u.2;
    same = lifted-same p r u.0 R u.1 u.2;
  }

  pub pair-exact : (p : ℕ) (r : Ids) → IsRelativeCocycle K A (suc p) r → ComesFromPart K A p r → IsCoboundary K (suc p) r
  pair-exact p r R C = (plus C.same.0 (moved A K C.part), plus-chain K p C.same.0 (moved A K C.part) C.same.1.chain (moved-chain A K p C.part C.cocycle.cochain), bounds)
    where
      twice : (b c : Ids) → plus (plus b c) c ≡ b
      twice b c = plus-assoc b c c ∙ ap (plus b) (plus-self c) ∙ plus-empty b

      bounds : (x : ℕ) → x < length K → r x ≡ coboundary K (plus C.same.0 (moved A K C.part)) x
      bounds x lt = sym (
          ap (λ z. z x) (coboundary-plus K C.same.0 (moved A K C.part))
          ∙ ap (λ b. xor b (connecting_cochain K A C.part x)) (sym (C.same.2 x lt))
          ∙ ap (λ z. z x) (twice r (connecting_cochain K A C.part)))
