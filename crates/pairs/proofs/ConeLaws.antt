-- The whole K with a cone over its part A: the complex L with the apex v. Values of cochains are read at lists of vertices.
--     coboundary-list             the coboundary at a simplex is the sum over all vertices left out
--     joined c                    c at v in front of each simplex; corrected c is c and the coboundary of that
--     corrected-joined            it is zero at v in front of each simplex of A
--     zero-part                   a cochain that is zero at all simplices with v, with coboundary zero at these, is zero at A
--     relative-below, below-back  so it is what a relative cochain goes to
--     cone-cocycle, cone-bounding, cone-coboundary, cone-onto, cone-zero
use Rattle.std.proofs.Common.{◌≡◌, ℕ, zero, suc, ◌<◌, ◌≤◌, Bool, true, false, ◌&&◌, ◌⊎◌, List, [], ◌∷◌, length, nat_lt, nat_eq, refl, sym, ap, ◌∙◌, subst, arith, ⊎_elim, lt-ltb, ltb-true, eqb-true, eq-eqb, add-one}
use Rattle.std.specs.Prelude.{◌-◌}
use Rattle.std.specs.List.{remove}
use Rattle.std.proofs.lemmas.Bool.{true≢false, and_parts, and_from, cases_Bool, cases_lt, false_from_ne_true}
use Rattle.std.proofs.lemmas.List.Edits.{length-remove}
use Rattle.homology.specs.Parity.{xor}
use Rattle.homology.specs.Sets.{Ids, empty, plus}
use Rattle.homology.specs.Complexes.{Complex, IsComplex, HasFace, simplex_at, dim}
use Rattle.homology.specs.Growth.{is_there}
use Rattle.homology.specs.Chains.{IsChain, IsCocycle, IsCoboundary, coboundary}
use Rattle.homology.proofs.ParityLaws.{xor-false, xor-self, odd-none}
use Rattle.homology.proofs.SetLaws.{same_members, plus-twice}
use Rattle.homology.proofs.FaceLists.{Picks, Picks-self}
use Rattle.homology.proofs.ContractionFacts.{plus-chain}
use Rattle.cohomology.proofs.Cocycles.{coboundary-plus, plus-cocycle}
use Rattle.cohomology.proofs.BoundLaws.{coboundary-cocycle}
use Rattle.products.specs.Products.{value_at}
use Rattle.products.proofs.SplittingLaws.{delta}
use Rattle.products.proofs.ValueLaws.{Found, value_at-there, value_at-other, value_at-empty, value_at-plus, value_at-found, delta-odd, value_at-coboundary}
use Rattle.pairs.specs.Pairs.{IsPart, moved, IsRelativeChain, IsRelativeCocycle, IsRelativeCoboundary}
use Rattle.pairs.specs.Cones.{IsConed}
use Rattle.pairs.proofs.PartLaws.{there-id, id-there, moved-at, moved-within, moved-past, moved-restricted, moved-outside, moved-same, moved-empty, moved-chain, relative-none, moved-back, coboundary-moved, coboundary-chain, coboundary-coboundary}
use Rattle.pairs.proofs.ExactLaws.{restricted}

-- a sum without a term
delta-none : (F : List ℕ → Bool) (s : List ℕ) → ((t : List ℕ) → F t ≡ false) → delta F s ≡ false
delta-none F [] none = refl
delta-none F (x ∷ s) none = λ i. xor (none s i) (delta-none (λ t. F (x ∷ t)) s (λ t. none (x ∷ t)) i)

delta-same : (F G : List ℕ → Bool) (s : List ℕ) → ((t : List ℕ) → F t ≡ G t) → delta F s ≡ delta G s
delta-same F G [] same = refl
delta-same F G (x ∷ s) same = λ i. xor (same s i) (delta-same (λ t. F (x ∷ t)) (λ t. G (x ∷ t)) s (λ t. same (x ∷ t)) i)

abbrev tail_of : List ℕ → List ℕ
tail_of [] = []
tail_of (x ∷ s) = s

module _ (L : Complex) (l : IsComplex L) where
  coboundary-list : (c : Ids) (s : List ℕ) → is_there L s ≡ true → value_at L (coboundary L c) s ≡ delta (value_at L c) s
  coboundary-list c s h =
      let y : Found L s = there-id L s h in
      value_at-coboundary L l c y.id s y.within (subst (Picks s) (sym y.is) (Picks-self s))

  coboundary-id : (c : Ids) (y : ℕ) → y < length L → coboundary L c y ≡ delta (value_at L c) (simplex_at L y)
  coboundary-id c y lt =
      sym (value_at-there L l (coboundary L c) y lt) ∙ coboundary-list c (simplex_at L y) (id-there L y lt)

  value-degree : (p : ℕ) (c : Ids) → IsChain L p c → (s : List ℕ) → value_at L c s ≡ true → length s ≡ suc p
  value-degree p c chain s e =
      let x = value_at-found L c s e in
      omega (arith, chain.degree x.0 x.3, ap length x.2, (l.simplices x.0 x.1).nonempty)

  -- the cochain of all vertices is a cocycle
  ones : Ids
  ones = λ y. nat_lt y (length L) && nat_eq (dim L y) 0

  ones-chain : IsChain L 0 ones
  unfolding ones
  ones-chain = record {
    there = λ y e. ltb-true y (length L) (and_parts (nat_lt y (length L)) (nat_eq (dim L y) 0) e).0;
    degree = λ y e. eqb-true (dim L y) 0 (and_parts (nat_lt y (length L)) (nat_eq (dim L y) 0) e).1;
  }

  ones-value : (a : ℕ) → is_there L (a ∷ []) ≡ true → value_at L ones (a ∷ []) ≡ true
  unfolding ones
  ones-value a h =
      let y : Found L (a ∷ []) = there-id L (a ∷ []) h in
      ap (value_at L ones) (sym y.is)
      ∙ value_at-there L l ones y.id y.within
      ∙ and_from (nat_lt y.id (length L)) (nat_eq (dim L y.id) 0) (lt-ltb y.id (length L) y.within) (eq-eqb (dim L y.id) 0 (ap (λ z. length z - 1) y.is))

  ones-long : (s : List ℕ) → 1 < length s → value_at L ones s ≡ false
  ones-long s long = false_from_ne_true (value_at L ones s) (λ e. omega (arith, long, value-degree 0 ones ones-chain s e))

  ones-list : (s : List ℕ) → ((k : ℕ) → 1 < length s → k < length s → is_there L (remove s k) ≡ true) → delta (value_at L ones) s ≡ false
  ones-list [] faces = refl
  ones-list (a ∷ []) faces = xor-false (value_at L ones []) ∙ value_at-empty L l ones
  ones-list (a ∷ b ∷ []) faces = λ i.
      xor (ones-value b (faces 0 (omega arith) (omega arith)) i) (xor (ones-value a (faces 1 (omega arith) (omega arith)) i) false)
  ones-list (a ∷ b ∷ c ∷ s) faces =
      delta-odd (value_at L ones) (a ∷ b ∷ c ∷ s)
      ∙ odd-none (length (a ∷ b ∷ c ∷ s)) _ (λ k lt. ones-long (remove (a ∷ b ∷ c ∷ s) k) (omega (arith, length-remove (a ∷ b ∷ c ∷ s) k lt)))

  ones-cocycle : IsCocycle L 0 ones
  ones-cocycle = record {
    cochain = ones-chain;
    closed = λ x lt. coboundary-id ones x lt ∙ ones-list (simplex_at L x) (λ k wide below.
        let face : HasFace L x k = l.closed x k lt wide below in
        subst (λ z. is_there L z ≡ true) face.is (id-there L face.id (omega (arith, face.earlier, lt))));
  }

module _ (K A L : Complex) (v : ℕ) (k : IsComplex K) (a_ok : IsComplex A) (l : IsComplex L) (part : IsPart K A) (C : IsConed K A v L) where
  in_L : (t : List ℕ) → is_there A t ≡ true → is_there L t ≡ true
  in_L t h = C.whole t (part t h)

  -- v does not stand twice
  no_double : (u : List ℕ) → is_there L (v ∷ v ∷ u) ≡ false
  no_double u = false_from_ne_true (is_there L (v ∷ v ∷ u)) (λ h. ⊎_elim
      (λ (there : is_there K (v ∷ v ∷ u) ≡ true). true≢false (sym there ∙ C.fresh (v ∷ u)))
      (λ (t : (t : List ℕ) × ((v ∷ v ∷ u) ≡ v ∷ t) × ((t ≡ []) ⊎ (is_there A t ≡ true))).
      let same : (v ∷ u) ≡ t.0 = ap tail_of t.1 in
      ⊎_elim
      (λ (none : t.0 ≡ []). omega (arith, ap length same, ap length none))
      (λ (there : is_there A t.0 ≡ true). true≢false (sym (part t.0 there) ∙ ap (is_there K) (sym same) ∙ C.fresh u))
      t.2)
      (C.only (v ∷ v ∷ u) h))

  -- zero at the apex and at v in front of A is zero at all simplices with v
  zero-from : (c : Ids) → value_at L c (v ∷ []) ≡ false → ((t : List ℕ) → is_there A t ≡ true → value_at L c (v ∷ t) ≡ false)
      → (s : List ℕ) → value_at L c (v ∷ s) ≡ false
  zero-from c apex rest s = ⊎_elim
      (λ (there : is_there L (v ∷ s) ≡ true). ⊎_elim
      (λ (below : is_there K (v ∷ s) ≡ true). absurd (true≢false (sym below ∙ C.fresh s)))
      (λ (t : (t : List ℕ) × ((v ∷ s) ≡ v ∷ t) × ((t ≡ []) ⊎ (is_there A t ≡ true))).
      let same : s ≡ t.0 = ap tail_of t.1 in
      ⊎_elim
      (λ (none : t.0 ≡ []). ap (λ z. value_at L c (v ∷ z)) (same ∙ none) ∙ apex)
      (λ (there : is_there A t.0 ≡ true). ap (λ z. value_at L c (v ∷ z)) same ∙ rest t.0 there)
      t.2)
      (C.only (v ∷ s) there))
      (λ (missing : is_there L (v ∷ s) ≡ false). value_at-other L c (v ∷ s) missing)
      (cases_Bool (is_there L (v ∷ s)))

  joined : Ids → Ids
  joined c = λ y. nat_lt y (length L) && value_at L c (v ∷ simplex_at L y)

  joined-value : (c : Ids) (s : List ℕ) → is_there L s ≡ true → value_at L (joined c) s ≡ value_at L c (v ∷ s)
  unfolding joined
  joined-value c s h =
      let y : Found L s = there-id L s h in
      ap (value_at L (joined c)) (sym y.is)
      ∙ value_at-there L l (joined c) y.id y.within
      ∙ ap (λ b. b && value_at L c (v ∷ simplex_at L y.id)) (lt-ltb y.id (length L) y.within)
      ∙ ap (λ z. value_at L c (v ∷ z)) y.is

  joined-double : (c : Ids) (u : List ℕ) → value_at L (joined c) (v ∷ u) ≡ false
  joined-double c u = ⊎_elim
      (λ (there : is_there L (v ∷ u) ≡ true). joined-value c (v ∷ u) there ∙ value_at-other L c (v ∷ v ∷ u) (no_double u))
      (λ (missing : is_there L (v ∷ u) ≡ false). value_at-other L (joined c) (v ∷ u) missing)
      (cases_Bool (is_there L (v ∷ u)))

  joined-chain : (p : ℕ) (c : Ids) → IsChain L (suc p) c → IsChain L p (joined c)
  unfolding joined
  joined-chain p c chain = record {
    there = λ y e. ltb-true y (length L) (and_parts (nat_lt y (length L)) (value_at L c (v ∷ simplex_at L y)) e).0;
    degree = λ y e.
        let both = and_parts (nat_lt y (length L)) (value_at L c (v ∷ simplex_at L y)) e in
        omega (arith, value-degree L l (suc p) c chain (v ∷ simplex_at L y) both.1);
  }

  corrected : Ids → Ids
  corrected c = plus c (coboundary L (joined c))

  corrected-joined : (c : Ids) (t : List ℕ) → is_there A t ≡ true → value_at L (corrected c) (v ∷ t) ≡ false
  unfolding corrected
  corrected-joined c t h =
      value_at-plus L c (coboundary L (joined c)) (v ∷ t)
      ∙ ap (xor (value_at L c (v ∷ t)))
      (coboundary-list L l (joined c) (v ∷ t) (C.joined t h)
      ∙ (λ i. xor (joined-value c t (in_L t h) i) (delta-none (λ u. value_at L (joined c) (v ∷ u)) t (joined-double c) i))
      ∙ xor-false (value_at L c (v ∷ t)))
      ∙ xor-self (value_at L c (v ∷ t))

  corrected-zero : (p : ℕ) (c : Ids) → IsChain L (suc p) c → (s : List ℕ) → value_at L (corrected c) (v ∷ s) ≡ false
  unfolding corrected
  corrected-zero p c chain = zero-from (corrected c)
      (false_from_ne_true (value_at L (corrected c) (v ∷ [])) (λ e.
      omega (arith, value-degree L l (suc p) (corrected c) sum (v ∷ []) e)))
      (corrected-joined c)
    where
      sum : IsChain L (suc p) (plus c (coboundary L (joined c)))
      sum = plus-chain L (suc p) c (coboundary L (joined c)) chain
          (subst (λ q. IsChain L q (coboundary L (joined c))) (add-one p) (coboundary-chain L l p (joined c) (joined-chain p c chain)))

  -- a cochain that is zero at v in front of all
  zero-part : (c : Ids) → ((s : List ℕ) → value_at L c (v ∷ s) ≡ false) → (t : List ℕ) → is_there A t ≡ true
      → value_at L (coboundary L c) (v ∷ t) ≡ false → value_at L c t ≡ false
  zero-part c zeros t h closed =
      sym (xor-false (value_at L c t))
      ∙ sym (coboundary-list L l c (v ∷ t) (C.joined t h) ∙ ap (xor (value_at L c t)) (delta-none (λ u. value_at L c (v ∷ u)) t zeros))
      ∙ closed

  module _ (p : ℕ) (c : Ids) (chain : IsChain L p c) (zeros : (s : List ℕ) → value_at L c (v ∷ s) ≡ false)
      (none : (t : List ℕ) → is_there A t ≡ true → value_at L c t ≡ false) where
    relative-below : IsRelativeChain K A p (moved L K c)
    relative-below = record {
      chain = moved-chain L K p c chain;
      outside = λ t e. false_from_ne_true (is_there A (simplex_at K t)) (λ h.
          true≢false (sym e ∙ moved-at L K c t (moved-within L K c t e) ∙ none (simplex_at K t) h));
    }

    back-inside : (y : ℕ) → y < length L → moved K L (moved L K c) y ≡ c y
    back-inside y lt = ⊎_elim
        (λ (there : is_there K (simplex_at L y) ≡ true).
        let x : Found K (simplex_at L y) = there-id K (simplex_at L y) there in
        moved-restricted K L k (moved L K c) y x.id lt x.within (sym x.is) ∙ moved-restricted L K l c x.id y x.within lt x.is)
        (λ (t : (t : List ℕ) × (simplex_at L y ≡ v ∷ t) × ((t ≡ []) ⊎ (is_there A t ≡ true))).
        moved-outside K L (moved L K c) y (ap (is_there K) t.1 ∙ C.fresh t.0)
        ∙ sym (sym (value_at-there L l c y lt) ∙ ap (value_at L c) t.1 ∙ zeros t.0))
        (C.only (simplex_at L y) (id-there L y lt))

    below-back : moved K L (moved L K c) ≡ c
    below-back = same_members _ _ (λ y. ⊎_elim
        (λ (lt : y < length L). back-inside y lt)
        (λ (le : length L ≤ y).
        moved-past K L (moved L K c) y le ∙ sym (false_from_ne_true (c y) (λ e. omega (arith, le, chain.there y e))))
        (cases_lt y (length L)))

  -- a cocycle that is zero at v in front of all comes from a relative one
  comes : (p : ℕ) (c : Ids) → IsCocycle L p c → ((s : List ℕ) → value_at L c (v ∷ s) ≡ false)
      → IsRelativeCocycle K A p (moved L K c) × (moved K L (moved L K c) ≡ c)
  comes p c cocycle zeros =
      let none : (t : List ℕ) → is_there A t ≡ true → value_at L c t ≡ false =
      λ t h. zero-part c zeros t h (closed-list (v ∷ t) (C.joined t h)) in (
        record {
          cochain = relative-below p c cocycle.cochain zeros none;
          closed = (restricted L K l k C.whole p c cocycle).closed;
        },
        below-back p c cocycle.cochain zeros none,
      )
    where
      closed-list : (s : List ℕ) → is_there L s ≡ true → value_at L (coboundary L c) s ≡ false
      closed-list s h =
          let y : Found L s = there-id L s h in
          ap (value_at L (coboundary L c)) (sym y.is) ∙ value_at-there L l (coboundary L c) y.id y.within ∙ cocycle.closed y.id y.within

  pub cone-onto : (p : ℕ) (c : Ids) → IsCocycle L (suc p) c → (r : Ids) × IsRelativeCocycle K A (suc p) r × IsCoboundary L (suc p) (plus c (moved K L r))
  unfolding corrected
  cone-onto p c cocycle =
      let d = coboundary L (joined c) in
      let bound : IsCoboundary L (suc p) d = (joined c, joined-chain p c cocycle.cochain, λ x _. refl) in
      let chain : IsChain L (suc p) d =
      subst (λ q. IsChain L q d) (add-one p) (coboundary-chain L l p (joined c) (joined-chain p c cocycle.cochain)) in
      let sum : IsCocycle L (suc p) (plus c d) = plus-cocycle L (suc p) c d cocycle (coboundary-cocycle L l (suc p) d chain bound) in
      let is = comes (suc p) (plus c d) sum (corrected-zero p c cocycle.cochain) in
      (moved L K (plus c d), is.0, subst (IsCoboundary L (suc p)) (sym (ap (plus c) is.1 ∙ plus-twice c d)) bound)

  vertex-zero : (c : Ids) → IsChain L 0 c → value_at L c (v ∷ []) ≡ false → (s : List ℕ) → value_at L c (v ∷ s) ≡ false
  vertex-zero c chain apex [] = apex
  vertex-zero c chain apex (x ∷ s) = false_from_ne_true (value_at L c (v ∷ x ∷ s)) (λ e. omega (arith, value-degree L l 0 c chain (v ∷ x ∷ s) e))

  pub cone-zero : (c : Ids) → IsCocycle L 0 c → value_at L c (v ∷ []) ≡ false → (r : Ids) × IsRelativeCocycle K A 0 r × (c ≡ moved K L r)
  cone-zero c cocycle apex =
      let is = comes 0 c cocycle (vertex-zero c cocycle.cochain apex) in
      (moved L K c, is.0, sym is.1)

  -- a relative cochain has its values in L
  value-moved : (r : Ids) (s : List ℕ) → value_at L (moved K L r) s ≡ value_at K r s
  value-moved r s = ⊎_elim
      (λ (there : is_there L s ≡ true).
      let y : Found L s = there-id L s there in
      ap (value_at L (moved K L r)) (sym y.is)
      ∙ value_at-there L l (moved K L r) y.id y.within
      ∙ moved-at K L r y.id y.within
      ∙ ap (value_at K r) y.is)
      (λ (missing : is_there L s ≡ false).
      value_at-other L (moved K L r) s missing
      ∙ sym (value_at-other K r s (false_from_ne_true (is_there K s) (λ h. true≢false (sym (C.whole s h) ∙ missing)))))
      (cases_Bool (is_there L s))

  value-on_part : (p : ℕ) (r : Ids) → IsRelativeChain K A p r → (t : List ℕ) → is_there A t ≡ true → value_at K r t ≡ false
  value-on_part p r R t h =
      let y : Found A t = there-id A t h in
      ap (value_at K r) (sym y.is) ∙ sym (moved-at K A r y.id y.within) ∙ ap (λ z. z y.id) (relative-none K A p r R)

  -- the coboundary in L of what a relative cochain goes to is what its coboundary in K goes to
  coboundary-up : (p : ℕ) (u : Ids) → IsRelativeChain K A p u → (y : ℕ) → y < length L → coboundary L (moved K L u) y ≡ moved K L (coboundary K u) y
  coboundary-up p u U y lt =
      coboundary-id L l (moved K L u) y lt
      ∙ delta-same (value_at L (moved K L u)) (value_at K u) (simplex_at L y) (value-moved u)
      ∙ ⊎_elim
      (λ (there : is_there K (simplex_at L y) ≡ true).
      let x : Found K (simplex_at L y) = there-id K (simplex_at L y) there in
      ap (delta (value_at K u)) (sym x.is)
      ∙ sym (coboundary-id K k u x.id x.within)
      ∙ sym (moved-restricted K L k (coboundary K u) y x.id lt x.within (sym x.is)))
      (λ (t : (t : List ℕ) × (simplex_at L y ≡ v ∷ t) × ((t ≡ []) ⊎ (is_there A t ≡ true))).
      ap (delta (value_at K u)) t.1
      ∙ (λ i. xor (⊎_elim
      (λ (none : t.0 ≡ []). ap (value_at K u) none ∙ value_at-empty K k u)
      (λ (h : is_there A t.0 ≡ true). value-on_part p u U t.0 h)
      t.2 i)
      (delta-none (λ w. value_at K u (v ∷ w)) t.0 (λ w. value_at-other K u (v ∷ w) (C.fresh w)) i))
      ∙ sym (moved-outside K L (coboundary K u) y (ap (is_there K) t.1 ∙ C.fresh t.0)))
      (C.only (simplex_at L y) (id-there L y lt))

  pub cone-cocycle : (p : ℕ) (r : Ids) → IsRelativeCocycle K A p r → IsCocycle L p (moved K L r)
  cone-cocycle p r R = record {
    cochain = moved-chain K L p r R.cochain.chain;
    closed = λ y lt.
        coboundary-up p r R.cochain y lt
        ∙ ap (λ z. z y) (moved-same K L (coboundary K r) empty R.closed ∙ moved-empty K L);
  }

  pub cone-bounding : (p : ℕ) (r : Ids) → IsRelativeCoboundary K A p r → IsCoboundary L p (moved K L r)
  cone-bounding zero r none = ap (moved K L) none ∙ moved-empty K L
  cone-bounding (suc p) r u = (
    moved K L u.0,
    moved-chain K L p u.0 u.1.chain,
    λ y lt. ap (λ z. z y) (moved-same K L r (coboundary K u.0) u.2) ∙ sym (coboundary-up p u.0 u.1 y lt),
  )

  -- a bound that is zero at v in front of all
  bounded : (p : ℕ) (r u : Ids) → IsRelativeCocycle K A (suc p) r → IsChain L p u
      → ((x : ℕ) → x < length L → moved K L r x ≡ coboundary L u x) → ((s : List ℕ) → value_at L u (v ∷ s) ≡ false) → IsRelativeCoboundary K A (suc p) r
  bounded p r u R chain bounds zeros =
      let none : (t : List ℕ) → is_there A t ≡ true → value_at L u t ≡ false =
      λ t h. zero-part u zeros t h (at (v ∷ t) (C.joined t h) ∙ value-moved r (v ∷ t) ∙ value_at-other K r (v ∷ t) (C.fresh t)) in (
        moved L K u,
        relative-below p u chain zeros none,
        λ x lt. ap (λ z. z x)
            (sym (moved-back L K l k C.whole (suc p) r R.cochain.chain)
            ∙ moved-same L K (moved K L r) (coboundary L u) bounds
            ∙ sym (coboundary-moved L K l k C.whole u)),
      )
    where
      at : (s : List ℕ) → is_there L s ≡ true → value_at L (coboundary L u) s ≡ value_at L (moved K L r) s
      at s h =
          let y : Found L s = there-id L s h in
          ap (value_at L (coboundary L u)) (sym y.is)
          ∙ value_at-there L l (coboundary L u) y.id y.within
          ∙ sym (bounds y.id y.within)
          ∙ sym (value_at-there L l (moved K L r) y.id y.within)
          ∙ ap (value_at L (moved K L r)) y.is

  pub cone-coboundary : (p : ℕ) (r : Ids) → IsRelativeCocycle K A (suc p) r → IsCoboundary L (suc p) (moved K L r) → IsRelativeCoboundary K A (suc p) r
  unfolding corrected
  cone-coboundary zero r R u = ⊎_elim
      (λ (apex : value_at L u.0 (v ∷ []) ≡ true).
      let o = ones L l in
      let chain : IsChain L 0 (plus u.0 o) = plus-chain L 0 u.0 o u.1 (ones-chain L l) in
      bounded 0 r (plus u.0 o) R chain
      (λ x lt.
      u.2 x lt
      ∙ sym (xor-false (coboundary L u.0 x))
      ∙ sym (ap (λ z. z x) (coboundary-plus L u.0 o) ∙ ap (xor (coboundary L u.0 x)) ((ones-cocycle L l).closed x lt)))
      (vertex-zero (plus u.0 o) chain (value_at-plus L u.0 o (v ∷ []) ∙ λ i. xor (apex i) (ones-value L l v C.apex i))))
      (λ (apex : value_at L u.0 (v ∷ []) ≡ false). bounded 0 r u.0 R u.1 u.2 (vertex-zero u.0 u.1 apex))
      (cases_Bool (value_at L u.0 (v ∷ [])))
  cone-coboundary (suc p) r R u =
      let d = coboundary L (joined u.0) in
      bounded (suc p) r (plus u.0 d) R
      (plus-chain L (suc p) u.0 d u.1 (subst (λ q. IsChain L q d) (add-one p) (coboundary-chain L l p (joined u.0) (joined-chain p u.0 u.1))))
      (λ x lt.
      u.2 x lt
      ∙ sym (xor-false (coboundary L u.0 x))
      ∙ sym (ap (λ z. z x) (coboundary-plus L u.0 d) ∙ ap (xor (coboundary L u.0 x)) (coboundary-coboundary L l (joined u.0) x lt)))
      (corrected-zero p u.0 u.1)
