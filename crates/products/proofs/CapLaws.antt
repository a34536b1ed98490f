-- Laws of cap products.
--     weigh-one                   the splittings with one shared vertex: a front and a back that meet in it
--     cup-zero                    so the product with index 0 is that of Alexander and Whitney
--     cap-outside, cap-degree     the members of a cap product
--     evaluate-cap                the cap product is the transpose of the product with index 0
--     boundary-cap                the boundary of a cap product
use Rattle.std.proofs.Common.{◌≡◌, ℕ, suc, ◌+◌, ◌<◌, ◌≤◌, Bool, true, false, ◌&&◌, List, [], ◌∷◌, length, take, drop, nat_eq, refl, sym, ap, ◌∙◌, arith, add-one, length-drop, ⊎_elim}
use Rattle.std.proofs.lemmas.Bool.{true≢false, and_parts, false_from_ne_true, cases_lt}
use Rattle.std.proofs.lemmas.List.{get_or_past, length-take-le, length-take}
use Rattle.homology.specs.Parity.{xor, odd}
use Rattle.homology.specs.Sets.{Ids, single, plus, evaluate}
use Rattle.homology.specs.Simplices.{same_list}
use Rattle.homology.specs.Complexes.{Complex, simplex_at, incidence, IsComplex}
use Rattle.homology.specs.Chains.{boundary, coboundary, IsChain}
use Rattle.homology.proofs.ParityLaws.{and-comm, and-assoc, and-false, nat_eq-self, nat_eq-apart, odd-same, odd-none, odd-and, odd-swap, odd-one}
use Rattle.homology.proofs.SetLaws.{same_members, plus-empty, plus-twice}
use Rattle.homology.proofs.EvaluationLaws.{evaluate-plus, evaluate-plus_cochain, evaluate-coboundary}
use Rattle.homology.proofs.BoundaryLaws.{same_list-true, odd-some, incidence-dim, boundary-within}
use Rattle.products.specs.Products.{value_at, cup}
use Rattle.products.specs.Caps.{cap}
use Rattle.products.proofs.SplittingLaws.{Test, put, put_both, flip, weigh, weigh-flip, weigh-zero}
use Rattle.products.proofs.HalfLaws.{meets}
use Rattle.products.proofs.ValueLaws.{odd-first}
use Rattle.products.proofs.CoboundaryLaw.{cup-weigh, value_at-length, coboundary-outside, coboundary-cup}

-- the splittings with one shared vertex
pub weigh-one : (s : List ℕ) (W : Test) → weigh 1 true s W ≡ odd (length s) (λ j. W (take (suc j) s) (drop j s))
weigh-one [] W = refl
weigh-one (v ∷ s) W =
    (λ i. xor
    ((weigh-flip 0 false s (put_both v W) ∙ weigh-zero s (flip (put_both v W))) i)
    (weigh-one s (put true v W) i))
    ∙ sym (odd-first (length s) (λ j. W (take (suc j) (v ∷ s)) (drop j (v ∷ s))))

module _ (K : Complex) (ok : IsComplex K) (p : ℕ) (a : Ids) (chain : IsChain K p a) where
  -- the value at a front of another length is zero
  front-other : (s : List ℕ) (j : ℕ) → j < length s → nat_eq j p ≡ false → value_at K a (take (suc j) s) ≡ false
  front-other s j lt e = false_from_ne_true (value_at K a (take (suc j) s)) (λ there.
      let long : length (take (suc j) s) ≡ p + 1 = value_at-length K ok p a chain (take (suc j) s) there in
      let short : length (take (suc j) s) ≡ suc j = length-take-le (suc j) s (omega arith) in
      let same : j ≡ p = omega arith in
      true≢false (sym (ap (λ k. nat_eq k p) same ∙ nat_eq-self p) ∙ e))

  -- and so it is where there are not enough vertices
  front-short : (s : List ℕ) → length s ≤ p → value_at K a (take (suc p) s) ≡ false
  front-short s le = false_from_ne_true (value_at K a (take (suc p) s)) (λ there.
      omega (arith, value_at-length K ok p a chain (take (suc p) s) there, length-take {A = ℕ} (suc p) s))

  -- so the sum over all fronts and backs has the term of a front of p + 1 vertices alone
  fronts : (B : List ℕ → Bool) (s : List ℕ)
      → odd (length s) (λ j. value_at K a (take (suc j) s) && B (drop j s)) ≡ (value_at K a (take (suc p) s) && B (drop p s))
  fronts B s = ⊎_elim
      (λ (lt : p < length s).
      odd-same (length s) _ _ (λ j j_in. term j j_in (nat_eq j p) refl)
      ∙ odd-one (length s) p (λ j. value_at K a (take (suc j) s) && B (drop j s)) lt)
      (λ (le : length s ≤ p).
      odd-none (length s) _ (λ j j_in. ap (λ t. t && B (drop j s)) (front-other s j j_in (nat_eq-apart j p (λ q. omega (arith, q)))))
      ∙ sym (ap (λ t. t && B (drop p s)) (front-short s le)))
      (cases_lt p (length s))
    where
      term : (j : ℕ) → j < length s → (b : Bool) → nat_eq j p ≡ b
          → (value_at K a (take (suc j) s) && B (drop j s)) ≡ (nat_eq j p && (value_at K a (take (suc j) s) && B (drop j s)))
      term j j_in true e = sym (ap (λ t. t && (value_at K a (take (suc j) s) && B (drop j s))) e)
      term j j_in false e =
          ap (λ t. t && B (drop j s)) (front-other s j j_in e)
          ∙ sym (ap (λ t. t && (value_at K a (take (suc j) s) && B (drop j s))) e)

  -- the product with index 0
  pub cup-zero : (b : Ids) (x : ℕ)
      → cup K 0 a b x ≡ (value_at K a (take (p + 1) (simplex_at K x)) && value_at K b (drop p (simplex_at K x)))
  cup-zero b x =
      cup-weigh K 0 a b x
      ∙ weigh-one (simplex_at K x) (meets (value_at K a) (value_at K b))
      ∙ fronts (value_at K b) (simplex_at K x)
      ∙ ap (λ k. value_at K a (take k (simplex_at K x)) && value_at K b (drop p (simplex_at K x))) (sym (add-one p))

  -- a member with its front and its back
  term-outside : (s : List ℕ) → (value_at K a (take (p + 1) s) && same_list (drop p s) []) ≡ false
  term-outside s = false_from_ne_true (value_at K a (take (p + 1) s) && same_list (drop p s) []) (λ e.
      let both : (value_at K a (take (p + 1) s) ≡ true) × (same_list (drop p s) [] ≡ true) =
      and_parts (value_at K a (take (p + 1) s)) (same_list (drop p s) []) e in
      let none : length (drop p s) ≡ 0 = ap length (same_list-true (drop p s) [] both.1) in
      let short : length s ≤ p = omega (arith, length-drop p s) in
      true≢false (sym both.0 ∙ ap (λ k. value_at K a (take k s)) (add-one p) ∙ front-short s short))

  pub cap-outside : (c : Ids) (x : ℕ) → length K ≤ x → cap K p a c x ≡ false
  unfolding cap
  cap-outside c x out = odd-none (length K) _ (λ t _.
      ap (λ s. c t && (value_at K a (take (p + 1) (simplex_at K t)) && same_list (drop p (simplex_at K t)) s)) (get_or_past K x [] out)
      ∙ ap (λ b. c t && b) (term-outside (simplex_at K t))
      ∙ and-false (c t))

  -- the degree of a cap product
  pub cap-degree : (q : ℕ) (c : Ids) → IsChain K (p + q) c → IsChain K q (cap K p a c)
  unfolding cap
  cap-degree q c C = record {
    there = λ x e. ⊎_elim
        (λ (lt : x < length K). lt)
        (λ (le : length K ≤ x). absurd (true≢false (sym e ∙ cap-outside c x le)))
        (cases_lt x (length K));
    degree = λ x e.
        let some : (t : ℕ) × (t < length K)
        × ((c t && (value_at K a (take (p + 1) (simplex_at K t)) && same_list (drop p (simplex_at K t)) (simplex_at K x))) ≡ true) =
        odd-some (length K) (λ t. c t && (value_at K a (take (p + 1) (simplex_at K t)) && same_list (drop p (simplex_at K t)) (simplex_at K x))) e in
        let t : ℕ = some.0 in
        let member = and_parts (c t) (value_at K a (take (p + 1) (simplex_at K t)) && same_list (drop p (simplex_at K t)) (simplex_at K x)) some.2 in
        let back = and_parts (value_at K a (take (p + 1) (simplex_at K t))) (same_list (drop p (simplex_at K t)) (simplex_at K x)) member.1 in
        let long : length (drop p (simplex_at K t)) ≡ length (simplex_at K x) = ap length (same_list-true (drop p (simplex_at K t)) (simplex_at K x) back.1) in
        omega (arith, long, length-drop p (simplex_at K t), C.degree t member.0, (ok.simplices t some.1).nonempty);
  }

  -- a cochain at a cap product: both sides sum over the members of c
  pub evaluate-cap : (b c : Ids) → evaluate (length K) b (cap K p a c) ≡ evaluate (length K) (cup K 0 a b) c
  unfolding cap value_at
  evaluate-cap b c =
      odd-same (length K) _ _ (λ x _. sym (odd-and (length K) (b x) (λ t. c t && (front t && same_list (back t) (simplex_at K x)))))
      ∙ odd-swap (length K) (length K) (λ x t. b x && (c t && (front t && same_list (back t) (simplex_at K x))))
      ∙ odd-same (length K) _ _ (λ t _.
      odd-same (length K) _ _ (λ x _. regroup (b x) (c t) (front t) (same_list (back t) (simplex_at K x)))
      ∙ odd-and (length K) (c t && front t) (λ x. b x && same_list (back t) (simplex_at K x))
      ∙ turned (c t) (front t) (value_at K b (back t))
      ∙ ap (λ v. v && c t) (sym (cup-zero b t)))
    where
      front : ℕ → Bool
      front t = value_at K a (take (p + 1) (simplex_at K t))

      back : ℕ → List ℕ
      back t = drop p (simplex_at K t)

      regroup : (x y z w : Bool) → (x && (y && (z && w))) ≡ ((y && z) && (x && w))
      regroup true y z w = sym (and-assoc y z w)
      regroup false y z w = sym (and-false (y && z))

      turned : (y z w : Bool) → ((y && z) && w) ≡ ((z && w) && y)
      turned y z w = and-assoc y z w ∙ and-comm y (z && w)

-- the coboundary of a cochain of degree p has degree p + 1
coboundary-chain : (K : Complex) → IsComplex K → (p : ℕ) (a : Ids) → IsChain K p a → IsChain K (p + 1) (coboundary K a)
coboundary-chain K ok p a chain = record {
  there = λ x e. within x e;
  degree = λ x e.
      let some : (t : ℕ) × (t < length K) × ((a t && incidence K t x) ≡ true) = odd-some (length K) (λ t. a t && incidence K t x) e in
      let both : (a some.0 ≡ true) × (incidence K some.0 x ≡ true) = and_parts (a some.0) (incidence K some.0 x) some.2 in
      omega (arith, incidence-dim K ok some.0 x (within x e) both.1, chain.degree some.0 both.0);
}
  where
    within : (x : ℕ) → coboundary K a x ≡ true → x < length K
    within x e = ⊎_elim
        (λ (lt : x < length K). lt)
        (λ (le : length K ≤ x). absurd (true≢false (sym e ∙ coboundary-outside K a x le)))
        (cases_lt x (length K))

-- the value of the cochain x on a chain
evaluate-at : (n x : ℕ) (z : Ids) → x < n → evaluate n (single x) z ≡ z x
evaluate-at n x z lt = odd-one n x z lt

-- the boundary of a cap product, tested by a cochain: by the coboundary of the product with index 0
evaluate-boundary_cap : (K : Complex) → IsComplex K → (p : ℕ) (a : Ids) → IsChain K p a → (b c : Ids)
    → evaluate (length K) b (boundary K (cap K p a c))
    ≡ evaluate (length K) b (plus (cap K (p + 1) (coboundary K a) c) (cap K p a (boundary K c)))
evaluate-boundary_cap K ok p a chain b c =
    sym (evaluate-coboundary K b (cap K p a c))
    ∙ evaluate-cap K ok p a chain (coboundary K b) c
    ∙ ap (λ z. evaluate (length K) z c) product
    ∙ evaluate-plus_cochain (length K) (cup K 0 (coboundary K a) b) (coboundary K (cup K 0 a b)) c
    ∙ (λ i. xor (sym (evaluate-cap K ok (p + 1) (coboundary K a) (coboundary-chain K ok p a chain) b c) i) (whole i))
    ∙ sym (evaluate-plus (length K) b (cap K (p + 1) (coboundary K a) c) (cap K p a (boundary K c)))
  where
    product : cup K 0 a (coboundary K b) ≡ plus (cup K 0 (coboundary K a) b) (coboundary K (cup K 0 a b))
    product =
        sym (plus-twice (cup K 0 (coboundary K a) b) (cup K 0 a (coboundary K b)))
        ∙ ap (plus (cup K 0 (coboundary K a) b))
        (sym (plus-empty (plus (cup K 0 (coboundary K a) b) (cup K 0 a (coboundary K b)))) ∙ sym (coboundary-cup K ok 0 a b))

    whole : evaluate (length K) (coboundary K (cup K 0 a b)) c ≡ evaluate (length K) b (cap K p a (boundary K c))
    whole = evaluate-coboundary K (cup K 0 a b) c ∙ sym (evaluate-cap K ok p a chain b (boundary K c))

-- so the two are the same chain
pub boundary-cap : (K : Complex) → IsComplex K → (p : ℕ) (a : Ids) → IsChain K p a → (c : Ids)
    → boundary K (cap K p a c) ≡ plus (cap K (p + 1) (coboundary K a) c) (cap K p a (boundary K c))
boundary-cap K ok p a chain c = same_members
    (boundary K (cap K p a c))
    (plus (cap K (p + 1) (coboundary K a) c) (cap K p a (boundary K c)))
    (λ x. ⊎_elim
    (λ (lt : x < length K).
    sym (evaluate-at (length K) x (boundary K (cap K p a c)) lt)
    ∙ evaluate-boundary_cap K ok p a chain (single x) c
    ∙ evaluate-at (length K) x (plus (cap K (p + 1) (coboundary K a) c) (cap K p a (boundary K c))) lt)
    (λ (le : length K ≤ x).
    false_from_ne_true (boundary K (cap K p a c) x) (λ e. omega (arith, boundary-within K ok (cap K p a c) x e))
    ∙ sym (λ i. xor
    (cap-outside K ok (p + 1) (coboundary K a) (coboundary-chain K ok p a chain) c x le i)
    (cap-outside K ok p a chain (boundary K c) x le i)))
    (cases_lt x (length K)))
