-- A relative cochain with a prescribed coboundary and prescribed values.
--     upto m, answer       for a set r and values v: the cochain, by recursion along the ids. At a p-simplex outside A that bounds, it is
--                          such that its value at the boundary that the search finds is that of r at the filling; at the others it is v
--     answer-chain         it is a relative cochain of degree p
--     answer-free          it has the values v at simplices that do not bound
--     answer-fills         where r is zero at relative cycles, its value at each relative boundary is that of r at the filling
--     answer-coboundary    so its coboundary is r, where r is a relative cochain
use Rattle.std.proofs.Common.{◌≡◌, ℕ, zero, suc, ◌+◌, ◌<◌, ◌≤◌, Bool, true, false, cond, ◌&&◌, length, nat_eq, refl, sym, ap, ◌∙◌, subst, arith, ⊎_elim, eqb-true, eq-eqb, ◌⊎◌, inl, inr}
use Rattle.std.proofs.lemmas.Bool.{true≢false, and_parts, cases_Bool, cases_eq, cases_lt}
use Rattle.homology.specs.Parity.{xor}
use Rattle.homology.specs.Sets.{Ids, empty, single, plus, evaluate, IsLatest}
use Rattle.homology.specs.Complexes.{Complex, simplex_at, IsComplex, dim}
use Rattle.homology.specs.Growth.{is_there}
use Rattle.homology.specs.Chains.{coboundary}
use Rattle.homology.proofs.ParityLaws.{xor-self, xor-assoc, xor-false, nat_eq-apart}
use Rattle.homology.proofs.SetLaws.{plus-twice}
use Rattle.homology.proofs.EvaluationLaws.{evaluate-plus, evaluate-plus_cochain, evaluate-empty, evaluate-single}
use Rattle.homology.proofs.LatestMembers.{Within, plus-source, empty-no_member}
use Rattle.homology.proofs.Uniqueness.{evaluate-latest}
use Rattle.pairs.specs.Pairs.{IsPart, is_outside, IsRelativeChain, relative_boundary, is_relatively_bounding}
use Rattle.pairs.proofs.RelativeKinds.{outside-parts, relative-outside, relative-plus, relative_boundary-plus, relative_boundary-within, relative_boundary-chain, relative-transposes, relative-coboundary, bounding-true, bounding-holds, filling_of, filling-is}

-- sums of two with one in common
pub xor-cancels : (a b f : Bool) → xor a f ≡ xor b f → a ≡ b
xor-cancels a b f e = sym (twice a) ∙ ap (λ z. xor z f) e ∙ twice b
  where
    twice : (z : Bool) → xor (xor z f) f ≡ z
    twice z = xor-assoc z f f ∙ ap (xor z) (xor-self f) ∙ xor-false z

xor-other : (a b : Bool) → xor a (xor b a) ≡ b
xor-other true true = refl
xor-other true false = refl
xor-other false b = xor-false b

-- one simplex outside A
pub relative-single : (K A : Complex) (p x : ℕ) → is_outside K A x ≡ true → dim K x ≡ p → IsRelativeChain K A p (single x)
relative-single K A p x out d = record {
  chain = record {
    there = λ t m. subst (λ z. z < length K) (sym (eqb-true t x m)) (outside-parts K A x out).0;
    degree = λ t m. ap (dim K) (eqb-true t x m) ∙ d;
  };
  outside = λ t m. ap (λ z. is_there A (simplex_at K z)) (eqb-true t x m) ∙ (outside-parts K A x out).1;
}

module _ (K A : Complex) (p : ℕ) (r v : Ids) where
  abbrev n : ℕ
  n = length K

  -- at t, by the values before
  abbrev value : ℕ → Ids → Bool
  value t u =
      (is_outside K A t && nat_eq (dim K t) p)
      && cond (is_relatively_bounding K A t) (xor (evaluate n r (filling_of K A t)) (evaluate n u (relative_boundary K A (filling_of K A t)))) (v t)

  upto : ℕ → Ids
  upto zero = empty
  upto (suc m) = λ q. cond (nat_eq q m) (value m (upto m)) (upto m q)

  upto-above : (m q : ℕ) → m ≤ q → upto m q ≡ false
  unfolding upto
  upto-above zero q le = refl
  upto-above (suc m) q le =
      ap (λ b. cond b (value m (upto m)) (upto m q)) (nat_eq-apart q m (λ e. omega (arith, le, e))) ∙ upto-above m q (omega (arith, le))

  upto-below : (m q : ℕ) → q < m → upto m q ≡ value q (upto q)
  unfolding upto
  upto-below zero q lt = absurd (omega (arith, lt))
  upto-below (suc m) q lt = ⊎_elim
      (λ (same : q ≡ m).
      ap (λ b. cond b (value m (upto m)) (upto m q)) (eq-eqb q m same) ∙ ap (λ t. value t (upto t)) (sym same))
      (λ (other : q ≡ m → ⊥).
      ap (λ b. cond b (value m (upto m)) (upto m q)) (nat_eq-apart q m other) ∙ upto-below m q (omega (arith, lt, other)))
      (cases_eq q m)

  pub answer : Ids
  answer = upto n

  answer-below : (q : ℕ) → q < n → answer q ≡ value q (upto q)
  unfolding answer
  answer-below q lt = upto-below n q lt

  answer-past : (q : ℕ) → n ≤ q → answer q ≡ false
  unfolding answer
  answer-past q le = upto-above n q le

  answer-parts : (q : ℕ) → answer q ≡ true → (is_outside K A q ≡ true) × (dim K q ≡ p)
  answer-parts q e = ⊎_elim
      (λ (lt : q < n).
      let rest = cond (is_relatively_bounding K A q) (xor (evaluate n r (filling_of K A q)) (evaluate n (upto q) (relative_boundary K A (filling_of K A q)))) (v q) in
      let both = and_parts (is_outside K A q && nat_eq (dim K q) p) rest (sym (answer-below q lt) ∙ e) in
      let parts = and_parts (is_outside K A q) (nat_eq (dim K q) p) both.0 in
      (parts.0, eqb-true (dim K q) p parts.1))
      (λ (le : n ≤ q). absurd (true≢false (sym e ∙ answer-past q le)))
      (cases_lt q n)

  pub answer-chain : IsRelativeChain K A p answer
  answer-chain = record {
    chain = record {
      there = λ t e. (outside-parts K A t (answer-parts t e).0).0;
      degree = λ t e. (answer-parts t e).1;
    };
    outside = λ t e. (outside-parts K A t (answer-parts t e).0).1;
  }

  pub answer-free : (t : ℕ) → is_outside K A t ≡ true → dim K t ≡ p → is_relatively_bounding K A t ≡ false → answer t ≡ v t
  answer-free t out d free =
      answer-below t (outside-parts K A t out).0
      ∙ λ i. (out i && eq-eqb (dim K t) p d i)
      && cond (free i) (xor (evaluate n r (filling_of K A t)) (evaluate n (upto t) (relative_boundary K A (filling_of K A t)))) (v t)

  -- where t bounds
  answer-bounding : (t : ℕ) → is_relatively_bounding K A t ≡ true → dim K t ≡ p
      → evaluate n answer (relative_boundary K A (filling_of K A t)) ≡ evaluate n r (filling_of K A t)
  answer-bounding t e d =
      ap (λ z. evaluate n z b) (sym (plus-twice (upto t) answer))
      ∙ evaluate-plus_cochain n (upto t) (plus (upto t) answer) b
      ∙ ap (xor (evaluate n (upto t) b)) (evaluate-latest n (plus (upto t) answer) b t lt (filling-is K A t e).1 before
      ∙ ap (λ z. xor z (answer t)) (upto-above t t (omega arith))
      ∙ own)
      ∙ xor-other (evaluate n (upto t) b) (evaluate n r (filling_of K A t))
    where
      b : Ids
      b = relative_boundary K A (filling_of K A t)

      out : is_outside K A t ≡ true
      out = (bounding-true K A t e).1

      lt : t < n
      lt = (outside-parts K A t out).0

      before : (q : ℕ) → q < t → plus (upto t) answer q ≡ false
      before q less =
          (λ i. xor (upto-below t q less i) (answer-below q (omega (arith, less, lt)) i)) ∙ xor-self (value q (upto q))

      own : answer t ≡ xor (evaluate n r (filling_of K A t)) (evaluate n (upto t) b)
      own = answer-below t lt ∙ λ i. (out i && eq-eqb (dim K t) p d i)
          && cond (e i) (xor (evaluate n r (filling_of K A t)) (evaluate n (upto t) (relative_boundary K A (filling_of K A t)))) (v t)

  module _ (k : IsComplex K) (closed : (c : Ids) → IsRelativeChain K A (p + 1) c → relative_boundary K A c ≡ empty → evaluate (length K) r c ≡ false) where
    fills : (m : ℕ) (c : Ids) → IsRelativeChain K A (p + 1) c → Within m (relative_boundary K A c)
        → evaluate n answer (relative_boundary K A c) ≡ evaluate n r c
    fills zero c C w =
        let none : relative_boundary K A c ≡ empty = empty-no_member (relative_boundary K A c) (λ q e. omega (arith, w q e)) in
        ap (evaluate n answer) none ∙ evaluate-empty n answer ∙ sym (closed c C none)
    fills (suc m) c C w = ⊎_elim
        (λ (has : relative_boundary K A c m ≡ true). with_latest (fills m) has)
        (λ (out : relative_boundary K A c m ≡ false).
        fills m c C (λ q e. omega (arith, w q e, λ (s : q ≡ m). true≢false (sym e ∙ ap (relative_boundary K A c) s ∙ out))))
        (cases_Bool (relative_boundary K A c m))
      where
        F : Ids
        F = filling_of K A m

        with_latest : ((c : Ids) → IsRelativeChain K A (p + 1) c → Within m (relative_boundary K A c) → evaluate n answer (relative_boundary K A c) ≡ evaluate n r c)
            → relative_boundary K A c m ≡ true → evaluate n answer (relative_boundary K A c) ≡ evaluate n r c
        with_latest rest has = xor-cancels (evaluate n answer (relative_boundary K A c)) (evaluate n r c) (evaluate n r F)
            (ap (xor (evaluate n answer (relative_boundary K A c))) (sym (answer-bounding m bounds d))
            ∙ sym (evaluate-plus n answer (relative_boundary K A c) (relative_boundary K A F))
            ∙ ap (evaluate n answer) (sym (relative_boundary-plus K A c F))
            ∙ rest (plus c F) (relative-plus K A (p + 1) c F C filling) within
            ∙ evaluate-plus n r c F)
          where
            d : dim K m ≡ p
            d = (relative_boundary-chain K A k p c C).chain.degree m has

            bounds : is_relatively_bounding K A m ≡ true
            bounds = bounding-holds K A m (record {
              bound = relative_boundary K A c;
              is_boundary = record { filling = c; chain = subst (λ q. IsRelativeChain K A (q + 1) c) (sym d) C; is = refl };
              latest = record { member = has; greatest = λ q e. omega (arith, w q e) };
            })

            filling : IsRelativeChain K A (p + 1) F
            filling = subst (λ q. IsRelativeChain K A (q + 1) F) d (filling-is K A m bounds).0

            latest : IsLatest (relative_boundary K A F) m
            latest = (filling-is K A m bounds).1

            within : Within m (relative_boundary K A (plus c F))
            within q e = ⊎_elim
                (λ (same : q ≡ m). absurd (true≢false
                (sym e ∙ ap (relative_boundary K A (plus c F)) same ∙ ap (λ z. z m) (relative_boundary-plus K A c F) ∙ λ i. xor (has i) (latest.member i))))
                (λ (other : q ≡ m → ⊥). elim (plus-source (relative_boundary K A c) (relative_boundary K A F) q (sym (ap (λ z. z q) (relative_boundary-plus K A c F)) ∙ e)) [
                  | inl h ↦ omega (arith, other, w q h)
                  | inr h ↦ omega (arith, other, latest.greatest q h)
                ])
                (cases_eq q m)

    pub answer-fills : (c : Ids) → IsRelativeChain K A (p + 1) c → evaluate n answer (relative_boundary K A c) ≡ evaluate n r c
    answer-fills c C = fills n c C (relative_boundary-within K A c)

    pub answer-coboundary : IsComplex A → IsPart K A → IsRelativeChain K A (p + 1) r → (x : ℕ) → coboundary K answer x ≡ r x
    answer-coboundary a_ok part R x = by (cases_Bool (coboundary K answer x)) (cases_Bool (r x))
      where
        own : IsRelativeChain K A (p + 1) (coboundary K answer)
        own = relative-coboundary K A k a_ok part p answer answer-chain

        at : (C : Ids) → IsRelativeChain K A (p + 1) C → C x ≡ true → coboundary K answer x ≡ r x
        at c C m =
            sym (evaluate-single n (coboundary K answer) x (C.chain.there x m))
            ∙ relative-transposes K A p answer (single x) answer-chain
            ∙ answer-fills (single x) (relative-single K A (p + 1) x (relative-outside K A (p + 1) c C x m) (C.chain.degree x m))
            ∙ evaluate-single n r x (C.chain.there x m)

        by : (coboundary K answer x ≡ true) ⊎ (coboundary K answer x ≡ false) → (r x ≡ true) ⊎ (r x ≡ false) → coboundary K answer x ≡ r x
        by (inl m) _ = at (coboundary K answer) own m
        by (inr _) (inl m) = at r R m
        by (inr e) (inr f) = e ∙ sym f
