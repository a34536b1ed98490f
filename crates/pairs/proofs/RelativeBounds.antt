-- Relative coboundaries, and their canonical bounds.
--     coboundary-at_cycle                   a relative coboundary is zero at relative cycles
--     plus-relative_coboundary, empty-relative_coboundary, plus-relative_cocycle     sums
--     test-coboundary, coboundary-tests     the search for a relative coboundary finds exactly what exists
--     values-one                            two relative cocycles with the same values at negative and essential simplices
--     bound-found, bound-one                the canonical relative bound of a relative coboundary
--     zero-coboundary                       a relative cocycle that is zero at relative cycles is a relative coboundary
use Rattle.std.proofs.Common.{◌≡◌, ℕ, zero, suc, ◌+◌, Bool, true, false, ◌&&◌, ◌||◌, length, refl, sym, ap, ◌∙◌, subst, add-one, ⊎_elim, ◌⊎◌, inl, inr}
use Rattle.std.specs.List.Sorted.{IsStrictlyIncreasing}
use Rattle.std.proofs.lemmas.Bool.{true≢false, and_parts, and_from, cases_Bool, cases_eq, false_from_ne_true}
use Rattle.homology.specs.Parity.{xor}
use Rattle.homology.specs.Sets.{Ids, empty, single, plus, set_of, evaluate}
use Rattle.homology.specs.Complexes.{Complex, IsComplex, dim}
use Rattle.homology.specs.Chains.{boundary_of, coboundary}
use Rattle.homology.specs.Kinds.{is_empty}
use Rattle.homology.proofs.ParityLaws.{xor-self, and-false, odd-same, odd-none}
use Rattle.homology.proofs.SetLaws.{same_members, plus-cancels, image-single}
use Rattle.homology.proofs.EvaluationLaws.{evaluate-empty, evaluate-single}
use Rattle.homology.proofs.BoundaryLaws.{boundary_of-vertex}
use Rattle.homology.proofs.KindLaws.{is_empty-true, is_empty-holds}
use Rattle.cohomology.specs.Searches.{first}
use Rattle.cohomology.proofs.Cocycles.{coboundary-plus}
use Rattle.cohomology.proofs.Canonicals.{none-below, is_empty-below, xor-none}
use Rattle.pairs.specs.Pairs.{IsPart, is_outside, IsRelativeChain, relative_boundary, relative_chains, IsRelativeCycle, IsRelativeCocycle, IsRelativeCoboundary, is_relatively_negative, is_relatively_bounding, is_relatively_essential}
use Rattle.pairs.specs.RelativeClasses.{is_relative_coboundary, IsRelativeBound, relative_bound}
use Rattle.pairs.proofs.RelativeKinds.{RelativeWith, outside-parts, relative-outside, relative-plus, relative-empty, relative-found, relative-finds, relative-first, relative-transposes}
use Rattle.pairs.proofs.Prescribed.{relative-single, answer, answer-chain, answer-free, answer-coboundary}
use Rattle.pairs.proofs.RelativeCycles.{essential-free, negative-free, relative-cocycle_empty}

-- at cycles coboundaries are zero
pub coboundary-at_cycle : (K A : Complex) (p : ℕ) (e z : Ids) → IsRelativeCoboundary K A p e → relative_boundary K A z ≡ empty → evaluate (length K) e z ≡ false
coboundary-at_cycle K A zero e z none closed = odd-none (length K) _ (λ t lt. ap (λ s. s t && z t) none)
coboundary-at_cycle K A (suc p) e z u closed =
    odd-same (length K) _ _ (λ t lt. ap (λ b. b && z t) (u.2 t lt))
    ∙ relative-transposes K A p u.0 z u.1
    ∙ ap (evaluate (length K) u.0) closed
    ∙ evaluate-empty (length K) u.0

pub plus-relative_coboundary : (K A : Complex) (p : ℕ) (a b : Ids) → IsRelativeCoboundary K A p a → IsRelativeCoboundary K A p b → IsRelativeCoboundary K A p (plus a b)
plus-relative_coboundary K A zero a b x y = λ i. plus (x i) (y i)
plus-relative_coboundary K A (suc p) a b u v =
    (plus u.0 v.0, relative-plus K A p u.0 v.0 u.1 v.1, λ x lt. (λ i. xor (u.2 x lt i) (v.2 x lt i)) ∙ sym (ap (λ z. z x) (coboundary-plus K u.0 v.0)))

pub empty-relative_coboundary : (K A : Complex) (p : ℕ) → IsRelativeCoboundary K A p empty
empty-relative_coboundary K A zero = refl
empty-relative_coboundary K A (suc p) = (empty, relative-empty K A p, λ x lt. sym (odd-none (length K) _ (λ t _. refl)))

pub plus-relative_cocycle : (K A : Complex) (p : ℕ) (a b : Ids) → IsRelativeCocycle K A p a → IsRelativeCocycle K A p b → IsRelativeCocycle K A p (plus a b)
plus-relative_cocycle K A p a b X Y = record {
  cochain = relative-plus K A p a b X.cochain Y.cochain;
  closed = λ x lt. ap (λ z. z x) (coboundary-plus K a b) ∙ λ i. xor (X.closed x lt i) (Y.closed x lt i);
}

-- the searches for coboundaries
pub test-coboundary : (K A : Complex) (p : ℕ) (e : Ids) → IsRelativeChain K A p e → is_relative_coboundary K A p e ≡ true → IsRelativeCoboundary K A p e
test-coboundary K A zero e chain t = is_empty-true (length K) e chain.chain.there t
test-coboundary K A (suc p) e chain t =
    let u = relative-found K A p (λ u. is_empty (length K) (plus e (coboundary K u))) t in
    (u.set, u.chain, λ x lt. xor-none (e x) (coboundary K u.set x) (none-below (length K) (plus e (coboundary K u.set)) u.passes x lt))

pub coboundary-tests : (K A : Complex) (p : ℕ) (e : Ids) → IsRelativeCoboundary K A p e → is_relative_coboundary K A p e ≡ true
coboundary-tests K A zero e none = is_empty-holds (length K) e none
coboundary-tests K A (suc p) e u = relative-finds K A p (λ u. is_empty (length K) (plus e (coboundary K u))) (record {
  set = u.0;
  chain = u.1;
  passes = is_empty-below (length K) (plus e (coboundary K u.0)) (λ x lt. ap (λ b. xor b (coboundary K u.0 x)) (u.2 x lt) ∙ xor-self (coboundary K u.0 x));
})

module _ (K A : Complex) (k : IsComplex K) (a_ok : IsComplex A) (part : IsPart K A) where
  abbrev n : ℕ
  n = length K

  -- two cocycles with the same values
  pub values-one : (p : ℕ) (a b : Ids) → IsRelativeCocycle K A p a → IsRelativeCocycle K A p b
      → ((t : ℕ) → is_relatively_negative K A t ≡ true → a t ≡ b t) → ((t : ℕ) → is_relatively_essential K A t ≡ true → a t ≡ b t) → a ≡ b
  values-one p a b X Y negative essential = plus-cancels a b (relative-cocycle_empty K A k a_ok part p (plus a b) (plus-relative_cocycle K A p a b X Y)
      (λ t e. ap (λ c. xor c (b t)) (negative t e) ∙ xor-self (b t))
      (λ t e. ap (λ c. xor c (b t)) (essential t e) ∙ xor-self (b t)))

  pub bound-one : (p : ℕ) (e u v : Ids) → IsRelativeBound K A p e u → IsRelativeBound K A p e v → u ≡ v
  bound-one p e u v U V = plus-cancels u v (relative-cocycle_empty K A k a_ok part p (plus u v) cocycle
      (λ t h. λ i. xor (U.negative t h i) (V.negative t h i))
      (λ t h. λ i. xor (U.essential t h i) (V.essential t h i)))
    where
      cocycle : IsRelativeCocycle K A p (plus u v)
      cocycle = record {
        cochain = relative-plus K A p u v U.chain V.chain;
        closed = λ x lt. ap (λ z. z x) (coboundary-plus K u v) ∙ (λ i. xor (U.bounds x lt i) (V.bounds x lt i)) ∙ xor-self (e x);
      }

  -- the bound: coboundary e, and 0 at simplices that do not bound
  answer-zero : (p : ℕ) (e : Ids) (t : ℕ) → is_outside K A t ≡ true → is_relatively_bounding K A t ≡ false → answer K A p e empty t ≡ false
  answer-zero p e t out free = ⊎_elim
      (λ (d : dim K t ≡ p). answer-free K A p e empty t out d free)
      (λ (other : dim K t ≡ p → ⊥). false_from_ne_true (answer K A p e empty t) (λ m. other ((answer-chain K A p e empty).chain.degree t m)))
      (cases_eq (dim K t) p)

  bound-exists : (p : ℕ) (e : Ids) → IsRelativeChain K A (p + 1) e
      → ((c : Ids) → IsRelativeChain K A (p + 1) c → relative_boundary K A c ≡ empty → evaluate n e c ≡ false)
      → IsRelativeBound K A p e (answer K A p e empty)
  bound-exists p e chain closed = record {
    chain = answer-chain K A p e empty;
    bounds = λ x _. answer-coboundary K A p e empty k closed a_ok part chain x;
    essential = λ t h. let f = essential-free K A k a_ok part t h in answer-zero p e t f.0 f.1;
    negative = λ t h. let f = negative-free K A k a_ok part t h in answer-zero p e t f.0 f.1;
  }

  -- what the search for a bound tests
  abbrev bounds_at : Ids → Ids → Bool
  bounds_at e u = is_empty n (plus e (coboundary K u)) && is_empty n (λ t. (is_relatively_essential K A t || is_relatively_negative K A t) && u t)

  bound-is : (p : ℕ) (e : Ids) → relative_bound K A (suc p) e ≡ first (λ u. bounds_at e (set_of u)) (relative_chains K A p)
  unfolding relative_bound
  bound-is p e = refl

  tests-bound : (p : ℕ) (e u : Ids) → IsRelativeChain K A p u → bounds_at e u ≡ true → IsRelativeBound K A p e u
  tests-bound p e u chain t =
      let both = and_parts (is_empty n (plus e (coboundary K u))) (is_empty n (λ t. (is_relatively_essential K A t || is_relatively_negative K A t) && u t)) t in
      let zeros = none-below n (λ t. (is_relatively_essential K A t || is_relatively_negative K A t) && u t) both.1 in
      record {
        chain = chain;
        bounds = λ x lt. sym (xor-none (e x) (coboundary K u x) (none-below n (plus e (coboundary K u)) both.0 x lt));
        essential = λ t h.
            sym (ap (λ b. (b || is_relatively_negative K A t) && u t) h)
            ∙ zeros t (outside-parts K A t (essential-free K A k a_ok part t h).0).0;
        negative = λ t h.
            sym (at (is_relatively_essential K A t) (u t) (is_relatively_negative K A t) h)
            ∙ zeros t (outside-parts K A t (negative-free K A k a_ok part t h).0).0;
      }
    where
      at : (x y z : Bool) → z ≡ true → ((x || z) && y) ≡ y
      at true y z h = refl
      at false y z h = ap (λ b. b && y) h

  bound-tests : (p : ℕ) (e u : Ids) → IsRelativeBound K A p e u → bounds_at e u ≡ true
  bound-tests p e u U = and_from (is_empty n (plus e (coboundary K u))) (is_empty n (λ t. (is_relatively_essential K A t || is_relatively_negative K A t) && u t))
      (is_empty-below n (plus e (coboundary K u)) (λ x lt. ap (xor (e x)) (U.bounds x lt) ∙ xor-self (e x)))
      (is_empty-below n (λ t. (is_relatively_essential K A t || is_relatively_negative K A t) && u t) (λ t _. at t (cases_Bool (is_relatively_essential K A t)) (cases_Bool (is_relatively_negative K A t))))
    where
      at : (t : ℕ) → (is_relatively_essential K A t ≡ true) ⊎ (is_relatively_essential K A t ≡ false)
          → (is_relatively_negative K A t ≡ true) ⊎ (is_relatively_negative K A t ≡ false)
          → ((is_relatively_essential K A t || is_relatively_negative K A t) && u t) ≡ false
      at t (inl h) _ = ap (λ b. (is_relatively_essential K A t || is_relatively_negative K A t) && b) (U.essential t h) ∙ and-false (is_relatively_essential K A t || is_relatively_negative K A t)
      at t (inr _) (inl h) = ap (λ b. (is_relatively_essential K A t || is_relatively_negative K A t) && b) (U.negative t h) ∙ and-false (is_relatively_essential K A t || is_relatively_negative K A t)
      at t (inr x) (inr y) = λ i. (x i || y i) && u t

  bound-candidate : (p : ℕ) (e : Ids) → IsRelativeChain K A (suc p) e → IsRelativeCoboundary K A (suc p) e → RelativeWith K A p (bounds_at e)
  bound-candidate p e chain is =
      let U = bound-exists p e (subst (λ q. IsRelativeChain K A q e) (sym (add-one p)) chain) (λ c _ closed. coboundary-at_cycle K A (suc p) e c is closed) in
      record { set = answer K A p e empty; chain = U.chain; passes = bound-tests p e (answer K A p e empty) U }

  pub bound-found : (p : ℕ) (e : Ids) → IsRelativeChain K A (suc p) e → IsRelativeCoboundary K A (suc p) e
      → IsRelativeBound K A p e (set_of (relative_bound K A (suc p) e))
  bound-found p e chain is =
      let found = relative-first K A p (bounds_at e) (bound-candidate p e chain is) in
      subst (λ u. IsRelativeBound K A p e (set_of u)) (sym (bound-is p e))
      (tests-bound p e (set_of (first (λ u. bounds_at e (set_of u)) (relative_chains K A p))) found.1 found.0)

  pub bound-ascending : (p : ℕ) (e : Ids) → IsRelativeChain K A (suc p) e → IsRelativeCoboundary K A (suc p) e
      → IsStrictlyIncreasing (relative_bound K A (suc p) e)
  bound-ascending p e chain is =
      subst IsStrictlyIncreasing (sym (bound-is p e)) (relative-first K A p (bounds_at e) (bound-candidate p e chain is)).2

  -- a cocycle that is zero at cycles is a coboundary
  pub zero-coboundary : (p : ℕ) (r : Ids) → IsRelativeCocycle K A p r → ((z : Ids) → IsRelativeCycle K A p z → evaluate n r z ≡ false) → IsRelativeCoboundary K A p r
  zero-coboundary zero r R zeros = same_members r empty (λ x. false_from_ne_true (r x) (λ m.
      let lt = R.cochain.chain.there x m in
      let d = R.cochain.chain.degree x m in
      true≢false (sym m ∙ sym (evaluate-single n r x lt) ∙ zeros (single x) (record {
        chain = relative-single K A 0 x (relative-outside K A 0 r R.cochain x m) d;
        closed = same_members _ _ (λ q. ap (λ z. z q && is_outside K A q) (image-single n (boundary_of K) x lt ∙ boundary_of-vertex K k x lt d));
      }))))
  zero-coboundary (suc p) r R zeros = (answer K A p r empty, answer-chain K A p r empty, λ x _. sym (answer-coboundary K A p r empty k closed a_ok part chain x))
    where
      chain : IsRelativeChain K A (p + 1) r
      chain = subst (λ q. IsRelativeChain K A q r) (sym (add-one p)) R.cochain

      closed : (c : Ids) → IsRelativeChain K A (p + 1) c → relative_boundary K A c ≡ empty → evaluate n r c ≡ false
      closed c C none = zeros c (record { chain = subst (λ q. IsRelativeChain K A q c) (add-one p) C; closed = none })
