-- The cocycle and the cycle of listed class numbers of degree p.
--     simplices-chain         the sum of their essential simplices is a chain of degree p
--     simplices-within        these are simplices of the complex
--     simplices-degree        of dimension p
--     cocycle-found           its values at f are the sum of the canonical cocycles of the classes
--     cocycle-closed          which is a cocycle of degree p
--     own-chain               the canonical cocycle of one class is a cochain
--     cocycle-stands          these are a cochain also on the complex that is seen
--     boundary-some           its boundary is a chain
--     cycle-found             it and phi of its boundary are the sum of the cycles of the classes
--     cycle-chain             which is a chain of degree p
use Rattle.std.proofs.Common.{◌≡◌, ℕ, zero, suc, ◌+◌, ◌<◌, ◌≤◌, ◌⊎◌, inl, inr, List, [], ◌∷◌, map, length, get_or, sym, ap, ◌∙◌, subst, arith, eqb-true}
use Rattle.std.specs.List.{All}
use Rattle.std.proofs.lemmas.Bool.{cases_lt, false_from_ne_true}
use Rattle.std.proofs.lemmas.List.Elements.{All-map}
use Rattle.homology.specs.Sets.{Ids, single, plus, set_of, evaluate, image}
use Rattle.homology.specs.ListSums.{sum_over}
use Rattle.homology.specs.Complexes.{Complex, IsComplex, dim}
use Rattle.homology.specs.Chains.{IsChain, IsCocycle, boundary_of, boundary}
use Rattle.homology.specs.Kinds.{betti}
use Rattle.homology.specs.Contractions.{cycle_of}
use Rattle.homology.proofs.ParityLaws.{and-comm, odd-same}
use Rattle.homology.proofs.SetLaws.{same_members, image-single, image-image, image-none}
use Rattle.homology.proofs.BoundaryLaws.{boundary_of-vertex}
use Rattle.homology.proofs.ListSetLaws.{set_of-one}
use Rattle.homology.proofs.EvaluationLaws.{evaluate-single}
use Rattle.homology.proofs.ListSumLaws.{odd_over-same, sum_over-same, sum_over-plus_maps, image-sum_over, evaluate-sum_over}
use Rattle.factors.specs.Factors.{HasContraction}
use Rattle.factors.proofs.Existence.{contraction-exists}
use Rattle.cohomology.specs.Classes.{essential_at, IsClass, canonical}
use Rattle.cohomology.specs.Cycles.{class_cycle}
use Rattle.cohomology.proofs.Naming.{essential-at}
use Rattle.cohomology.proofs.Canonicals.{canonical-found, canonical-own}
use Rattle.cohomology.proofs.ClassLaws.{empty-chain}
use Rattle.cohomology.proofs.CycleLaws.{class_cycle-found, class_cycle-g}
use Rattle.at_model.specs.Maps.{AreValuesAtF, IsPhiOfChain}
use Rattle.at_model.specs.Reductions.{IsChainOfSome}
use Rattle.class_solver.proofs.Listed.{odd-map, sum-map, sum-chain, sum-cocycle}

-- a simplex alone
single-chain : (K : Complex) (p h : ℕ) → h < length K → dim K h ≡ p → IsChain K p (single h)
single-chain K p h lt d = record {
  there = λ t m. omega (arith, lt, eqb-true t h m);
  degree = λ t m. ap (dim K) (eqb-true t h m) ∙ d;
}

-- one class alone
one_class : (K : Complex) (p k : ℕ) → k < betti K p → IsClass K p (k ∷ [])
one_class K p k lt = record { ascending = λ j h. absurd (omega (arith, h)); numbers = at }
  where
    at : (j d : ℕ) → j < length (k ∷ []) → get_or (k ∷ []) j d < betti K p
    at zero d h = lt
    at (suc j) d h = absurd (omega (arith, h))

-- the boundary of a chain of degree 0 is empty
boundary-chain : (K : Complex) → IsComplex K → (p : ℕ) (c d : Ids) → IsChain K p c → d ≡ boundary K c → ((q : ℕ) → p ≡ q + 1 → IsChain K q d) → IsChainOfSome K d
boundary-chain K ok zero c d chain is below =
    (0, subst (IsChain K 0) (sym (is ∙ image-none (length K) (boundary_of K) c (λ t lt m. boundary_of-vertex K ok t lt (chain.degree t m)))) (empty-chain K 0))
boundary-chain K ok (suc q) c d chain is below = (q, below q (omega arith))

-- of the complex that is seen
pub boundary-some : (K K2 : Complex) → K2 ≡ K → IsComplex K → (p : ℕ) (c d : Ids) → IsChain K p c → d ≡ boundary K2 c → ((q : ℕ) → p ≡ q + 1 → IsChain K2 q d) → IsChainOfSome K d
boundary-some K K2 same ok p c d chain is below =
    let P : Complex → Type 0 = λ k. (q : ℕ) → p ≡ q + 1 → IsChain k q d in
    boundary-chain K ok p c d chain (is ∙ ap (λ k. boundary k c) same) (subst P same below)

-- the canonical cocycle of one class is a cochain
pub own-chain : (K : Complex) → IsComplex K → (p k : ℕ) → k < betti K p → IsChain K p (set_of (canonical K p (k ∷ [])))
own-chain K ok p k lt =
    let H = contraction-exists K ok in (canonical-found K ok H.f (cycle_of K H.phi) H.phi H.is p (k ∷ []) (one_class K p k lt)).0.cocycle.cochain

module _ (K : Complex) (ok : IsComplex K) (p : ℕ) (l : List ℕ) (numbers : All (λ k. k < betti K p) l) where
  abbrev n : ℕ
  n = length K

  -- the essential simplex of a class number
  abbrev e : ℕ → ℕ
  e = essential_at K p

  abbrev A : Ids
  A = sum_over (map e l) single

  pub simplices-chain : IsChain K p A
  simplices-chain = subst (IsChain K p) (sym (sum-map e l single)) (sum-chain K p l (λ k. single (e k)) (λ j d lt.
      let E = essential-at K p (get_or l j d) (numbers j d lt) in single-chain K p (e (get_or l j d)) E.1 E.2))

  pub simplices-within : All (λ h. h < n) (map e l)
  simplices-within = All-map (λ h. h < n) e l (λ j d lt. (essential-at K p (get_or l j d) (numbers j d lt)).1)

  pub simplices-degree : All (λ h. dim K h ≡ p) (map e l)
  simplices-degree = All-map (λ h. dim K h ≡ p) e l (λ j d lt. (essential-at K p (get_or l j d) (numbers j d lt)).2)

  -- the canonical cocycle of one class
  abbrev pub own : ℕ → Ids
  own k = set_of (canonical K p (k ∷ []))

  pub cocycle-closed : IsCocycle K p (sum_over l own)
  cocycle-closed = let H = contraction-exists K ok in sum-cocycle K p l own (λ j d lt.
      (canonical-found K ok H.f (cycle_of K H.phi) H.phi H.is p (get_or l j d ∷ []) (one_class K p (get_or l j d) (numbers j d lt))).0.cocycle)

  pub cocycle-found : (v : Ids) → AreValuesAtF K A v → sum_over l own ≡ v
  cocycle-found v V = let H = contraction-exists K ok in same_members (sum_over l own) v (λ t. at H t (cases_lt t n))
    where
      at : HasContraction K → (t : ℕ) → (t < n) ⊎ (n ≤ t) → sum_over l own t ≡ v t
      at H t (inl lt) =
          odd_over-same l (λ k. own k t) (λ k. H.f t (e k)) (λ j d h. canonical-own K ok H.f (cycle_of K H.phi) H.phi H.is p (get_or l j d) (numbers j d h) t lt)
          ∙ sym (odd-map e l (H.f t))
          ∙ sym (odd_over-same (map e l) (λ h. evaluate n (H.f t) (single h)) (H.f t) (λ j d h. evaluate-single n (H.f t) _ (simplices-within j d h)))
          ∙ sym (evaluate-sum_over n (H.f t) (map e l) single)
          ∙ odd-same n _ _ (λ h _. and-comm (H.f t h) (A h))
          ∙ sym (V.values H.f (cycle_of K H.phi) H.phi H.is t lt)
      at H t (inr past) =
          false_from_ne_true (sum_over l own t) (λ m. omega (arith, past, cocycle-closed.cochain.there t m))
          ∙ sym (false_from_ne_true (v t) (λ m. omega (arith, past, V.there t m)))

  -- on the complex that is seen
  pub cocycle-stands : (K2 : Complex) (v : Ids) → K2 ≡ K → AreValuesAtF K A v → IsChain K2 p v
  cocycle-stands K2 v same V =
      let P : Complex → Type 0 = λ k. IsChain k p v in
      subst P (sym same) (subst (IsChain K p) (cocycle-found v V) cocycle-closed.cochain)

  -- the cycle of one class
  abbrev pub cycle : ℕ → Ids
  cycle k = set_of (class_cycle K p (k ∷ []))

  pub cycle-chain : IsChain K p (sum_over l cycle)
  cycle-chain = let H = contraction-exists K ok in sum-chain K p l cycle (λ j d lt.
      (class_cycle-found K ok H.f (cycle_of K H.phi) H.phi H.is p (get_or l j d ∷ []) (one_class K p (get_or l j d) (numbers j d lt))).0.cycle.chain)

  -- g of an essential simplex is the simplex and phi of its boundary
  one_cycle : (H : HasContraction K) (k : ℕ) → k < betti K p → cycle k ≡ cycle_of K H.phi (e k)
  one_cycle H k lt =
      class_cycle-g K ok H.f (cycle_of K H.phi) H.phi H.is p (k ∷ []) (one_class K p k lt)
      ∙ ap (image n (cycle_of K H.phi)) (set_of-one (e k))
      ∙ image-single n (cycle_of K H.phi) (e k) (essential-at K p k lt).1

  pub cycle-found : (c d b z : Ids) → c ≡ A → d ≡ boundary K c → IsPhiOfChain K d b → z ≡ plus c b → sum_over l cycle ≡ z
  cycle-found c d b z same is filling sum = at (contraction-exists K ok)
    where
      at : HasContraction K → sum_over l cycle ≡ z
      at H =
          sum_over-same l cycle (λ k. cycle_of K H.phi (e k)) (λ j d lt. one_cycle H (get_or l j d) (numbers j d lt))
          ∙ sym (sum-map e l (cycle_of K H.phi))
          ∙ sum_over-plus_maps (map e l) single (λ h. image n H.phi (boundary_of K h))
          ∙ ap (plus A) (sym (image-sum_over n (λ h. image n H.phi (boundary_of K h)) (map e l) simplices-within) ∙ sym (image-image n n H.phi (boundary_of K) A))
          ∙ ap (λ s. plus s (image n H.phi (boundary K s))) (sym same)
          ∙ ap (λ s. plus c (image n H.phi s)) (sym is)
          ∙ ap (plus c) (filling H.f (cycle_of K H.phi) H.phi H.is)
          ∙ sym sum
