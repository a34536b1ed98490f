-- The empty link, and one of two numbers.
--     of-two, first-of, second-of      what holds of both holds of each that is one of them
--     nothing-betti     nothing lies over a simplex of the dimension of the complex, so its link is empty
use Rattle.std.proofs.Common.{◌≡◌, ℕ, ◌<◌, ◌≤◌, true, false, [], ◌∷◌, map, length, nat_eq, eqb-true, refl, sym, ap, subst, arith, ⊎_elim}
use Rattle.std.specs.List.{range_with_len}
use Rattle.std.proofs.lemmas.Bool.{true≢false, or_cases, or_left, or_right}
use Rattle.homology.specs.Sets.{set_of}
use Rattle.homology.specs.Complexes.{Complex, IsComplex, dimensions, simplex_at}
use Rattle.homology.specs.Kinds.{betti}
use Rattle.homology.proofs.ParityLaws.{nat_eq-self}
use Rattle.manifolds.specs.Closed.{in_order}
use Rattle.manifolds.specs.Links.{link, link_betti, sphere_counts}
use Rattle.manifold_links.proofs.StarLaws.{reached-none, reached-all}

-- one of two numbers
pub of-two : (p q t : ℕ) → set_of (p ∷ q ∷ []) t ≡ true → (P : ℕ → Type 0) → P p → P q → P t
of-two p q t m P at_p at_q = ⊎_elim
    (λ (first : nat_eq t p ≡ true). subst P (sym (eqb-true t p first)) at_p)
    (λ (later : set_of (q ∷ []) t ≡ true). ⊎_elim
    (λ (second : nat_eq t q ≡ true). subst P (sym (eqb-true t q second)) at_q)
    (λ (none : false ≡ true). absurd (true≢false (sym none)))
    (or_cases (nat_eq t q) false later))
    (or_cases (nat_eq t p) (set_of (q ∷ []) t) m)

pub first-of : (p q : ℕ) → set_of (p ∷ q ∷ []) p ≡ true
first-of p q = or_left (nat_eq p p) (set_of (q ∷ []) p) (nat_eq-self p)

pub second-of : (p q : ℕ) → set_of (p ∷ q ∷ []) q ≡ true
second-of p q = or_right (nat_eq q p) (set_of (q ∷ []) q) (or_left (nat_eq q q) false (nat_eq-self q))

module _ (K : Complex) (c : IsComplex K) (x : ℕ) (h : x < length K) where
  pub nothing-betti : dimensions K ≤ length (simplex_at K x) → link_betti K (simplex_at K x) ≡ sphere_counts 0
  unfolding link
  nothing-betti most =
      ap (λ xs. map (betti (in_order K xs)) (range_with_len 0 (dimensions (in_order K xs))))
      (sym (reached-all K c x 0 [] [] h (omega (arith, most)) (reached-none K (simplex_at K x)) (λ k lt. absurd (omega (arith, lt))) (λ t. refl)))
