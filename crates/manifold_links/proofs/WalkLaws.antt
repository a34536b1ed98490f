-- Walks around a simplex.
--     comes-on          a walk goes on
--     walked-in         it comes to one more
--     walked-coface     a walk comes to cofaces
--     walked-over       and these are reached from the first
--     walked-betti      where it comes to all, and each has two cofaces, the link has the Betti numbers of a circle
use Rattle.std.proofs.Common.{◌≡◌, ℕ, zero, suc, ◌+◌, ◌<◌, ◌≤◌, true, false, List, [], ◌∷◌, ◌++◌, length, nat_eq, eqb-true, sym, ap, subst, ◌∙◌, arith, ⊎_elim}
use Rattle.std.proofs.lemmas.Bool.{true≢false, or_cases}
use Rattle.std.proofs.lemmas.List.Folds.{list_any-append}
use Rattle.homology.specs.Sets.{set_of}
use Rattle.homology.specs.Complexes.{Complex, IsComplex, dimensions, incidence, simplex_at}
use Rattle.complex_store.specs.Cofaces.{cofaces}
use Rattle.manifolds.specs.Links.{link_betti, sphere_counts}
use Rattle.manifold_links.specs.Circles.{Comes, IsBeside, IsWalked}
use Rattle.manifold_links.proofs.RoundLaws.{ReachedOver, over-self, over-step, round-betti}

pub comes-on : (K : Complex) (x y n w z : ℕ) → Comes K x y n w → IsBeside K x w z → Comes K x y (n + 1) z
comes-on K x y n w z come beside = let one : suc n ≡ n + 1 = omega arith in subst (λ m. Comes K x y m z) one (w, come, beside)

pub walked-in : (K : Complex) (x y n a : ℕ) (old new : List ℕ) → ((z : ℕ) → set_of old z ≡ true → IsWalked K x y z) → new ≡ old ++ a ∷ [] → Comes K x y n a → length (cofaces K a) ≡ 2
    → (z : ℕ) → set_of new z ≡ true → IsWalked K x y z
walked-in K x y n a old new before is come two z m = ⊎_elim
    (λ (o : set_of old z ≡ true). before z o)
    (λ (last : set_of (a ∷ []) z ≡ true). ⊎_elim
    (λ (e : nat_eq z a ≡ true). subst (IsWalked K x y) (sym (eqb-true z a e)) (record { steps = n; comes = come; two = two }))
    (λ (none : false ≡ true). absurd (true≢false (sym none)))
    (or_cases (nat_eq z a) false last))
    (or_cases (set_of old z) (set_of (a ∷ []) z) (sym (list_any-append (λ t. nat_eq z t) old (a ∷ [])) ∙ ap (λ (l : List ℕ). set_of l z) (sym is) ∙ m))

module _ (K : Complex) (c : IsComplex K) (x : ℕ) (h : x < length K) (wide : dimensions K ≤ length (simplex_at K x) + 2) (y : ℕ) (yh : y < length K) (xy : incidence K x y ≡ true) where
  walked-coface : (n z : ℕ) → Comes K x y n z → (z < length K) × (incidence K x z ≡ true)
  walked-coface zero z e = (subst (λ t. t < length K) e yh, subst (λ t. incidence K x t ≡ true) e xy)
  walked-coface (suc n) z m = (m.2.below, m.2.coface)

  walked-over : (pairs : (z : ℕ) → z < length K → incidence K x z ≡ true → length (cofaces K z) ≡ 2) (n z : ℕ) → Comes K x y n z → ReachedOver K c x h wide pairs y z
  walked-over pairs zero z e = subst (ReachedOver K c x h wide pairs y) e (over-self K c x h wide pairs y)
  walked-over pairs (suc n) z m =
      let from = walked-coface n m.0 m.1 in
      over-step K c x h wide pairs y m.0 z m.2.edge (walked-over pairs n m.0 m.1) from.0 m.2.below m.2.edge_below from.1 m.2.coface m.2.edge_at m.2.edge_beyond

  pub walked-betti : ((z : ℕ) → z < length K → incidence K x z ≡ true → IsWalked K x y z) → link_betti K (simplex_at K x) ≡ sphere_counts 2
  walked-betti all =
      let pairs : (z : ℕ) → z < length K → incidence K x z ≡ true → length (cofaces K z) ≡ 2 = λ z zh e. (all z zh e).two in
      round-betti K c x h wide pairs y yh xy (λ z zh e. walked-over pairs (all z zh e).steps z (all z zh e).comes)
