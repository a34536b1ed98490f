-- The first simplex of a complex.
--     first-point          it is a vertex
--     first-essential      and essential
--     first-betti          where each other vertex is bounding, the Betti number of degree 0 is one
use Rattle.std.proofs.Common.{◌≡◌, ℕ, ◌<◌, ◌≤◌, true, false, not, ◌&&◌, length, nat_eq, eqb-true, eq-eqb, refl, sym, ap, subst, ◌∙◌, arith, ⊎_elim}
use Rattle.std.proofs.lemmas.Bool.{true≢false, and_parts, and_from, cases_lt, false_from_ne_true}
use Rattle.homology.specs.Parity.{odd}
use Rattle.homology.specs.Sets.{single}
use Rattle.homology.specs.Complexes.{Complex, IsComplex, HasFace, dim, simplex_at}
use Rattle.homology.specs.Chains.{IsChain, boundary_of}
use Rattle.homology.specs.Kinds.{betti, is_positive, is_bounding, is_essential}
use Rattle.homology.proofs.ParityLaws.{odd-same, odd-one}
use Rattle.homology.proofs.SetLaws.{image-single}
use Rattle.homology.proofs.BoundaryLaws.{boundary_of-vertex}
use Rattle.homology.proofs.KindSteps.{tests-same}
use Rattle.homology.proofs.KindLaws.{is_positive-holds, is_bounding-true}
use Rattle.manifold_links.proofs.CountLaws.{count-one}
use Rattle.manifold_links.proofs.EndsLaws.{even-ends}

module _ (L : Complex) (c : IsComplex L) (some : 0 < length L) where
  pub first-point : length (simplex_at L 0) ≡ 1
  first-point = ⊎_elim
      (λ (wide : 1 < length (simplex_at L 0)). let face : HasFace L 0 0 = c.closed 0 0 some wide (omega (arith, wide)) in absurd (omega (arith, face.earlier)))
      (λ (le : length (simplex_at L 0) ≤ 1). omega (arith, le, (c.simplices 0 some).nonempty))
      (cases_lt 1 (length (simplex_at L 0)))

  pub first-essential : is_essential L 0 ≡ true
  first-essential = and_from (is_positive L 0) (not (is_bounding L 0)) positive (ap not bounding)
    where
      positive : is_positive L 0 ≡ true
      positive = is_positive-holds L c 0 (record {
        cycle = single 0;
        is_cycle = record {
          chain = record { there = λ q m. omega (arith, eqb-true q 0 m, some); degree = λ q m. ap (dim L) (eqb-true q 0 m) };
          closed = image-single (length L) (boundary_of L) 0 some ∙ boundary_of-vertex L c 0 some (omega (arith, first-point));
        };
        latest = record { member = refl; greatest = λ q m. omega (arith, eqb-true q 0 m) };
      })

      -- a sum of edges has an even number of ends
      bounding : is_bounding L 0 ≡ false
      bounding = false_from_ne_true (is_bounding L 0) (λ m.
          let b = (is_bounding-true L c 0 m).0 in
          let chain : IsChain L 1 b.is_boundary.filling = subst (λ d. IsChain L d b.is_boundary.filling) (omega (arith, first-point)) b.is_boundary.chain in
          let odd_one : odd (length L) b.bound ≡ true =
          odd-same (length L) b.bound (λ q. nat_eq q 0 && true) (λ q qh. tests-same (b.bound q) (nat_eq q 0 && true)
          (λ e. and_from (nat_eq q 0) true (eq-eqb q 0 (omega (arith, b.latest.greatest q e))) refl)
          (λ e. ap b.bound (eqb-true q 0 (and_parts (nat_eq q 0) true e).0) ∙ b.latest.member))
          ∙ odd-one (length L) 0 (λ _. true) some in
          true≢false (sym odd_one ∙ ap (odd (length L)) b.is_boundary.is ∙ even-ends L c b.is_boundary.filling chain))

  pub first-betti : ((t : ℕ) → t < length L → length (simplex_at L t) ≡ 1 → 0 < t → is_bounding L t ≡ true) → betti L 0 ≡ 1
  first-betti others = count-one (is_essential L) (λ t. nat_eq (dim L t) 0) 0 (length L) 0 (omega arith) (omega (arith, some)) (λ t le lt. at t (omega (arith, lt)))
    where
      at : (t : ℕ) → t < length L → (nat_eq (dim L t) 0 && is_essential L t) ≡ nat_eq t 0
      at t h = tests-same (nat_eq (dim L t) 0 && is_essential L t) (nat_eq t 0)
          (λ m. let both = and_parts (nat_eq (dim L t) 0) (is_essential L t) m in
          let one : length (simplex_at L t) ≡ 1 = omega (arith, eqb-true (dim L t) 0 both.0, (c.simplices t h).nonempty) in
          ⊎_elim
          (λ (low : 0 < t). absurd (true≢false (sym (and_parts (is_positive L t) (not (is_bounding L t)) both.1).1 ∙ ap not (others t h one low))))
          (λ (le : t ≤ 0). eq-eqb t 0 (omega (arith, le)))
          (cases_lt 0 t))
          (λ m. let same : t ≡ 0 = eqb-true t 0 m in
          and_from (nat_eq (dim L t) 0) (is_essential L t) (eq-eqb (dim L t) 0 (ap (dim L) same ∙ omega (arith, first-point))) (ap (is_essential L) same ∙ first-essential))
