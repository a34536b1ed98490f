-- Edges have two ends, so a sum of edges has an even number of them.
use Rattle.std.proofs.Common.{◌≡◌, ℕ, ◌<◌, Bool, true, false, ◌&&◌, length, refl, ap, sym, ◌∙◌, arith}
use Rattle.homology.specs.Parity.{odd}
use Rattle.homology.specs.Sets.{Ids}
use Rattle.homology.specs.Complexes.{Complex, IsComplex, incidence, simplex_at}
use Rattle.homology.specs.Chains.{IsChain, boundary}
use Rattle.homology.proofs.ParityLaws.{and-true, odd-same, odd-none, odd-swap, odd-and}
use Rattle.homology.proofs.BoundaryLaws.{incidence-is, incidence_of-wide, is_face, is_face-sum}

module _ (L : Complex) (c0 : IsComplex L) where
  -- an edge has two ends
  edge-ends : (t : ℕ) → t < length L → length (simplex_at L t) ≡ 2 → odd (length L) (λ q. incidence L q t) ≡ false
  edge-ends t h two =
      odd-same (length L) (λ q. incidence L q t) (λ q. odd (length (simplex_at L t)) (is_face (simplex_at L q) (simplex_at L t)))
      (λ q _. incidence-is L q t ∙ incidence_of-wide (simplex_at L q) (simplex_at L t) (omega (arith, two)))
      ∙ odd-swap (length L) (length (simplex_at L t)) (λ q k. is_face (simplex_at L q) (simplex_at L t) k)
      ∙ odd-same (length (simplex_at L t)) (λ k. odd (length L) (λ q. is_face (simplex_at L q) (simplex_at L t) k)) (λ _. true) (λ k kh.
      odd-same (length L) (λ q. is_face (simplex_at L q) (simplex_at L t) k) (λ q. is_face (simplex_at L q) (simplex_at L t) k && true)
      (λ q _. sym (and-true (is_face (simplex_at L q) (simplex_at L t) k)))
      ∙ is_face-sum L c0 t k (λ _. true) h (c0.closed t k h (omega (arith, two)) kh))
      ∙ ap (λ m. odd m (λ _. true)) two

  -- so a sum of edges has an even number of ends
  pub even-ends : (c : Ids) → IsChain L 1 c → odd (length L) (boundary L c) ≡ false
  even-ends c chain =
      odd-swap (length L) (length L) (λ q t. c t && incidence L q t)
      ∙ odd-none (length L) (λ t. odd (length L) (λ q. c t && incidence L q t)) (λ t h. odd-and (length L) (c t) (λ q. incidence L q t) ∙ by t h (c t) refl)
    where
      by : (t : ℕ) → t < length L → (b : Bool) → c t ≡ b → (c t && odd (length L) (λ q. incidence L q t)) ≡ false
      by t h true e = ap (λ z. z && odd (length L) (λ q. incidence L q t)) e ∙ edge-ends t h (omega (arith, chain.degree t e, (c0.simplices t h).nonempty))
      by t h false e = ap (λ z. z && odd (length L) (λ q. incidence L q t)) e
