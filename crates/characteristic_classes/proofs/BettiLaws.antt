-- Betti numbers of complementary degrees.
--     free-independent     where the zero word alone is degenerate the rows of the pairing are independent
--     betti-few            so there are no more than entries
--     betti-same           in both degrees there are as many
use Rattle.std.proofs.Common.{◌≡◌, ℕ, ◌-◌, ◌≤◌, ◌&&◌, [], ◌∷◌, sym, ap, ◌∙◌, subst, arith}
use Rattle.homology.specs.Sets.{set_of}
use Rattle.homology.specs.Complexes.{Complex, IsComplex}
use Rattle.homology.specs.Kinds.{betti}
use Rattle.homology.proofs.ParityLaws.{and-comm, odd-same}
use Rattle.manifolds.specs.Closed.{top}
use Rattle.characteristic_classes.specs.Pairings.{pair}
use Rattle.characteristic_classes.proofs.WordLaws.{listed, listed-at, listed-word, odd_over-listed}
use Rattle.characteristic_classes.proofs.DegeneracyLaws.{row-degenerate, IsFree}
use Rattle.characteristic_classes.proofs.RankLaws.{Independent, independent-few}

module _ (K : Complex) (ok : IsComplex K) where
  free-independent : (p : ℕ) → IsFree K p → Independent (betti K p) (betti K (top K - p)) (λ j l. pair K p (j ∷ []) (l ∷ []))
  free-independent p free x sums j lt = sym (listed-at (betti K p) x j lt) ∙ ap (λ w. set_of w j) none
    where
      none : listed (betti K p) x ≡ []
      none = free (listed (betti K p) x) (listed-word K p x) (row-degenerate K ok p (listed (betti K p) x) (listed-word K p x) (λ l below.
          odd_over-listed (betti K p) x (λ k. pair K p (k ∷ []) (l ∷ []))
          ∙ odd-same (betti K p) (λ k. pair K p (k ∷ []) (l ∷ []) && set_of (listed (betti K p) x) k) (λ k. x k && pair K p (k ∷ []) (l ∷ []))
          (λ k h. ap (λ c. pair K p (k ∷ []) (l ∷ []) && c) (listed-at (betti K p) x k h) ∙ and-comm (pair K p (k ∷ []) (l ∷ [])) (x k))
          ∙ sums l below))

  pub betti-few : (p : ℕ) → IsFree K p → betti K p ≤ betti K (top K - p)
  betti-few p free = independent-few (betti K (top K - p)) (betti K p) (λ j l. pair K p (j ∷ []) (l ∷ [])) (free-independent p free)

  pub betti-same : (p : ℕ) → p ≤ top K → IsFree K p → IsFree K (top K - p) → betti K p ≡ betti K (top K - p)
  betti-same p le free other =
      let back : top K - (top K - p) ≡ p = omega arith in
      let few : betti K p ≤ betti K (top K - p) = betti-few p free in
      let many : betti K (top K - p) ≤ betti K p = subst (λ m. betti K (top K - p) ≤ betti K m) back (betti-few (top K - p) other) in
      omega arith
