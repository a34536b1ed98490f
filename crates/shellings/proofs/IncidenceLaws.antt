-- Faces of one vertex less.
--     lies-incidence      a simplex lies in one with one vertex more exactly where it is a face of that one
use Rattle.std.proofs.Common.{◌≡◌, ℕ, ◌+◌, ◌<◌, true, false, List, length, sym, ap, ◌∙◌, arith, ⊎_elim}
use Rattle.std.proofs.lemmas.Bool.{true≢false, cases_Bool, false_from_ne_true}
use Rattle.homology.specs.Sets.{single, set_of}
use Rattle.homology.specs.Simplices.{same_list}
use Rattle.homology.specs.Complexes.{Complex, IsComplex, simplex_at, incidence}
use Rattle.homology.specs.Chains.{coboundary}
use Rattle.homology.proofs.ParityLaws.{odd-one}
use Rattle.homology.proofs.BoundaryLaws.{same_list-true, same_list-same}
use Rattle.homology.proofs.FaceLists.{Picks-self, Picks-length}
use Rattle.products.specs.Products.{value_at}
use Rattle.products.proofs.SplittingLaws.{delta}
use Rattle.products.proofs.ValueLaws.{value_at-there, value_at-coboundary}
use Rattle.manifolds.specs.Closed.{lies_in}
use Rattle.manifolds.proofs.LinkLaws.{all-at, all-from}
use Rattle.manifolds.proofs.LyingLaws.{picks-lies, picks-same}
use Rattle.shellings.proofs.ShellingFacts.{without, without-has}
use Rattle.shellings.proofs.FaceLaws.{lying-picks, filter-ascends, length-without, delta-same, delta-none, delta-at, some-fails}

module _ (L : Complex) (c : IsComplex L) (y x : ℕ) (ly : y < length L) (lx : x < length L) where
  value-single : (t : List ℕ) → value_at L (single y) t ≡ same_list t (simplex_at L y)
  unfolding value_at
  value-single t = odd-one (length L) y (λ w. same_list t (simplex_at L w)) ly

  -- the incidence is the coboundary of y at x
  incidence-delta : incidence L y x ≡ delta (λ t. same_list t (simplex_at L y)) (simplex_at L x)
  incidence-delta =
      sym (odd-one (length L) y (λ t. incidence L t x) ly)
      ∙ sym (value_at-there L c (coboundary L (single y)) x lx)
      ∙ value_at-coboundary L c (single y) x (simplex_at L x) lx (Picks-self (simplex_at L x))
      ∙ ap (λ F. delta F (simplex_at L x)) (λ i t. value-single t i)

  face-of : length (simplex_at L x) ≡ length (simplex_at L y) + 1 → lies_in (simplex_at L y) (simplex_at L x) ≡ true
      → delta (λ t. same_list t (simplex_at L y)) (simplex_at L x) ≡ true
  face-of long within = ⊎_elim
      (λ (v : (v : ℕ) × (set_of (simplex_at L x) v ≡ true) × (set_of (simplex_at L y) v ≡ false)).
      delta-at v.0 (λ t. same_list t (simplex_at L y)) (simplex_at L x) (c.simplices x lx).ascending v.1
      (λ z P m. false_from_ne_true (same_list z (simplex_at L y)) (λ e.
      true≢false (sym m ∙ ap (λ s. set_of s v.0) (same_list-true z (simplex_at L y) e) ∙ v.2)))
      ∙ same_list-same (without v.0 (simplex_at L x)) (simplex_at L y) (sym (rest v.0 v.1 v.2)))
      (λ (all : (v : ℕ) → set_of (simplex_at L x) v ≡ true → set_of (simplex_at L y) v ≡ true).
      absurd (omega (
        arith,
        long,
        Picks-length (simplex_at L x) (simplex_at L y)
            (lying-picks (simplex_at L x) (simplex_at L y) (c.simplices x lx).ascending (c.simplices y ly).ascending
            (all-from (set_of (simplex_at L y)) (simplex_at L x) all)),
      )))
      (some-fails (set_of (simplex_at L y)) (simplex_at L x))
    where
      rest : (v : ℕ) → set_of (simplex_at L x) v ≡ true → set_of (simplex_at L y) v ≡ false → simplex_at L y ≡ without v (simplex_at L x)
      rest v m out = picks-same (simplex_at L y) (without v (simplex_at L x))
          (lying-picks (simplex_at L y) (without v (simplex_at L x)) (c.simplices y ly).ascending (filter-ascends _ (simplex_at L x) (c.simplices x lx).ascending)
          (all-from (set_of (without v (simplex_at L x))) (simplex_at L y) (λ q h.
          without-has v (simplex_at L x) q (all-at (set_of (simplex_at L x)) (simplex_at L y) within q h) (λ e. true≢false (sym h ∙ ap (set_of (simplex_at L y)) e ∙ out)))))
          (omega (arith, long, length-without v (simplex_at L x) (c.simplices x lx).ascending m))

  no-face : lies_in (simplex_at L y) (simplex_at L x) ≡ false → delta (λ t. same_list t (simplex_at L y)) (simplex_at L x) ≡ false
  no-face apart =
      delta-same (λ t. same_list t (simplex_at L y)) (λ t. false) (simplex_at L x)
      (λ z P. false_from_ne_true (same_list z (simplex_at L y)) (λ e.
      true≢false (sym (picks-lies z (simplex_at L x) P) ∙ ap (λ s. lies_in s (simplex_at L x)) (same_list-true z (simplex_at L y) e) ∙ apart)))
      ∙ delta-none (simplex_at L x)

  pub lies-incidence : length (simplex_at L x) ≡ length (simplex_at L y) + 1 → lies_in (simplex_at L y) (simplex_at L x) ≡ incidence L y x
  lies-incidence long = ⊎_elim
      (λ (within : lies_in (simplex_at L y) (simplex_at L x) ≡ true). within ∙ sym (incidence-delta ∙ face-of long within))
      (λ (apart : lies_in (simplex_at L y) (simplex_at L x) ≡ false). apart ∙ sym (incidence-delta ∙ no-face apart))
      (cases_Bool (lies_in (simplex_at L y) (simplex_at L x)))
