-- The first simplex at which a coboundary is 1.
--     tested-cocycle    a cocycle has none
--     broken            the least one is the first that is found
--     read              what is read of a complex that is seen
use Rattle.std.proofs.Common.{◌≡◌, ℕ, ◌<◌, true, false, ◌⊎◌, inl, inr, length, refl, sym, ap, ◌∙◌, subst, Option, Some, None, MatchOption}
use Rattle.std.proofs.lemmas.Bool.{true≢false, cases_order}
use Rattle.homology.specs.Sets.{Ids}
use Rattle.homology.specs.Complexes.{Complex}
use Rattle.homology.specs.Chains.{IsCocycle, coboundary}
use Rattle.cohomology.specs.Searches.{first_broken}
use Rattle.cohomology.proofs.TestLaws.{broken-first}
use Rattle.cochain_values.specs.Cochains.{IsFirst}
use Rattle.class_solver.specs.Refusals.{IsBroken, IsTestedCocycle}

-- what a search finds
abbrev Found : Complex → Ids → Option ℕ → Type 0
Found K a o =
    MatchOption o ((x : ℕ) → x < length K → coboundary K a x ≡ false)
    (λ x. (x < length K) × (coboundary K a x ≡ true) × ((y : ℕ) → y < x → coboundary K a y ≡ false))

pub tested-cocycle : (K : Complex) (p : ℕ) (a : Ids) → IsCocycle K p a → IsTestedCocycle K p a
tested-cocycle K p a A = record { none = at (first_broken K a) (broken-first K a); cocycle = A }
  where
    at : (o : Option ℕ) → Found K a o → o ≡ None
    at None none = refl
    at (Some x) is = absurd (true≢false (sym is.1 ∙ A.closed x is.0))

pub broken : (K : Complex) (a : Ids) (x : ℕ) → IsFirst (length K) (coboundary K a) x → IsBroken K a x
broken K a x F = record { first = at (first_broken K a) (broken-first K a); there = F.below }
  where
    at : (o : Option ℕ) → Found K a o → o ≡ Some x
    at None none = absurd (true≢false (sym F.member ∙ none x F.below))
    at (Some y) is = by (cases_order y x)
      where
        by : (y ≡ x) ⊎ ((y < x) ⊎ (x < y)) → Some y ≡ Some x
        by (inl same) = ap (λ z. Some z) same
        by (inr (inl before)) = absurd (true≢false (sym is.1 ∙ F.least y before))
        by (inr (inr after)) = absurd (true≢false (sym F.member ∙ is.2 x after))

pub read : (K K2 : Complex) (p : ℕ) (a : Ids) (first : Option ℕ) → K2 ≡ K
    → MatchOption first (IsCocycle K2 p a) (IsFirst (length K2) (coboundary K2 a)) → MatchOption first (IsTestedCocycle K p a) (IsBroken K a)
read K K2 p a first same found =
    let P : Complex → Type 0 = λ k. MatchOption first (IsCocycle k p a) (IsFirst (length k) (coboundary k a)) in
    at first (subst P same found)
  where
    at : (o : Option ℕ) → MatchOption o (IsCocycle K p a) (IsFirst (length K) (coboundary K a)) → MatchOption o (IsTestedCocycle K p a) (IsBroken K a)
    at None A = tested-cocycle K p a A
    at (Some x) F = broken K a x F
