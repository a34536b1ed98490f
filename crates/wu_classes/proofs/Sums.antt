-- Sums of degrees, and the greatest of them.
--     greatest-more      the greatest so far, with one degree more
--     total-le           a sum of degrees that are 99 at most
--     sum-drop-le        the sum of the last ones is no more than that of all
use Rattle.std.proofs.Common.{ℕ, ◌+◌, ◌*◌, ◌<◌, ◌≤◌, List, [], ◌∷◌, length, take, drop, arith}
use Rattle.std.specs.Prelude.{slice_index, sum}
use Rattle.std.specs.List.{All}
use Rattle.std.proofs.lemmas.List.Elements.{All-head, All-tail, All-more, All-weaker}
use Rattle.std.proofs.lemmas.List.Sums.{sum_by-cons, sum_by_more, sum_by-take-le, sum_by-take-drop}

pub record GreatestSoFar (xs : List ℕ) (i g h : ℕ) : Type 0 where
  pub more : g ≤ h
  pub last : slice_index xs i ≤ h
  pub small : h ≤ g + slice_index xs i

pub greatest-more : (xs : List ℕ) (i g h : ℕ) → i < length xs → All (λ k. k ≤ g) (take i xs) → g ≤ sum (take i xs) → GreatestSoFar xs i g h
    → All (λ k. k ≤ h) (take (i + 1) xs) × (h ≤ sum (take (i + 1) xs))
greatest-more xs i g h lt above small G =
    let all : All (λ k. k ≤ h) (take i xs) = All-weaker (λ k. k ≤ g) (λ k. k ≤ h) (λ k le. omega (arith, le, G.more)) (take i xs) above in (
      All-more (λ k. k ≤ h) xs i 0 lt all G.last,
      omega (arith, small, G.small, sum_by_more (λ x. x) xs i 0 lt),
    )

pub total-le : (xs : List ℕ) → All (λ k. k ≤ 99) xs → sum xs ≤ 99 * length xs
total-le [] all = omega arith
total-le (x ∷ xs) all =
    omega (arith, All-head (λ k. k ≤ 99) x xs all, sum_by-cons (λ y. y) x xs, total-le xs (All-tail (λ k. k ≤ 99) x xs all))

pub total-more : (xs : List ℕ) (i : ℕ) → All (λ k. k ≤ 99) xs → i < length xs → sum (take i xs) + slice_index xs i ≤ 99 * length xs
total-more xs i all lt = omega (arith, sum_by_more (λ x. x) xs i 0 lt, sum_by-take-le (λ x. x) xs (i + 1), total-le xs all)

pub sum-drop-le : (xs : List ℕ) (i : ℕ) → sum (drop i xs) ≤ sum xs
sum-drop-le xs i = omega (arith, sum_by-take-drop (λ x. x) xs i)
