-- How the link of a simplex is listed, and that it may be attached simplex by simplex.
--     link-turn, link-fresh      the simplices of a link are accepted one after another, and each is new
--     counts-more, zeros-more     the Betti numbers of spheres
use Rattle.std.proofs.Common.{◌≡◌, ℕ, zero, suc, ◌+◌, ◌-◌, ◌<◌, ◌≤◌, Bool, true, false, cond, List, [], ◌∷◌, ◌++◌, map, length, take, drop, nat_eq, refl, sym, ap, ◌∙◌, arith, append-nil, replicate}
use Rattle.std.specs.Prelude.{slice_index_or}
use Rattle.std.specs.List.{dedup, filter, range_with_len}
use Rattle.std.specs.List.Sorted.{IsPermutation}
use Rattle.std.proofs.lemmas.List.Sorted.{Contains-permutation, IsPermutation-sym}
use Rattle.std.proofs.lemmas.List.Kept.{Contains-dedup_nat, Contains-from_dedup}
use Rattle.homology.proofs.ListSetLaws.{Contains-set_of, set_of-Contains}
use Rattle.std.specs.Ordering.{is_lt}
use Rattle.std.proofs.Math.Seq.{take-append-add}
use Rattle.std.proofs.lemmas.Bool.{true≢false}
use Rattle.std.proofs.lemmas.List.{length-take-le, length-map}
use Rattle.std.proofs.lemmas.List.Sums.{length-filter, count_by-le-length}
use Rattle.std.proofs.lemmas.List.FromFn.{length-range_with_len}
use Rattle.homology.specs.Sets.{set_of}
use Rattle.homology.specs.Order.{simplex_cmp, put_simplex, in_simplex_order}
use Rattle.homology.specs.Complexes.{Complex, IsComplex, simplex_at}
use Rattle.homology.specs.Growth.{capacity}
use Rattle.homology.proofs.KindSteps.{tests-same}
use Rattle.homology.proofs.FacetLaws.{Grows-at, judge-next}
use Rattle.simplex_order.proofs.SortLaws.{order-length}
use Rattle.manifolds.specs.Links.{in_link, link, sphere_counts}
use Rattle.manifolds.proofs.LinkLaws.{link-grows}
use Rattle.manifold_links.specs.Turns.{InTurn, IsFresh}

-- a link has no more simplices than the complex
pub link-length : (K : Complex) (s : List ℕ) → length (link K s) ≤ length K
unfolding link
link-length K s =
    let xs : List ℕ = filter (λ x. in_link K s (simplex_at K x)) (range_with_len 0 (length K)) in
    omega (
      arith,
      order-length (map (simplex_at K) xs),
      length-map xs (simplex_at K),
      length-filter (λ x. in_link K s (simplex_at K x)) (range_with_len 0 (length K)),
      count_by-le-length (λ x. in_link K s (simplex_at K x)) (range_with_len 0 (length K)),
      length-range_with_len 0 (length K),
    )

pub link-turn : (K : Complex) → IsComplex K → length K ≤ capacity → (s : List ℕ) → InTurn (link K s)
link-turn K c small s i h =
    judge-next (take i (link K s)) (slice_index_or (link K s) i []) (Grows-at [] (link K s) i (link-grows K c s) h)
    (omega (arith, length-take-le i (link K s) (omega (arith, h)), h, link-length K s, small))

-- the Betti numbers of a sphere of dimension at least 1
pub counts-more : (n : ℕ) → 1 < n → sphere_counts n ≡ 1 ∷ (replicate (n - 2) 0 ++ 1 ∷ [])
counts-more zero h = absurd (omega (arith, h))
counts-more (suc zero) h = absurd (omega (arith, h))
counts-more (suc (suc n)) h = let left : suc (suc n) - 2 ≡ n = omega arith in ap (λ k. 1 ∷ (replicate k 0 ++ 1 ∷ [])) (sym left)

-- one zero more
pub zeros-more : (n : ℕ) → replicate {A = ℕ} (n + 1) 0 ≡ replicate n 0 ++ 0 ∷ []
zeros-more zero = refl
zeros-more (suc n) = let more : suc n + 1 ≡ suc (n + 1) = omega arith in ap (λ k. replicate {A = ℕ} k 0) more ∙ ap (λ l. 0 ∷ l) (zeros-more n)

-- a list that is not empty
pub some-listed : (L : Complex) (b : Bool) → b ≡ nat_eq (length L) 0 → b ≡ false → 0 < length L
some-listed [] b e f = absurd (true≢false (sym e ∙ f))
some-listed (s ∷ L) b e f = omega arith

pub link-fresh : (K : Complex) → IsComplex K → (s : List ℕ) → IsFresh (link K s)
link-fresh K c s i h = (Grows-at [] (link K s) i (link-grows K c s) h).fresh
