-- Counts along a run of numbers.
--     count-none, count-one      none of them passes two tests; one alone does
--     sphere-list                numbers that are 1 at both ends and else 0 are the Betti numbers of a sphere
--     point-list                 and those that are 1 at the first place alone are 1 and zeros
use Rattle.std.proofs.Common.{◌≡◌, ℕ, zero, suc, ◌+◌, ◌-◌, ◌<◌, ◌≤◌, Bool, true, false, cond, ◌&&◌, [], ◌∷◌, ◌++◌, map, nat_eq, replicate, refl, ap, ◌∙◌, sym, arith, eq-eqb, ⊎_elim}
use Rattle.std.specs.Prelude.{count_by}
use Rattle.std.specs.List.{filter, range_with_len}
use Rattle.std.proofs.lemmas.Bool.{cases_eq}
use Rattle.std.proofs.lemmas.List.Sums.{sum_by-cons}
use Rattle.homology.proofs.ParityLaws.{nat_eq-apart}
use Rattle.manifolds.specs.Links.{sphere_counts}

-- how many of a run of numbers pass two tests
abbrev both_count : (e q : ℕ → Bool) → ℕ → ℕ → ℕ
both_count e q n a = count_by e (filter q (range_with_len a n))

both_count-more : (e q : ℕ → Bool) (n a : ℕ) → both_count e q (suc n) a ≡ cond (q a && e a) 1 0 + both_count e q n (a + 1)
both_count-more e q n a = by (q a)
  where
    by : (b : Bool) → count_by e (cond b (a ∷ filter q (range_with_len (a + 1) n)) (filter q (range_with_len (a + 1) n))) ≡ cond (b && e a) 1 0 + both_count e q n (a + 1)
    by true = sum_by-cons (λ y. cond (e y) 1 0) a (filter q (range_with_len (a + 1) n))
    by false = omega arith

-- none does
pub count-none : (e q : ℕ → Bool) (n a : ℕ) → ((t : ℕ) → a ≤ t → t < a + n → (q t && e t) ≡ false) → both_count e q n a ≡ 0
count-none e q zero a h = refl
count-none e q (suc n) a h = omega (
  arith,
  both_count-more e q n a,
  ap {B = ℕ} (λ b. cond b 1 0) (h a (omega arith) (omega arith)),
  count-none e q n (a + 1) (λ t le lt. h t (omega (arith, le)) (omega (arith, lt))),
)

-- one number alone does
pub count-one : (e q : ℕ → Bool) (z n a : ℕ) → a ≤ z → z < a + n → ((t : ℕ) → a ≤ t → t < a + n → (q t && e t) ≡ nat_eq t z) → both_count e q n a ≡ 1
count-one e q z zero a low high h = absurd (omega (arith, low, high))
count-one e q z (suc n) a low high h = ⊎_elim
    (λ (same : a ≡ z). omega (
      arith,
      both_count-more e q n a,
      ap {B = ℕ} (λ b. cond b 1 0) (h a (omega arith) (omega arith) ∙ eq-eqb a z same),
      count-none e q n (a + 1) (λ t le lt. h t (omega (arith, le)) (omega (arith, lt)) ∙ nat_eq-apart t z (λ s. omega (arith, le, s, same))),
    ))
    (λ (other : a ≡ z → ⊥). omega (
      arith,
      both_count-more e q n a,
      ap {B = ℕ} (λ b. cond b 1 0) (h a (omega arith) (omega arith) ∙ nat_eq-apart a z other),
      count-one e q z n (a + 1) (omega (arith, low, other)) (omega (arith, high)) (λ t le lt. h t (omega (arith, le)) (omega (arith, lt))),
    ))
    (cases_eq a z)

-- zeros and a one
zeros-one : (b : ℕ → ℕ) (d a : ℕ) → b (a + d) ≡ 1 → ((p : ℕ) → a ≤ p → p < a + d → b p ≡ 0) → map b (range_with_len a (suc d)) ≡ replicate d 0 ++ 1 ∷ []
zeros-one b zero a one zeros = let here : a ≡ a + 0 = omega arith in ap (λ n. n ∷ []) (ap b here ∙ one)
zeros-one b (suc d) a one zeros =
    let last : (a + 1) + d ≡ a + suc d = omega arith in
    (λ i. zeros a (omega arith) (omega arith) i ∷ zeros-one b d (a + 1) (ap b last ∙ one) (λ p le lt. zeros p (omega (arith, le)) (omega (arith, lt))) i)

pub sphere-list : (b : ℕ → ℕ) (n : ℕ) → 1 < n → b 0 ≡ 1 → b (n - 1) ≡ 1 → ((p : ℕ) → 0 < p → p < n - 1 → b p ≡ 0) → map b (range_with_len 0 n) ≡ sphere_counts n
sphere-list b zero h first last zeros = absurd (omega (arith, h))
sphere-list b (suc zero) h first last zeros = absurd (omega (arith, h))
sphere-list b (suc (suc d)) h first last zeros =
    let at : suc (suc d) - 1 ≡ 1 + d = omega arith in
    (λ i. first i ∷ zeros-one b d 1 (ap b (sym at) ∙ last) (λ p le lt. zeros p (omega (arith, le)) (omega (arith, lt))) i)

-- zeros
only-zeros : (b : ℕ → ℕ) (d a : ℕ) → ((p : ℕ) → a ≤ p → p < a + d → b p ≡ 0) → map b (range_with_len a d) ≡ replicate d 0
only-zeros b zero a zeros = refl
only-zeros b (suc d) a zeros = λ i. zeros a (omega arith) (omega arith) i ∷ only-zeros b d (a + 1) (λ p le lt. zeros p (omega (arith, le)) (omega (arith, lt))) i

pub point-list : (b : ℕ → ℕ) (d : ℕ) → b 0 ≡ 1 → ((p : ℕ) → 0 < p → p ≤ d → b p ≡ 0) → map b (range_with_len 0 (suc d)) ≡ 1 ∷ replicate d 0
point-list b d first zeros = λ i. first i ∷ only-zeros b d 1 (λ p low high. zeros p (omega (arith, low)) (omega (arith, high))) i
