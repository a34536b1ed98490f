-- The greatest number of vertices of a simplex.
--     longest-most       it is at most what each has at most
--     longest-least      no simplex has more
use Rattle.std.proofs.Common.{ℕ, zero, suc, ◌<◌, ◌≤◌, max, [], ◌∷◌, length, arith}
use Rattle.std.specs.List.{fold}
use Rattle.homology.specs.Complexes.{Complex, simplex_at}

pub longest-most : (L : Complex) (m b : ℕ) → m ≤ b → ((t : ℕ) → t < length L → length (simplex_at L t) ≤ b) → fold (λ n s. max n (length s)) m L ≤ b
longest-most [] m b le h = le
longest-most (s ∷ L) m b le h = longest-most L (max m (length s)) b (omega (arith, le, h 0 (omega arith))) (λ t lt. h (suc t) (omega (arith, lt)))

longest-start : (L : Complex) (m : ℕ) → m ≤ fold (λ n s. max n (length s)) m L
longest-start [] m = omega arith
longest-start (s ∷ L) m = omega (arith, longest-start L (max m (length s)))

pub longest-least : (L : Complex) (m t : ℕ) → t < length L → length (simplex_at L t) ≤ fold (λ n s. max n (length s)) m L
longest-least [] m t h = absurd (omega (arith, h))
longest-least (s ∷ L) m zero h = omega (arith, longest-start L (max m (length s)))
longest-least (s ∷ L) m (suc t) h = longest-least L (max m (length s)) t (omega (arith, h))
