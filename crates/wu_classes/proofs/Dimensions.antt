-- The dimension of a closed complex.
--     closed-some      it has a simplex
--     top-is           so its dimension is one less than the number of its dimensions, and less than MOST_VERTICES
use Rattle.std.proofs.Common.{◌≡◌, ℕ, ◌<◌, ◌≤◌, [], ◌∷◌, length, max, sym, arith}
use Rattle.std.specs.Prelude.{Ok}
use Rattle.std.specs.List.{fold}
use Rattle.homology.specs.Complexes.{Complex, IsComplex, dimensions}
use Rattle.complex_store.specs.Limits.{AreNarrow}
use Rattle.complex_store.proofs.NarrowLaws.{dimensions-narrow}
use Rattle.manifolds.specs.Closed.{closed}
use Rattle.characteristic_classes.proofs.TopLaws.{closed-top}
use Rattle.wu_classes.specs.Duals.{IsTop}

fold-ge : (K : Complex) (a : ℕ) → a ≤ fold (λ n s. max n (length s)) a K
fold-ge [] a = omega arith
fold-ge (s ∷ K) a = omega (arith, fold-ge K (max a (length s)))

empty-open : (n : ℕ) → closed [] ≡ Ok n → ⊥
unfolding closed
empty-open n e = cc

some-dimension : (K : Complex) → IsComplex K → (n : ℕ) → closed K ≡ Ok n → 0 < dimensions K
some-dimension [] ok n e = absurd (empty-open n e)
some-dimension (s ∷ K) ok n e = omega (arith, fold-ge K (max 0 (length s)), (ok.simplices 0 (omega arith)).nonempty)

pub top-is : (K : Complex) → IsComplex K → AreNarrow K → (n : ℕ) → closed K ≡ Ok n → IsTop K n
top-is K ok few n e = record {
  closed = e;
  top = sym (closed-top K n e);
  dimensions = omega (arith, closed-top K n e, some-dimension K ok n e);
  small = omega (arith, closed-top K n e, dimensions-narrow K few, some-dimension K ok n e);
}
