-- What is kept of a closed complex without degenerate classes, in the code's terms.
--     IsTop K n                 n is the dimension of K, which is closed
--     IsFree K p                no class word of degree p but zero is degenerate
--     IsPairing K p given       the rows are those of the pairing of degree p, there are no more than entries, and no class of this
--                               degree is degenerate
--     IsDual K d                K is closed and has no degenerate class, and d has its dimension and its pairings
--     AreCocycles K words cs    cs has, degree by degree from 0, the canonical cocycles of these class words
use Rattle.std.specs.Prelude.{◌≡◌, ℕ, ◌+◌, ◌-◌, ◌<◌, ◌≤◌, true, List, [], length, slice_index_or, None, Ok}
use Rattle.simplex_order.specs.declared.limits.TheConstants.{MOST_VERTICES}
use Rattle.homology.specs.Sets.{set_of}
use Rattle.homology.specs.Complexes.{Complex, dimensions}
use Rattle.homology.specs.Kinds.{betti}
use Rattle.cohomology.specs.Classes.{IsClass}
use Rattle.manifolds.specs.Closed.{closed, top}
use Rattle.characteristic_classes.specs.Pairings.{cocycle, first_degenerate, is_degenerate, pairing}
use Rattle.cochain_values.specs.Cochains.{Graded, StandsOn}
use Rattle.elimination.specs.Rows.{Given}
use Rattle.wu_classes.specs.declared.dual.Dual.{Dual}

pub record IsTop (K : Complex) (n : ℕ) : Type 0 where
  pub closed : closed K ≡ Ok n
  pub top : top K ≡ n
  pub dimensions : dimensions K ≡ n + 1
  pub small : n < MOST_VERTICES

abbrev pub IsFree : Complex → ℕ → Type 0
IsFree K p = (w : List ℕ) → IsClass K p w → is_degenerate K p w ≡ true → w ≡ []

pub record IsPairing (K : Complex) (p : ℕ) (g : Given) : Type 0 where
  pub width : g.width ≡ betti K (top K - p)
  pub rows : g.rows ≡ pairing K p
  pub few : betti K p ≤ betti K (top K - p)
  pub free : IsFree K p

pub record IsDual (K : Complex) (d : Dual) : Type 0 where
  pub top : IsTop K d.dim
  pub none : first_degenerate K ≡ None
  pub count : length d.bases.items ≡ d.dim + 1
  pub each : (p : ℕ) (g : Given) → p ≤ d.dim → IsPairing K p (slice_index_or d.bases.items p g)

pub record IsCocycleOf (K : Complex) (p : ℕ) (w : List ℕ) (a : Graded) : Type 0 where
  pub degree : a.degree ≡ p
  pub set : set_of a.ids ≡ cocycle K p w
  pub stands : StandsOn K a

abbrev pub AreCocycles : Complex → (ℕ → List ℕ) → List Graded → Type 0
AreCocycles K words cs = (p : ℕ) (d : Graded) → p < length cs → IsCocycleOf K p (words p) (slice_index_or cs p d)
