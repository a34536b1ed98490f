-- Walks among the cofaces of a simplex x.
--     IsBeside K x z w      z has two cofaces, one of which has w, a coface of x, as a face too
--     Comes K x y n z       a walk from y, in each of whose steps it goes on to such a w, comes to z in n steps
--     IsWalked K x y z      a walk from y comes to z, which is a coface of x with two cofaces
use Rattle.std.specs.Prelude.{◌≡◌, ℕ, zero, suc, ◌<◌, true, length}
use Rattle.homology.specs.Complexes.{Complex, incidence}
use Rattle.complex_store.specs.Cofaces.{cofaces}

pub record IsBeside (K : Complex) (x z w : ℕ) : Type 0 where
  pub edge : ℕ
  pub edge_below : edge < length K
  pub edge_at : incidence K z edge ≡ true
  pub edge_beyond : incidence K w edge ≡ true
  pub below : w < length K
  pub coface : incidence K x w ≡ true
  pub two : length (cofaces K z) ≡ 2

abbrev pub Comes : Complex → ℕ → ℕ → ℕ → ℕ → Type 0
Comes K x y zero z = y ≡ z
Comes K x y (suc n) z = (w : ℕ) × (Comes K x y n w) × (IsBeside K x w z)

pub record IsWalked (K : Complex) (x y z : ℕ) : Type 0 where
  pub steps : ℕ
  pub comes : Comes K x y steps z
  pub two : length (cofaces K z) ≡ 2
