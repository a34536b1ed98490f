-- How many cofaces of a simplex pass a test, counted from the last simplex down, and what these numbers tell of its link.
--     cofaces_from K p i x        how many ids from i on are those of cofaces of x that pass the test p
--     AreCounted K p i counts     counts has this number for each simplex x
--     bounded_of K r x            x has r + 1 cofaces, for each of these this holds with one less in place of r, and so on; for 0 it always holds
--     is_bounded K x              it holds of as many as x has vertices less than the largest simplices: then the link of x is the boundary of a
--                                 simplex
--     AreBounds K i counts marks  counts has for each simplex how many of its cofaces are from i on; from i on marks tells of each whether it is
--                                 bounded, and before i whether all its cofaces from i on are
use Rattle.std.specs.Prelude.{◌≡◌, ℕ, zero, suc, ◌-◌, ◌<◌, ◌≤◌, Bool, true, not, ◌&&◌, List, length, nat_eq, count_by, slice_index_or}
use Rattle.std.specs.List.{range_with_len}
use Rattle.homology.specs.Complexes.{Complex, incidence, simplex_at}
use Rattle.cochain_values.specs.Marks.{marked}
use Rattle.manifolds.specs.Links.{degrees_left}

abbrev pub cofaces_from : Complex → (ℕ → Bool) → ℕ → ℕ → ℕ
cofaces_from K p i x = count_by (λ t. incidence K x t && p t) (range_with_len i (length K - i))

abbrev pub AreCounted : Complex → (ℕ → Bool) → ℕ → List ℕ → Type 0
AreCounted K p i counts = (x : ℕ) → x < length K → slice_index_or counts x 0 ≡ cofaces_from K p i x

-- there are r + 2 cofaces, and none of them fails
abbrev pub bounded_of : Complex → ℕ → ℕ → Bool
bounded_of K zero x = true
bounded_of K (suc r) x = nat_eq (cofaces_from K (λ t. true) 0 x) (suc (suc r)) && nat_eq (cofaces_from K (λ t. not (bounded_of K r t)) 0 x) 0

abbrev pub is_bounded : Complex → ℕ → Bool
is_bounded K x = bounded_of K (degrees_left K (simplex_at K x)) x

pub record AreBounds (K : Complex) (i : ℕ) (counts : List ℕ) (marks : List Bool) : Type 0 where
  pub counted : AreCounted K (λ t. true) i counts
  pub early : (x : ℕ) → x < i → x < length K → marked marks x ≡ nat_eq (cofaces_from K (λ t. not (is_bounded K t)) i x) 0
  pub late : (x : ℕ) → i ≤ x → x < length K → marked marks x ≡ is_bounded K x
  pub fits_counts : length counts ≡ length K
  pub fits_marks : length marks ≡ length K
