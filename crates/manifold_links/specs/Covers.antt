-- Which simplices lie in one of the dimension of their complex.
--     is_covered K x           whether x does
--     uncovered_from K i       the ids from i on of those that do not
use Rattle.std.specs.Prelude.{ℕ, ◌-◌, Bool, not, List, length, nat_eq}
use Rattle.std.specs.List.{filter, range_with_len}
use Rattle.homology.specs.Complexes.{Complex, simplex_at}
use Rattle.manifolds.specs.Closed.{times}

abbrev pub is_covered : Complex → ℕ → Bool
is_covered K x = not (nat_eq (times K (simplex_at K x)) 0)

abbrev pub uncovered_from : Complex → ℕ → List ℕ
uncovered_from K i = filter (λ x. nat_eq (times K (simplex_at K x)) 0) (range_with_len i (length K - i))
