-- Ids of simplices.
--     there K ids     those of the listed ids that are ids of simplices of K
use Rattle.std.specs.Prelude.{ℕ, List, length, nat_lt}
use Rattle.std.specs.List.{filter}
use Rattle.homology.specs.Complexes.{Complex}

abbrev pub there : Complex → List ℕ → List ℕ
there K ids = filter (λ id. nat_lt id (length K)) ids
