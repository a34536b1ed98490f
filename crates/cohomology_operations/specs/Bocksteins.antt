-- The Bockstein of cochains modulo 2.
--     faces_with A rest s     how many faces of s, which leave out a place k with k % 2 = rest, have the value one under A
--     bockstein K a           the coboundary with alternating signs of the values of a as the integers 0 and 1, halved, and then
--                             taken modulo 2
-- The faces without a place 0, 2, 4, .. count with the sign plus, those without a place 1, 3, 5, .. with minus. The difference is
-- taken without its sign, since half of it is odd or even with either sign. At a simplex at which a is no cocycle the half is
-- rounded down.
-- Source: the Bockstein of the coefficients 0 -> Z/2 -> Z/4 -> Z/2 -> 0, A. Hatcher, Algebraic Topology, section 3.E.
use Rattle.std.specs.Prelude.{ℕ, ◌+◌, ◌-◌, ◌/◌, ◌%◌, ◌==◌, Bool, ◌&&◌, List, length}
use Rattle.std.specs.List.{count_by, range_with_len, remove}
use Rattle.homology.specs.Sets.{Ids}
use Rattle.homology.specs.Complexes.{Complex, simplex_at}
use Rattle.products.specs.Products.{value_at}

abbrev pub faces_with : (List ℕ → Bool) → ℕ → List ℕ → ℕ
faces_with A rest s = count_by (λ k. k % 2 == rest && A (remove s k)) (range_with_len 0 (length s))

abbrev pub difference : ℕ → ℕ → ℕ
difference m n = (m - n) + (n - m)

unfoldable pub bockstein : Complex → Ids → Ids
bockstein K a = λ x.
    difference (faces_with (value_at K a) 0 (simplex_at K x)) (faces_with (value_at K a) 1 (simplex_at K x)) / 2 % 2 == 1
