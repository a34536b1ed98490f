-- Rows of entries modulo 2, and their sums.
--     entry r                 the entries of the row r as a set of places; zero past its end
--     row_at rows k           the row with number k, from 0
--     entries_at rows k       its entries
--     IsExpression rows numbers r     these ascending numbers are of rows, and those rows have the sum r
--     AreIndependent rows     no rows but none have the sum zero, whichever ascending numbers name them
--     Given                   the width of all rows, and the rows that were given
-- Source: linear independence over the field with two elements; any textbook.
use Rattle.std.specs.Prelude.{◌≡◌, ℕ, ◌<◌, Bool, false, List, [], length, slice_index_or}
use Rattle.std.specs.List.{All}
use Rattle.std.specs.List.Sorted.{IsStrictlyIncreasing}
use Rattle.homology.specs.Sets.{Ids, empty}
use Rattle.homology.specs.ListSums.{sum_over}

abbrev pub entry : List Bool → Ids
entry r = λ q. slice_index_or r q false

abbrev pub row_at : List (List Bool) → ℕ → List Bool
row_at rows k = slice_index_or rows k []

abbrev pub entries_at : List (List Bool) → ℕ → Ids
entries_at rows k = entry (row_at rows k)

pub record IsExpression (rows : List (List Bool)) (numbers : List ℕ) (r : List Bool) : Type 0 where
  pub ascending : IsStrictlyIncreasing numbers
  pub within : All (λ k. k < length rows) numbers
  pub sum : sum_over numbers (entries_at rows) ≡ entry r

pub record AreIndependent (rows : List (List Bool)) : Type 0 where
  pub none : (numbers : List ℕ) → IsStrictlyIncreasing numbers → All (λ k. k < length rows) numbers → sum_over numbers (entries_at rows) ≡ empty → numbers ≡ []

pub record Given : Type 0 where
  pub width : ℕ
  pub rows : List (List Bool)
