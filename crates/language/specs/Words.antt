-- The words of a line.
--     Word               a run of bytes, and the column at which it begins
--     words_from n l     the words of the bytes l, the first of which stands at column n: the longest runs of bytes other
--                        than blank and tab
--     words l            those of a line, whose columns are counted from 1
use Rattle.std.specs.Prelude.{ℕ, ◌+◌, Bool, ◌||◌, List, [], ◌∷◌, length, nat_lt, ◌==◌}
use Rattle.std.specs.List.{slice_split, filter}

pub record Word : Type 0 where
  pub column : ℕ
  pub bytes : List ℕ

abbrev pub is_gap : ℕ → Bool
is_gap c = c == 32 || c == 9

-- parts that stood one behind the other, with one byte after each, from a column on
abbrev pub placed : ℕ → List (List ℕ) → List Word
placed column [] = []
placed column (part ∷ parts) = record { column = column; bytes = part } ∷ placed (column + length part + 1) parts

unfoldable pub words_from : ℕ → List ℕ → List Word
words_from column l = filter (λ w. nat_lt 0 (length w.bytes)) (placed column (slice_split is_gap l))

abbrev pub words : List ℕ → List Word
words l = words_from 1 l
