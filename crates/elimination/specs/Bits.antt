-- Bits of machine words.
--     bit words q         whether the bit at place q is 1: the places of a word go up by its bits, those of the next word follow
--     row_of n words      the bits at the places below n
use Rattle.std.specs.Prelude.{ℕ, ◌/◌, ◌%◌, ◌==◌, Bool, List, map, slice_index_or}
use Rattle.std.specs.Int.{bit_at}
use Rattle.std.specs.List.{range_with_len}

abbrev pub bit : List ℕ → ℕ → Bool
bit words q = bit_at (slice_index_or words (q / 64) 0) (q % 64) == 1

abbrev pub row_of : ℕ → List ℕ → List Bool
row_of n words = map (bit words) (range_with_len 0 n)
