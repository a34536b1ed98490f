-- Lists for the numbers below n, one behind another in one list `ids`.
--     before lengths x              the sum of the lengths of those before x
--     parts starts ids              the lists, each from its start to the next
--     AreStarts starts total        the starts do not fall, and are at most the total
--     HaveRoom starts len n         lists of these lengths end before the next ones begin
--     AreLaid n starts list ends ids
--                                   ids has each of the lists of the numbers below n from its start on, and there is where it ends
use Rattle.std.specs.Prelude.{◌≡◌, ℕ, ◌+◌, ◌-◌, ◌<◌, ◌≤◌, List, length, map, take, slice_index, slice_range}
use Rattle.std.specs.List.{range_with_len, sum_by}

abbrev pub before : List ℕ → ℕ → ℕ
before lengths x = sum_by (λ n. n) (take x lengths)

abbrev pub part : List ℕ → List ℕ → ℕ → List ℕ
part starts ids x = slice_range ids (slice_index starts x) (slice_index starts (x + 1))

abbrev pub parts : List ℕ → List ℕ → List (List ℕ)
parts starts ids = map (part starts ids) (range_with_len 0 (length starts - 1))

pub record AreStarts (starts : List ℕ) (total : ℕ) : Type 0 where
  pub rising : (x : ℕ) → x + 1 < length starts → slice_index starts x ≤ slice_index starts (x + 1)
  pub within : (x : ℕ) → x + 1 < length starts → slice_index starts (x + 1) ≤ total

abbrev pub HaveRoom : List ℕ → (ℕ → ℕ) → ℕ → Type 0
HaveRoom starts len n = (x : ℕ) → x < n → slice_index starts x + len x ≤ slice_index starts (x + 1)

pub record AreLaid (n : ℕ) (starts : List ℕ) (list : ℕ → List ℕ) (ends ids : List ℕ) : Type 0 where
  pub fits : n ≤ length ends
  pub end : (x : ℕ) → x < n → slice_index ends x ≡ slice_index starts x + length (list x)
  pub room : HaveRoom starts (λ x. length (list x)) n
  pub apart : (x y : ℕ) → x < y → y < n → slice_index starts (x + 1) ≤ slice_index starts y
  pub within : (x : ℕ) → x < n → slice_index starts (x + 1) ≤ length ids
  pub listed : (x j : ℕ) → x < n → j < length (list x) → slice_index ids (slice_index starts x + j) ≡ slice_index (list x) j
