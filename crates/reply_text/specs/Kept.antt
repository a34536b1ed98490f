-- What a call that appends leaves where it fails.
--     BeginsWith ys xs     ys is xs with some list after it
-- Source: plain lists; nothing here is taken from elsewhere.
use Rattle.std.specs.Prelude.{◌≡◌, ℕ, List, ◌++◌}

abbrev pub BeginsWith : List ℕ → List ℕ → Type 0
BeginsWith ys xs = (rest : List ℕ) × (ys ≡ xs ++ rest)
