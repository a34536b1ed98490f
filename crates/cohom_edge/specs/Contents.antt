-- What a source has left and what a sink holds, where they tell it.
--     EndsAtZero left n          a read of n bytes: none exactly where none were left
--     AppendsPart old new bytes  the sink holds what it held and a proper beginning of the bytes
-- The other words are those of std: `ReadConsumes`, `WriteAppends`, `Appends` of its `Io.KnownBytes`.
use Rattle.std.specs.Prelude.{◌≡◌, ℕ, ◌<◌, List, [], Option, length, take, IfSome, ◌↔◌}
use Rattle.std.specs.Io.KnownBytes.{Appends}

-- a read gave n bytes: none exactly where none were left
abbrev pub EndsAtZero : Option (List ℕ) → ℕ → Type 0
EndsAtZero left n = IfSome left (λ xs. (n ≡ 0) ↔ (xs ≡ []))

-- where the contents are told, they grow by the first n of the bytes, and n is not all of them
abbrev pub AppendsPart : Option (List ℕ) → Option (List ℕ) → List ℕ → Type 0
AppendsPart old new bytes = (n : ℕ) × (n < length bytes) × Appends old new (take n bytes)
