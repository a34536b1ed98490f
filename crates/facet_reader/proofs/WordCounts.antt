-- How many words there are.
--     few-left     of a line of at most 1,048,575 bytes no more words are left than these
use Rattle.std.proofs.Common.{◌≡◌, ℕ, ◌+◌, ◌≤◌, Bool, true, false, cond, List, [], ◌∷◌, length, drop, refl, ap, arith, length-drop, ltb-true}
use Rattle.std.specs.Prelude.{nat_lt}
use Rattle.std.specs.List.{slice_split, onto_first, filter}
use Rattle.language.specs.Words.{Word, is_gap, placed, words_from}

-- how many bytes the parts have
abbrev bytes_in : List (List ℕ) → ℕ
bytes_in [] = 0
bytes_in (part ∷ parts) = length part + bytes_in parts

-- a part that is not empty has a byte
with-part : (b : Bool) (part : List ℕ) (w : Word) (rest : List Word) (n : ℕ) → nat_lt 0 (length part) ≡ b → length rest ≤ n → length (cond b (w ∷ rest) rest) ≤ length part + n
with-part true part w rest n e few = omega (arith, ltb-true 0 (length part) e)
with-part false part w rest n e few = omega arith

kept : (n : ℕ) (parts : List (List ℕ)) → length (filter (λ w. nat_lt 0 (length w.bytes)) (placed n parts)) ≤ bytes_in parts
kept n [] = omega arith
kept n (part ∷ parts) =
    let column : ℕ = n + length part + 1 in
    with-part (nat_lt 0 (length part)) part (record { column = n; bytes = part }) (filter (λ w. nat_lt 0 (length w.bytes)) (placed column parts)) (bytes_in parts) refl (kept column parts)

-- the parts of a line have no more bytes than it
onto_first-bytes : (x : ℕ) (parts : List (List ℕ)) → bytes_in (onto_first x parts) ≡ bytes_in parts + 1
onto_first-bytes x [] = omega arith
onto_first-bytes x (part ∷ parts) = omega arith

split-byte : (b : Bool) (x n : ℕ) (parts : List (List ℕ)) → bytes_in parts ≤ n → bytes_in (cond b ([] ∷ parts) (onto_first x parts)) ≤ n + 1
split-byte true x n parts few = omega arith
split-byte false x n parts few = omega (arith, onto_first-bytes x parts)

split-bytes : (l : List ℕ) → bytes_in (slice_split is_gap l) ≤ length l
split-bytes [] = omega arith
split-bytes (x ∷ xs) = omega (arith, split-byte (is_gap x) x (length xs) (slice_split is_gap xs) (split-bytes xs))

few-words : (n : ℕ) (l : List ℕ) → length (words_from n l) ≤ length l
unfolding words_from
few-words n l = omega (arith, kept n (slice_split is_gap l), split-bytes l)

pub few-left : (l : List ℕ) (at : ℕ) (ws : List Word) → ws ≡ words_from (at + 1) (drop at l) → length l ≤ 1048575 → length ws ≤ 1048575
few-left l at ws e small = omega (arith, ap length e, few-words (at + 1) (drop at l), length-drop at l)
