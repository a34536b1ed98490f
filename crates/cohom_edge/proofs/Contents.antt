-- Lemmas on what ends of the outside hold, where they tell it.
use Rattle.std.proofs.Common.{◌≡◌, ℕ, ◌+◌, ◌≤◌, ◌<◌, List, [], ◌∷◌, ◌++◌, length, min, arith, take, drop, Option, refl, sym, ◌∙◌, ap, length-take-le, take-append-drop, ◌-◌, length-drop}
use Rattle.std.proofs.Math.Seq.{take-add, take-append_seam, take-length}
use Rattle.std.proofs.lemmas.List.{drop-drop}
use Rattle.std.proofs.KnownBytes.{Appends-trans}
use Rattle.std.specs.Io.KnownBytes.{Appends}

-- all of the rest past the first n
pub rest_whole : (n : ℕ) (xs : List ℕ) → take (length xs - n) (drop n xs) ≡ drop n xs
rest_whole n xs = rw (sym (length-drop n xs)) (take-length (drop n xs))

-- after the first n of some bytes, the next m of them: the first n + m
pub appends_more : (a b c : Option (List ℕ)) (n m : ℕ) (xs : List ℕ) → Appends a b (take n xs) → Appends b c (take m (take (length xs - n) (drop n xs))) → Appends a c (take (n + m) xs)
appends_more a b c n m xs p q = rw (take-add n m xs) (Appends-trans a b c (take n xs) (take m (drop n xs)) p (rw (sym (rest_whole n xs)) q))

-- the bytes past the first given: n of them, copied before something else, and those past them
pub split_given : (xs copied other : List ℕ) (given n : ℕ) → n ≤ length (drop given xs) → copied ≡ take n (drop given xs) → drop given xs ≡ take n (copied ++ other) ++ drop (given + n) xs
split_given xs copied other given n fits same =
    let long : length copied ≡ n = ap length same ∙ length-take-le n (drop given xs) fits in
    let front : take n (copied ++ other) ≡ copied = rw (sym long) (take-append_seam copied other) in
    rw (front, same, sym (drop-drop n given xs)) (sym (take-append-drop n (drop given xs)))

-- the least of a piece, what is left and the room is 0 only where nothing is left
pub ends_at_zero : (xs : List ℕ) (piece room n : ℕ) → 0 < piece → 0 < room → n ≡ min (min piece (length xs)) room → (n ≡ 0 → xs ≡ []) × (xs ≡ [] → n ≡ 0)
ends_at_zero [] piece room n p r same = (λ _. refl, λ _. omega (arith, same))
ends_at_zero (x ∷ xs) piece room n p r same = (λ zero. absurd (omega (arith, same, zero, p, r)), λ none. absurd (cc none))
