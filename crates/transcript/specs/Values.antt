-- The texts of values, as replies print them.
--     simplex_text s              the vertices in decimal, joined by `-`
--     cochain_text p ss           the degree, `:{`, the simplices joined by `,`, and `}`
--     chain_text p ss             the same with `:[` and `]`
--     class_text p ks             the degree, `:`, and the class numbers, each after a `#`, joined by `+`; `0` where there is none
--     numbers_text ns             each number after a blank
--     words_text ws               each class, which is its degree and its class numbers, after a blank
--     bit_text b                  `1` or `0`
--     rows_text rows              the rows, each of them its bits, joined by `/`; `-` where there is none
--     pairings_text pairings      for each degree from 0 a blank, the degree, `:`, and the rows of its pairing
use Rattle.std.specs.Prelude.{ℕ, Bool, cond, List, [], ◌∷◌, ◌++◌, map, codes, decimal}
use Rattle.std.specs.List.{join_with_byte, flat_map, enumerate_from}

abbrev pub simplex_text : List ℕ → List ℕ
simplex_text s = join_with_byte 45 (map decimal s)

abbrev pub simplices_text : List (List ℕ) → List ℕ
simplices_text ss = join_with_byte 44 (map simplex_text ss)

abbrev pub cochain_text : ℕ → List (List ℕ) → List ℕ
cochain_text p ss = decimal p ++ codes ":{" ++ simplices_text ss ++ codes "}"

abbrev pub chain_text : ℕ → List (List ℕ) → List ℕ
chain_text p ss = decimal p ++ codes ":[" ++ simplices_text ss ++ codes "]"

abbrev pub classes_text : List ℕ → List ℕ
classes_text [] = codes "0"
classes_text (k ∷ ks) = join_with_byte 43 (map (λ n. 35 ∷ decimal n) (k ∷ ks))

abbrev pub class_text : ℕ → List ℕ → List ℕ
class_text p ks = decimal p ++ codes ":" ++ classes_text ks

abbrev pub numbers_text : List ℕ → List ℕ
numbers_text ns = flat_map (λ n. 32 ∷ decimal n) ns

abbrev pub words_text : List (ℕ × List ℕ) → List ℕ
words_text ws = flat_map (λ (p, ks). 32 ∷ class_text p ks) ws

abbrev pub bit_text : Bool → List ℕ
bit_text b = cond b (codes "1") (codes "0")

abbrev pub row_text : List Bool → List ℕ
row_text row = flat_map bit_text row

abbrev pub rows_text : List (List Bool) → List ℕ
rows_text [] = codes "-"
rows_text (row ∷ rows) = join_with_byte 47 (map row_text (row ∷ rows))

abbrev pub pairing_text : ℕ → List (List Bool) → List ℕ
pairing_text p rows = codes " " ++ decimal p ++ codes ":" ++ rows_text rows

abbrev pub pairings_text : List (List (List Bool)) → List ℕ
pairings_text pairings = flat_map (λ (p, rows). pairing_text p rows) (enumerate_from 0 pairings)
