-- Cup-i products of cochains, over the field with two elements.
--     odd_of L p          whether p holds at an odd number of places of the list L
--     value_at K a s      the value of the cochain a at the simplex of K with the vertices s; zero where K has no such simplex
--     half parity us      of us = u_1, u_2, .. the numbers u_j with u_j + j even (parity 0) or odd (parity 1)
--     without us s        s without the entries at the places us
--     product_at i A B s  the cup-i product of two cochains, given as functions of vertex lists, at the vertices s
--     cup K i a b         the cup-i product of two cochains of K
--     cup_below K i a b   the product with index i - 1, which is zero for i = 0
-- At a simplex of dimension n the product is the sum, over all sets U of n - i of its positions 0 to n, of the value of a at
-- the face without the first half of U times the value of b at the face without the second. There is no such set where i
-- exceeds n. The degrees of a and b are not named: a cochain is zero at simplices of other dimensions, so that the product of
-- cochains of degrees p and q is one of degree p + q - i.
-- Source: A. M. Medina-Mardones, New formulas for cup-i products and fast computation of Steenrod squares, 2023. Positions are
-- counted from 0 and the members of U from 1, so that u_1 = 0 goes to the second half, and the product with i = 0 is that of
-- Alexander and Whitney; counting the members from 0 would exchange the factors. N. E. Steenrod, Products of cocycles and
-- extensions of mappings, 1947, names in place of U the i + 1 vertices that stay in both faces: see Splittings.
use Rattle.std.specs.Prelude.{ℕ, zero, suc, ◌+◌, ◌-◌, ◌%◌, ◌==◌, Bool, false, ◌&&◌, not, List, [], ◌∷◌, map, length, nat_lt}
use Rattle.std.specs.List.{filter, enumerate_from, range_with_len}
use Rattle.homology.specs.Parity.{xor, odd}
use Rattle.homology.specs.Sets.{Ids, empty, set_of}
use Rattle.homology.specs.Simplices.{same_list}
use Rattle.homology.specs.Complexes.{Complex, simplex_at}
use Rattle.homology.specs.Growth.{choices}

abbrev pub odd_of : {A : Type 0} → List A → (A → Bool) → Bool
odd_of [] p = false
odd_of (x ∷ xs) p = xor (p x) (odd_of xs p)

unfoldable pub value_at : Complex → Ids → List ℕ → Bool
value_at K a s = odd (length K) (λ x. a x && same_list s (simplex_at K x))

abbrev pub half : ℕ → List ℕ → List ℕ
half parity us = map (λ p. p.1) (filter (λ p. (p.1 + p.0) % 2 == parity) (enumerate_from 1 us))

abbrev pub without : List ℕ → List ℕ → List ℕ
without us s = map (λ p. p.1) (filter (λ p. not (set_of us p.0)) (enumerate_from 0 s))

-- s has the dimension length s - 1
abbrev pub product_at : ℕ → (List ℕ → Bool) → (List ℕ → Bool) → List ℕ → Bool
product_at i A B s =
    nat_lt i (length s)
    && odd_of (choices (length s - 1 - i) (range_with_len 0 (length s))) (λ us. A (without (half 0 us) s) && B (without (half 1 us) s))

unfoldable pub cup : Complex → ℕ → Ids → Ids → Ids
cup K i a b = λ x. product_at i (value_at K a) (value_at K b) (simplex_at K x)

abbrev pub cup_below : Complex → ℕ → Ids → Ids → Ids
cup_below K zero a b = empty
cup_below K (suc i) a b = cup K i a b
