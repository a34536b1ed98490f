-- Splittings of a list of vertices into two lists.
--     splittings k first s    the splittings of s with k shared vertices: each shared vertex goes into both lists; the others go
--                             into the first list (first = true) or the second up to the first shared vertex, into the other
--                             one up to the next shared vertex, and so on in turn
--     over_faces F s          the sum of F over the lists s without one of its entries
--     walks k first p q s     whether (p, q) is one of them, for an ascending s: a walk along s with one bit, the side of the next single vertex,
--                             that is turned at each shared vertex
-- The cup-i product of a and b at s is the sum over the splittings (p, q) with i + 1 shared vertices, first = true, of
-- a at p times b at q: `halves_are_splittings` in src/laws.rt. So p and q contribute at no other s than their union, and
-- there if the walk passes.
-- Source: N. E. Steenrod, Products of cocycles and extensions of mappings, 1947; here over two elements, without signs.
use Rattle.std.specs.Prelude.{ℕ, zero, suc, Bool, false, cond, ◌&&◌, not, List, [], ◌∷◌, ◌++◌, map, length, nat_eq}
use Rattle.std.specs.List.{remove}
use Rattle.homology.specs.Parity.{odd}
use Rattle.homology.specs.Simplices.{same_list}

-- v into the first list, or the second
abbrev pub into : Bool → ℕ → List ℕ × List ℕ → List ℕ × List ℕ
into first v p = (cond first (v ∷ p.0) p.0, cond first p.1 (v ∷ p.1))

abbrev pub into_both : ℕ → List ℕ × List ℕ → List ℕ × List ℕ
into_both v p = (v ∷ p.0, v ∷ p.1)

abbrev pub splittings : ℕ → Bool → List ℕ → List (List ℕ × List ℕ)
splittings zero first [] = ([], []) ∷ []
splittings (suc k) first [] = []
splittings zero first (v ∷ s) = map (into first v) (splittings zero first s)
splittings (suc k) first (v ∷ s) = map (into_both v) (splittings k (not first) s) ++ map (into first v) (splittings (suc k) first s)

abbrev pub over_faces : (List ℕ → Bool) → List ℕ → Bool
over_faces F s = odd (length s) (λ j. F (remove s j))

-- whether s begins with v, and what follows its first vertex
abbrev pub begins : ℕ → List ℕ → Bool
begins v [] = false
begins v (w ∷ s) = nat_eq v w

abbrev pub after_first : List ℕ → List ℕ
after_first [] = []
after_first (w ∷ s) = s

abbrev pub walks : ℕ → Bool → List ℕ → List ℕ → List ℕ → Bool
walks zero first p q [] = same_list [] p && same_list [] q
walks (suc k) first p q [] = false
walks zero first p q (v ∷ s) =
    cond (begins v p)
    (cond (begins v q) false (first && walks zero first (after_first p) q s))
    (begins v q && (not first && walks zero first p (after_first q) s))
walks (suc k) first p q (v ∷ s) =
    cond (begins v p)
    (cond (begins v q) (walks k (not first) (after_first p) (after_first q) s) (first && walks (suc k) first (after_first p) q s))
    (begins v q && (not first && walks (suc k) first p (after_first q) s))
