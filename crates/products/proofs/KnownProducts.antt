-- The definitions tried on small complexes, each line by evaluation alone, with values found by hand:
--     triangle_zero, triangle_one, triangle_two     products on the triangle, with index 0, 1, 2
--     solid_one                                     products of triangles on the solid tetrahedron, with index 1
--     triangle_cap                                  cap products on the triangle
--     split_triangle, halves_of_places              splittings of three vertices; halves of four places
use Rattle.std.proofs.Common.{◌≡◌, ℕ, true, List, [], ◌∷◌, length, refl}
use Rattle.std.specs.List.{filter, range_with_len}
use Rattle.homology.specs.Sets.{Ids, set_of}
use Rattle.homology.specs.Complexes.{Complex}
use Rattle.products.specs.Products.{value_at, half, cup}
use Rattle.products.specs.Splittings.{splittings}
use Rattle.products.specs.Caps.{cap}

-- the ids in a set
abbrev those : Complex → Ids → List ℕ
those K a = filter a (range_with_len 0 (length K))

-- 0, 1, 01, 2, 02, 12, 012
triangle : Complex
triangle = (0 ∷ []) ∷ (1 ∷ []) ∷ (0 ∷ 1 ∷ []) ∷ (2 ∷ []) ∷ (0 ∷ 2 ∷ []) ∷ (1 ∷ 2 ∷ []) ∷ (0 ∷ 1 ∷ 2 ∷ []) ∷ []

-- four vertices, six edges, 012, 013, 023, 123, and 0123
solid : Complex
solid =
    (0 ∷ []) ∷ (1 ∷ []) ∷ (2 ∷ []) ∷ (3 ∷ [])
    ∷ (0 ∷ 1 ∷ []) ∷ (0 ∷ 2 ∷ []) ∷ (0 ∷ 3 ∷ []) ∷ (1 ∷ 2 ∷ []) ∷ (1 ∷ 3 ∷ []) ∷ (2 ∷ 3 ∷ [])
    ∷ (0 ∷ 1 ∷ 2 ∷ []) ∷ (0 ∷ 1 ∷ 3 ∷ []) ∷ (0 ∷ 2 ∷ 3 ∷ []) ∷ (1 ∷ 2 ∷ 3 ∷ []) ∷ (0 ∷ 1 ∷ 2 ∷ 3 ∷ []) ∷ []

-- the product of the simplices with the ids y and z
abbrev of_two : Complex → ℕ → ℕ → ℕ → List ℕ
of_two K i y z = those K (cup K i (set_of (y ∷ [])) (set_of (z ∷ [])))

-- the front face of 012 is 01 and its back face 12, in this order; the front vertex of 01 is 0
triangle_zero :
    of_two triangle 0 2 5 ∷ of_two triangle 0 5 2 ∷ of_two triangle 0 4 5 ∷ of_two triangle 0 0 2 ∷ of_two triangle 0 1 2 ∷ of_two triangle 0 2 1 ∷ of_two triangle 0 3 3 ∷ []
    ≡ (6 ∷ []) ∷ [] ∷ [] ∷ (2 ∷ []) ∷ [] ∷ (2 ∷ []) ∷ (3 ∷ []) ∷ []
unfolding triangle cup value_at
triangle_zero = refl

-- an edge with itself and with another; at 012: 02 with 012, and 012 with 01 or 12
triangle_one :
    of_two triangle 1 4 4 ∷ of_two triangle 1 2 4 ∷ of_two triangle 1 4 6 ∷ of_two triangle 1 6 4 ∷ of_two triangle 1 6 2 ∷ of_two triangle 1 6 5 ∷ of_two triangle 1 2 6 ∷ of_two triangle 1 3 3 ∷ []
    ≡ (4 ∷ []) ∷ [] ∷ (6 ∷ []) ∷ [] ∷ (6 ∷ []) ∷ (6 ∷ []) ∷ [] ∷ [] ∷ []
unfolding triangle cup value_at
triangle_one = refl

-- 012 with itself, and nothing past the dimension
triangle_two : of_two triangle 2 6 6 ∷ of_two triangle 2 2 2 ∷ of_two triangle 3 6 6 ∷ [] ≡ (6 ∷ []) ∷ [] ∷ [] ∷ []
unfolding triangle cup value_at
triangle_two = refl

-- at 0123: 013 with 123, and 023 with 012
solid_one :
    of_two solid 1 11 13 ∷ of_two solid 1 13 11 ∷ of_two solid 1 12 10 ∷ of_two solid 1 10 12 ∷ of_two solid 1 10 13 ∷ of_two solid 1 10 10 ∷ []
    ≡ (14 ∷ []) ∷ [] ∷ (14 ∷ []) ∷ [] ∷ [] ∷ [] ∷ []
unfolding solid cup value_at
solid_one = refl

-- of 012 the vertex 0 leaves 012, the edge 01 leaves 12, the edge 12 nothing, and 012 leaves 2
triangle_cap :
    those triangle (cap triangle 0 (set_of (0 ∷ [])) (set_of (6 ∷ []))) ∷ those triangle (cap triangle 1 (set_of (2 ∷ [])) (set_of (6 ∷ [])))
    ∷ those triangle (cap triangle 1 (set_of (5 ∷ [])) (set_of (6 ∷ []))) ∷ those triangle (cap triangle 2 (set_of (6 ∷ [])) (set_of (6 ∷ []))) ∷ []
    ≡ (6 ∷ []) ∷ (5 ∷ []) ∷ [] ∷ (3 ∷ []) ∷ []
unfolding triangle cap value_at
triangle_cap = refl

-- 2 goes to the first list, after two turns; 1 to the second, after one; 0 to the first
split_triangle :
    splittings 2 true (0 ∷ 1 ∷ 2 ∷ [])
    ≡ (0 ∷ 1 ∷ 2 ∷ [], 0 ∷ 1 ∷ []) ∷ (0 ∷ 2 ∷ [], 0 ∷ 1 ∷ 2 ∷ []) ∷ (0 ∷ 1 ∷ 2 ∷ [], 1 ∷ 2 ∷ []) ∷ []
split_triangle = refl

-- 0 + 1 is odd; 2 + 2, 3 + 3 and 6 + 4 are even
halves_of_places : half 0 (0 ∷ 2 ∷ 3 ∷ 6 ∷ []) ∷ half 1 (0 ∷ 2 ∷ 3 ∷ 6 ∷ []) ∷ [] ≡ (2 ∷ 3 ∷ 6 ∷ []) ∷ (0 ∷ []) ∷ []
halves_of_places = refl
