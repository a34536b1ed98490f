-- The definitions tried on the triangle, each line by evaluation alone, with values found by hand:
--     triangle_squares      Sq^0, Sq^1 and Sq^2
--     triangle_faces        faces of the triangle by the place that they leave out
--     triangle_bockstein    the Bockstein of sets of edges
use Rattle.std.proofs.Common.{◌≡◌, ℕ, List, [], ◌∷◌, length, refl}
use Rattle.std.specs.List.{filter, range_with_len}
use Rattle.homology.specs.Sets.{Ids, set_of}
use Rattle.homology.specs.Complexes.{Complex}
use Rattle.products.specs.Products.{value_at, cup}
use Rattle.cohomology_operations.specs.Squares.{square}
use Rattle.cohomology_operations.specs.Bocksteins.{faces_with, bockstein}

-- the ids in a set
abbrev those : Complex → Ids → List ℕ
those K a = filter a (range_with_len 0 (length K))

-- 0, 1, 01, 2, 02, 12, 012
triangle : Complex
triangle = (0 ∷ []) ∷ (1 ∷ []) ∷ (0 ∷ 1 ∷ []) ∷ (2 ∷ []) ∷ (0 ∷ 2 ∷ []) ∷ (1 ∷ 2 ∷ []) ∷ (0 ∷ 1 ∷ 2 ∷ []) ∷ []

abbrev of_edges : ℕ → List ℕ → List ℕ
of_edges k ids = those triangle (square triangle k 1 (set_of ids))

-- Sq^0: the edges themselves; Sq^1: the triangle, whose front face 01 and back face 12 are both there
triangle_squares :
    of_edges 0 (2 ∷ 4 ∷ []) ∷ of_edges 1 (2 ∷ 5 ∷ []) ∷ of_edges 1 (2 ∷ 4 ∷ []) ∷ of_edges 2 (2 ∷ 5 ∷ []) ∷ []
    ≡ (2 ∷ 4 ∷ []) ∷ (6 ∷ []) ∷ [] ∷ [] ∷ []
unfolding triangle cup value_at
triangle_squares = refl

-- 12 leaves out place 0, 02 place 1, and 01 place 2
triangle_faces :
    faces_with (value_at triangle (set_of (2 ∷ 5 ∷ []))) 0 (0 ∷ 1 ∷ 2 ∷ [])
    ∷ faces_with (value_at triangle (set_of (2 ∷ 4 ∷ []))) 0 (0 ∷ 1 ∷ 2 ∷ [])
    ∷ faces_with (value_at triangle (set_of (2 ∷ 4 ∷ []))) 1 (0 ∷ 1 ∷ 2 ∷ [])
    ∷ []
    ≡ 2 ∷ 1 ∷ 1 ∷ []
unfolding triangle value_at
triangle_faces = refl

-- half of 2 is odd, half of 1 - 1 is not; the vertices 1 and 2 are the two ends of the edge 12
triangle_bockstein :
    those triangle (bockstein triangle (set_of (2 ∷ 5 ∷ [])))
    ∷ those triangle (bockstein triangle (set_of (2 ∷ 4 ∷ [])))
    ∷ those triangle (bockstein triangle (set_of (1 ∷ 3 ∷ [])))
    ∷ []
    ≡ (6 ∷ []) ∷ [] ∷ [] ∷ []
unfolding triangle value_at bockstein
triangle_bockstein = refl
