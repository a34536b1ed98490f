-- The definitions tried on the hollow triangle, each line by evaluation alone, with values found by hand.
use Rattle.std.proofs.Common.{◌≡◌, [], ◌∷◌, map, refl, true, false, Some, None}
use Rattle.homology.specs.Sets.{set_of}
use Rattle.homology.specs.Complexes.{Complex, incidence}
use Rattle.homology.specs.Kinds.{is_positive, is_bounding}
use Rattle.cohomology.specs.Searches.{is_coboundary, first_broken}
use Rattle.cohomology.specs.Classes.{essentials, classes, canonical, class_of, canonical_bound}
use Rattle.cohomology.specs.Cycles.{class_cycle, class_of_cycle}
use Rattle.cohomology.specs.Maps.{phi_of, f_of}

-- 0, 1, 01, 2, 02, 12: the essential simplices are the point 0 and the edge 12 with the id 5
hollow_triangle : Complex
hollow_triangle = (0 ∷ []) ∷ (1 ∷ []) ∷ (0 ∷ 1 ∷ []) ∷ (2 ∷ []) ∷ (0 ∷ 2 ∷ []) ∷ (1 ∷ 2 ∷ []) ∷ []

essentials-hollow_triangle : map (essentials hollow_triangle) (0 ∷ 1 ∷ []) ≡ (0 ∷ []) ∷ (5 ∷ []) ∷ []
unfolding hollow_triangle incidence is_positive is_bounding
essentials-hollow_triangle = refl

classes-hollow_triangle : classes hollow_triangle 1 ≡ (0 ∷ []) ∷ [] ∷ []
unfolding hollow_triangle incidence is_positive is_bounding
classes-hollow_triangle = refl

-- all points together, and the edge 12 alone
canonical-hollow_triangle :
    canonical hollow_triangle 0 (0 ∷ []) ∷ canonical hollow_triangle 1 (0 ∷ []) ∷ canonical hollow_triangle 1 [] ∷ []
    ≡ (0 ∷ 1 ∷ 3 ∷ []) ∷ (5 ∷ []) ∷ [] ∷ []
unfolding hollow_triangle incidence is_positive is_bounding canonical
canonical-hollow_triangle = refl

-- the point 0, and all three edges
class_cycle-hollow_triangle : class_cycle hollow_triangle 0 (0 ∷ []) ∷ class_cycle hollow_triangle 1 (0 ∷ []) ∷ [] ≡ (0 ∷ []) ∷ (2 ∷ 4 ∷ 5 ∷ []) ∷ []
unfolding hollow_triangle incidence is_positive is_bounding class_cycle
class_cycle-hollow_triangle = refl

-- each edge alone is in the class of the edge 12; two edges are a coboundary
class_of-hollow_triangle :
    class_of hollow_triangle 1 (set_of (2 ∷ [])) ∷ class_of hollow_triangle 1 (set_of (2 ∷ 4 ∷ [])) ∷ []
    ≡ (0 ∷ []) ∷ [] ∷ []
unfolding hollow_triangle incidence is_positive is_bounding canonical class_of
class_of-hollow_triangle = refl

-- of the edges 02 and 12: the point 2
canonical_bound-hollow_triangle : canonical_bound hollow_triangle 1 (set_of (4 ∷ 5 ∷ [])) ≡ 3 ∷ []
unfolding hollow_triangle incidence is_positive is_bounding canonical_bound
canonical_bound-hollow_triangle = refl

-- with the triangle 012 as the last, the edge 01 alone is no cocycle; the edges 01 and 02 are the coboundary of the point 0
filled_triangle : Complex
filled_triangle = (0 ∷ []) ∷ (1 ∷ []) ∷ (0 ∷ 1 ∷ []) ∷ (2 ∷ []) ∷ (0 ∷ 2 ∷ []) ∷ (1 ∷ 2 ∷ []) ∷ (0 ∷ 1 ∷ 2 ∷ []) ∷ []

first_broken-filled_triangle :
    first_broken filled_triangle (set_of (2 ∷ [])) ∷ first_broken filled_triangle (set_of (2 ∷ 4 ∷ [])) ∷ [] ≡ Some 6 ∷ None ∷ []
unfolding filled_triangle incidence
first_broken-filled_triangle = refl

is_coboundary-filled_triangle :
    is_coboundary filled_triangle 1 (set_of (2 ∷ [])) ∷ is_coboundary filled_triangle 1 (set_of (2 ∷ 4 ∷ [])) ∷ [] ≡ false ∷ true ∷ []
unfolding filled_triangle incidence
is_coboundary-filled_triangle = refl

-- the three edges are in the class of the edge 12, the points 1 and 2 in that of the point 0; together they are a boundary
class_of_cycle-hollow_triangle :
    class_of_cycle hollow_triangle 1 (set_of (2 ∷ 4 ∷ 5 ∷ []))
    ∷ class_of_cycle hollow_triangle 0 (set_of (1 ∷ []))
    ∷ class_of_cycle hollow_triangle 0 (set_of (1 ∷ 3 ∷ []))
    ∷ []
    ≡ (0 ∷ []) ∷ (0 ∷ []) ∷ [] ∷ []
unfolding hollow_triangle incidence is_positive is_bounding class_cycle class_of_cycle
class_of_cycle-hollow_triangle = refl

-- the point 2 goes to the point 0 along the edge 02; the edge 12 is essential, and the negative edge 01 goes nowhere
maps-hollow_triangle : map (phi_of hollow_triangle) (3 ∷ 5 ∷ 2 ∷ []) ≡ (4 ∷ []) ∷ [] ∷ [] ∷ []
unfolding hollow_triangle incidence is_positive is_bounding phi_of
maps-hollow_triangle = refl

images-hollow_triangle : map (f_of hollow_triangle) (3 ∷ 5 ∷ 2 ∷ []) ≡ (0 ∷ []) ∷ (5 ∷ []) ∷ [] ∷ []
unfolding hollow_triangle incidence is_positive is_bounding phi_of f_of
images-hollow_triangle = refl

-- the triangle fills the edge 12
maps-filled_triangle : phi_of filled_triangle 5 ∷ f_of filled_triangle 5 ∷ [] ≡ (6 ∷ []) ∷ [] ∷ []
unfolding filled_triangle incidence is_positive is_bounding phi_of f_of
maps-filled_triangle = refl
