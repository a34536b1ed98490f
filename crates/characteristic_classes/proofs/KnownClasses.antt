-- The definitions tried on small complexes, each line by evaluation alone, with values found by hand:
--     duality-two_points ..      two points, of dimension 0; a circle; a sphere
--     degenerate-edge ..         an edge, and two circles in one point: neither is closed, and each has a degenerate class
--     wu-two_points ..           Wu and Stiefel-Whitney classes of the closed ones, and numbers
use Rattle.std.proofs.Common.{◌≡◌, true, false, [], ◌∷◌, Some, None, refl}
use Rattle.std.specs.Prelude.{Ok, Err}
use Rattle.homology.specs.Complexes.{Complex, incidence}
use Rattle.homology.specs.Kinds.{is_positive, is_bounding}
use Rattle.cohomology.specs.Classes.{canonical, class_of}
use Rattle.products.specs.Products.{value_at, cup}
use Rattle.manifolds.specs.Closed.{Ridge, closed}
use Rattle.characteristic_classes.specs.Pairings.{Unclosed, first_degenerate, duality}
use Rattle.characteristic_classes.specs.WuClasses.{Sum, wu_class, wu, stiefel_whitney, stiefel_whitney_number}

two_points : Complex
two_points = (4 ∷ []) ∷ (2 ∷ []) ∷ []

edge : Complex
edge = (0 ∷ []) ∷ (1 ∷ []) ∷ (0 ∷ 1 ∷ []) ∷ []

hollow_triangle : Complex
hollow_triangle = (0 ∷ []) ∷ (1 ∷ []) ∷ (0 ∷ 1 ∷ []) ∷ (2 ∷ []) ∷ (0 ∷ 2 ∷ []) ∷ (1 ∷ 2 ∷ []) ∷ []

tetrahedron_boundary : Complex
tetrahedron_boundary =
    (0 ∷ []) ∷ (1 ∷ []) ∷ (2 ∷ []) ∷ (3 ∷ [])
    ∷ (0 ∷ 1 ∷ []) ∷ (0 ∷ 2 ∷ []) ∷ (0 ∷ 3 ∷ []) ∷ (1 ∷ 2 ∷ []) ∷ (1 ∷ 3 ∷ []) ∷ (2 ∷ 3 ∷ [])
    ∷ (0 ∷ 1 ∷ 2 ∷ []) ∷ (0 ∷ 1 ∷ 3 ∷ []) ∷ (0 ∷ 2 ∷ 3 ∷ []) ∷ (1 ∷ 2 ∷ 3 ∷ []) ∷ []

-- two hollow triangles that share the vertex 1
two_circles : Complex
two_circles = (0 ∷ []) ∷ (1 ∷ []) ∷ (0 ∷ 1 ∷ []) ∷ (2 ∷ []) ∷ (0 ∷ 2 ∷ []) ∷ (1 ∷ 2 ∷ []) ∷ (3 ∷ []) ∷ (4 ∷ []) ∷ (1 ∷ 4 ∷ []) ∷ (1 ∷ 3 ∷ []) ∷ (3 ∷ 4 ∷ []) ∷ []

-- each point pairs with itself
duality-two_points : duality two_points ≡ Ok (((true ∷ false ∷ []) ∷ (false ∷ true ∷ []) ∷ []) ∷ [])
unfolding two_points duality closed first_degenerate canonical cup value_at incidence is_positive is_bounding
duality-two_points = refl

-- the sum of all vertices pairs with an edge, and with a triangle
duality-hollow_triangle : duality hollow_triangle ≡ Ok (((true ∷ []) ∷ []) ∷ ((true ∷ []) ∷ []) ∷ [])
unfolding hollow_triangle duality closed first_degenerate canonical cup value_at incidence is_positive is_bounding
duality-hollow_triangle = refl

duality-tetrahedron_boundary : duality tetrahedron_boundary ≡ Ok (((true ∷ []) ∷ []) ∷ [] ∷ ((true ∷ []) ∷ []) ∷ [])
unfolding tetrahedron_boundary duality closed first_degenerate canonical cup value_at incidence is_positive is_bounding
duality-tetrahedron_boundary = refl

degenerate-hollow_triangle : first_degenerate hollow_triangle ≡ None
unfolding hollow_triangle first_degenerate canonical cup value_at incidence is_positive is_bounding
degenerate-hollow_triangle = refl

-- the class of degree 0 of an edge pairs with nothing
degenerate-edge : first_degenerate edge ≡ Some (0, 0 ∷ [])
unfolding edge first_degenerate canonical cup value_at incidence is_positive is_bounding
degenerate-edge = refl

-- the sum of the two circles pairs with the sum of all vertices to 0, and neither circle does
degenerate-two_circles : first_degenerate two_circles ≡ Some (1, 0 ∷ 1 ∷ [])
unfolding two_circles first_degenerate canonical cup value_at incidence is_positive is_bounding
degenerate-two_circles = refl

duality-edge : duality edge ≡ Err (Unclosed (Ridge (0 ∷ []) 1))
unfolding edge duality closed first_degenerate canonical cup value_at incidence is_positive is_bounding
duality-edge = refl

-- v_0 is the sum of the classes, since Sq^0 is the class itself
wu-two_points : wu two_points ≡ Ok ((0, 0 ∷ 1 ∷ []) ∷ [])
unfolding two_points wu wu_class closed first_degenerate canonical cup value_at incidence is_positive is_bounding
wu-two_points = refl

wu-hollow_triangle : wu hollow_triangle ≡ Ok ((0, 0 ∷ []) ∷ (1, []) ∷ [])
unfolding hollow_triangle wu wu_class closed first_degenerate canonical cup value_at incidence is_positive is_bounding
wu-hollow_triangle = refl

wu-tetrahedron_boundary : wu tetrahedron_boundary ≡ Ok ((0, 0 ∷ []) ∷ (1, []) ∷ (2, []) ∷ [])
unfolding tetrahedron_boundary wu wu_class closed first_degenerate canonical cup value_at incidence is_positive is_bounding
wu-tetrahedron_boundary = refl

whitney-two_points : stiefel_whitney two_points ≡ Ok ((0, 0 ∷ 1 ∷ []) ∷ [])
unfolding two_points stiefel_whitney wu_class class_of closed first_degenerate canonical cup value_at incidence is_positive is_bounding
whitney-two_points = refl

whitney-hollow_triangle : stiefel_whitney hollow_triangle ≡ Ok ((0, 0 ∷ []) ∷ (1, []) ∷ [])
unfolding hollow_triangle stiefel_whitney wu_class class_of closed first_degenerate canonical cup value_at incidence is_positive is_bounding
whitney-hollow_triangle = refl

whitney-tetrahedron_boundary : stiefel_whitney tetrahedron_boundary ≡ Ok ((0, 0 ∷ []) ∷ (1, []) ∷ (2, []) ∷ [])
unfolding tetrahedron_boundary stiefel_whitney wu_class class_of closed first_degenerate canonical cup value_at incidence is_positive is_bounding
whitney-tetrahedron_boundary = refl

-- two points are even
number-two_points : stiefel_whitney_number two_points (0 ∷ []) ≡ Ok false
unfolding two_points stiefel_whitney_number wu_class class_of closed first_degenerate canonical cup value_at incidence is_positive is_bounding
number-two_points = refl

number-hollow_triangle : stiefel_whitney_number hollow_triangle (1 ∷ []) ≡ Ok false
unfolding hollow_triangle stiefel_whitney_number wu_class class_of closed first_degenerate canonical cup value_at incidence is_positive is_bounding
number-hollow_triangle = refl

number-sum : stiefel_whitney_number hollow_triangle (1 ∷ 1 ∷ []) ≡ Err (Sum 2 1)
unfolding hollow_triangle stiefel_whitney_number wu_class class_of closed first_degenerate canonical cup value_at incidence is_positive is_bounding
number-sum = refl
