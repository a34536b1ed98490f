-- The definitions tried on small complexes, each line by evaluation alone, with values found by hand:
--     closed-points ..       points; the hollow triangle; the filled one; two that share an edge, three that share one; a tail; no simplex
--     link-filled ..         links in the filled triangle, in two hollow triangles that share a vertex
--     links-points ..        which links pass
use Rattle.std.proofs.Common.{◌≡◌, [], ◌∷◌, ◌++◌, map, refl}
use Rattle.std.specs.Prelude.{Ok, Err}
use Rattle.homology.specs.Complexes.{Complex, incidence}
use Rattle.homology.specs.Kinds.{is_positive, is_bounding}
use Rattle.manifolds.specs.Closed.{Nothing, NotPure, Ridge, closed}
use Rattle.manifolds.specs.Links.{Link, link, link_betti, sphere_counts, links}

points : Complex
points = (4 ∷ []) ∷ (2 ∷ []) ∷ (3 ∷ []) ∷ []

two_points : Complex
two_points = (4 ∷ []) ∷ (2 ∷ []) ∷ []

hollow_triangle : Complex
hollow_triangle = (0 ∷ []) ∷ (1 ∷ []) ∷ (0 ∷ 1 ∷ []) ∷ (2 ∷ []) ∷ (0 ∷ 2 ∷ []) ∷ (1 ∷ 2 ∷ []) ∷ []

filled_triangle : Complex
filled_triangle = hollow_triangle ++ (0 ∷ 1 ∷ 2 ∷ []) ∷ []

-- the filled triangle with the edge 23
with_tail : Complex
with_tail = filled_triangle ++ (3 ∷ []) ∷ (2 ∷ 3 ∷ []) ∷ []

-- two hollow triangles that share the vertex 1
two_circles : Complex
two_circles = hollow_triangle ++ (3 ∷ []) ∷ (4 ∷ []) ∷ (1 ∷ 4 ∷ []) ∷ (1 ∷ 3 ∷ []) ∷ (3 ∷ 4 ∷ []) ∷ []

tetrahedron_boundary : Complex
tetrahedron_boundary =
    (0 ∷ []) ∷ (1 ∷ []) ∷ (2 ∷ []) ∷ (3 ∷ [])
    ∷ (0 ∷ 1 ∷ []) ∷ (0 ∷ 2 ∷ []) ∷ (0 ∷ 3 ∷ []) ∷ (1 ∷ 2 ∷ []) ∷ (1 ∷ 3 ∷ []) ∷ (2 ∷ 3 ∷ [])
    ∷ (0 ∷ 1 ∷ 2 ∷ []) ∷ (0 ∷ 1 ∷ 3 ∷ []) ∷ (0 ∷ 2 ∷ 3 ∷ []) ∷ (1 ∷ 2 ∷ 3 ∷ []) ∷ []

-- no simplex; points alone, which have no ridge; a circle; a sphere
closed-nothing : closed [] ≡ Err Nothing
unfolding closed
closed-nothing = refl

closed-points : closed points ≡ Ok 0
unfolding points closed
closed-points = refl

closed-hollow_triangle : closed hollow_triangle ≡ Ok 1
unfolding hollow_triangle closed
closed-hollow_triangle = refl

closed-tetrahedron_boundary : closed tetrahedron_boundary ≡ Ok 2
unfolding tetrahedron_boundary closed
closed-tetrahedron_boundary = refl

-- each edge lies in one triangle; the vertex 3 lies in none, and it comes before the edge 23; the vertex 1 lies in four edges
closed-filled_triangle : closed filled_triangle ≡ Err (Ridge (0 ∷ 1 ∷ []) 1)
unfolding filled_triangle hollow_triangle closed
closed-filled_triangle = refl

closed-with_tail : closed with_tail ≡ Err (NotPure (3 ∷ []))
unfolding with_tail filled_triangle hollow_triangle closed
closed-with_tail = refl

closed-two_circles : closed two_circles ≡ Err (Ridge (1 ∷ []) 4)
unfolding two_circles hollow_triangle closed
closed-two_circles = refl

-- of a vertex the other edge, of an edge the other vertex, of the triangle nothing; of the shared vertex four points
link-filled_triangle :
    map (link filled_triangle) ((1 ∷ []) ∷ (0 ∷ 2 ∷ []) ∷ (0 ∷ 1 ∷ 2 ∷ []) ∷ [])
    ≡ ((0 ∷ []) ∷ (2 ∷ []) ∷ (0 ∷ 2 ∷ []) ∷ []) ∷ ((1 ∷ []) ∷ []) ∷ [] ∷ []
unfolding filled_triangle hollow_triangle link
link-filled_triangle = refl

link-two_circles : link two_circles (1 ∷ []) ≡ (0 ∷ []) ∷ (2 ∷ []) ∷ (3 ∷ []) ∷ (4 ∷ []) ∷ []
unfolding two_circles hollow_triangle link
link-two_circles = refl

betti-filled_triangle :
    map (link_betti filled_triangle) ((1 ∷ []) ∷ (0 ∷ 2 ∷ []) ∷ (0 ∷ 1 ∷ 2 ∷ []) ∷ []) ≡ (1 ∷ 0 ∷ []) ∷ (1 ∷ []) ∷ [] ∷ []
unfolding filled_triangle hollow_triangle link incidence is_positive is_bounding
betti-filled_triangle = refl

counts-of_spheres : map sphere_counts (0 ∷ 1 ∷ 2 ∷ 3 ∷ 4 ∷ []) ≡ [] ∷ (2 ∷ []) ∷ (1 ∷ 1 ∷ []) ∷ (1 ∷ 0 ∷ 1 ∷ []) ∷ (1 ∷ 0 ∷ 0 ∷ 1 ∷ []) ∷ []
counts-of_spheres = refl

-- nothing and points, whose links are empty; a circle; a sphere
links-nothing : links [] ≡ Ok tt
unfolding links
links-nothing = refl

links-points : links points ≡ Ok tt
unfolding points links link incidence is_positive is_bounding
links-points = refl

links-hollow_triangle : links hollow_triangle ≡ Ok tt
unfolding hollow_triangle links link incidence is_positive is_bounding
links-hollow_triangle = refl

links-tetrahedron_boundary : links tetrahedron_boundary ≡ Ok tt
unfolding tetrahedron_boundary links link incidence is_positive is_bounding
links-tetrahedron_boundary = refl

-- the link of 0 is an edge, that of the shared vertex 1 four points
links-filled_triangle : links filled_triangle ≡ Err (Link (0 ∷ []) (1 ∷ 0 ∷ []))
unfolding filled_triangle hollow_triangle links link incidence is_positive is_bounding
links-filled_triangle = refl

links-two_circles : links two_circles ≡ Err (Link (1 ∷ []) (4 ∷ []))
unfolding two_circles hollow_triangle links link incidence is_positive is_bounding
links-two_circles = refl
