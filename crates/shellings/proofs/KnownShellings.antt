-- The definitions tried on small complexes, each line by evaluation alone, with values found by hand.
use Rattle.std.proofs.Common.{◌≡◌, [], ◌∷◌, List, ℕ, refl}
use Rattle.std.specs.Prelude.{Some, None}
use Rattle.homology.specs.Complexes.{Complex}
use Rattle.manifolds.specs.Links.{link}
use Rattle.shellings.specs.Shellings.{Nothing, NotThere, NotFacet, Twice, Lacks, Points, LinkRidge, Step, NoCertificate, step, shelling, manifold}

hollow_triangle : Complex
hollow_triangle = (0 ∷ []) ∷ (1 ∷ []) ∷ (0 ∷ 1 ∷ []) ∷ (2 ∷ []) ∷ (0 ∷ 2 ∷ []) ∷ (1 ∷ 2 ∷ []) ∷ []

filled_triangle : Complex
filled_triangle = (0 ∷ []) ∷ (1 ∷ []) ∷ (0 ∷ 1 ∷ []) ∷ (2 ∷ []) ∷ (0 ∷ 2 ∷ []) ∷ (1 ∷ 2 ∷ []) ∷ (0 ∷ 1 ∷ 2 ∷ []) ∷ []

-- the boundary of a tetrahedron, a sphere
sphere : Complex
sphere =
    (0 ∷ []) ∷ (1 ∷ []) ∷ (2 ∷ []) ∷ (3 ∷ [])
    ∷ (0 ∷ 1 ∷ []) ∷ (0 ∷ 2 ∷ []) ∷ (0 ∷ 3 ∷ []) ∷ (1 ∷ 2 ∷ []) ∷ (1 ∷ 3 ∷ []) ∷ (2 ∷ 3 ∷ [])
    ∷ (0 ∷ 1 ∷ 2 ∷ []) ∷ (0 ∷ 1 ∷ 3 ∷ []) ∷ (0 ∷ 2 ∷ 3 ∷ []) ∷ (1 ∷ 2 ∷ 3 ∷ []) ∷ []

-- the edges of a hollow triangle in any order shell it
sphere-shelled : shelling sphere (0 ∷ []) ((1 ∷ 2 ∷ []) ∷ (1 ∷ 3 ∷ []) ∷ (2 ∷ 3 ∷ []) ∷ []) ≡ None
unfolding sphere shelling link
sphere-shelled = refl

sphere-lacks : shelling sphere (0 ∷ []) ((1 ∷ 2 ∷ []) ∷ (1 ∷ 3 ∷ []) ∷ []) ≡ Some (Lacks (2 ∷ 3 ∷ []))
unfolding sphere shelling link
sphere-lacks = refl

sphere-twice :
    shelling sphere (0 ∷ []) ((1 ∷ 2 ∷ []) ∷ (1 ∷ 2 ∷ []) ∷ (1 ∷ 3 ∷ []) ∷ (2 ∷ 3 ∷ []) ∷ []) ≡ Some (Twice (1 ∷ 2 ∷ []))
unfolding sphere shelling link
sphere-twice = refl

sphere-no_facet : shelling sphere (0 ∷ []) ((0 ∷ 1 ∷ []) ∷ []) ≡ Some (NotFacet (0 ∷ 1 ∷ []))
unfolding sphere shelling link
sphere-no_facet = refl

sphere-absent : shelling sphere (4 ∷ []) [] ≡ Some (NotThere (4 ∷ []))
unfolding sphere shelling link
sphere-absent = refl

-- the link of a triangle is empty, and the empty list shells it
sphere-top : shelling sphere (0 ∷ 1 ∷ 2 ∷ []) [] ≡ None
unfolding sphere shelling link
sphere-top = refl

-- one point where there should be two; an edge whose ends lie in no other
triangle-points : shelling filled_triangle (0 ∷ 1 ∷ []) ((2 ∷ []) ∷ []) ≡ Some (Points 1)
unfolding filled_triangle shelling link
triangle-points = refl

triangle-ridge : shelling filled_triangle (0 ∷ []) ((1 ∷ 2 ∷ []) ∷ []) ≡ Some (LinkRidge (1 ∷ []) 1)
unfolding filled_triangle shelling link
triangle-ridge = refl

-- a circle: each vertex has the other two as its link; without the list of 2; the empty complex
shells_of_01 : List (List ℕ × List (List ℕ))
shells_of_01 = ((0 ∷ []), (1 ∷ []) ∷ (2 ∷ []) ∷ []) ∷ ((1 ∷ []), (0 ∷ []) ∷ (2 ∷ []) ∷ []) ∷ []

circle-manifold : manifold hollow_triangle (((2 ∷ []), (0 ∷ []) ∷ (1 ∷ []) ∷ []) ∷ shells_of_01) ≡ None
unfolding hollow_triangle shells_of_01 manifold shelling link
circle-manifold = refl

circle-without : manifold hollow_triangle shells_of_01 ≡ Some (NoCertificate (2 ∷ []))
unfolding hollow_triangle shells_of_01 manifold shelling link
circle-without = refl

manifold-nothing : manifold [] [] ≡ Some Nothing
unfolding manifold
manifold-nothing = refl

-- the edges of a square: opposite ones have no vertex in common, so the second is the first fault; in order around there is none
square-step : step ((1 ∷ 2 ∷ []) ∷ (3 ∷ 4 ∷ []) ∷ (2 ∷ 3 ∷ []) ∷ (1 ∷ 4 ∷ []) ∷ []) ≡ Some (Step 2)
square-step = refl

square-in_order : step ((1 ∷ 2 ∷ []) ∷ (2 ∷ 3 ∷ []) ∷ (3 ∷ 4 ∷ []) ∷ (1 ∷ 4 ∷ []) ∷ []) ≡ None
square-in_order = refl
