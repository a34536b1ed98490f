-- The definitions tried on small pairs, each line by evaluation alone, with values found by hand.
--     rim, filled      the rim of a triangle, and the filled triangle: one relative class, that of the triangle
--     path, ends       an edge and its two ends: one relative class, that of the edge
--     point            one end alone: no relative class
--     band, plane      a Möbius band of nine triangles, and the projective plane that one triangle more makes of it
use Rattle.std.proofs.Common.{◌≡◌, ℕ, List, [], ◌∷◌, ◌++◌, map, length, refl}
use Rattle.std.specs.Prelude.{Some, None, Result, Ok, Err}
use Rattle.std.specs.List.{filter, range_with_len}
use Rattle.homology.specs.Sets.{Ids, set_of}
use Rattle.homology.specs.Complexes.{Complex, incidence}
use Rattle.homology.specs.Kinds.{is_positive, is_bounding}
use Rattle.cohomology.specs.Classes.{canonical, class_of, canonical_bound}
use Rattle.products.specs.Products.{value_at}
use Rattle.pairs.specs.Pairs.{not_within, moved, is_relatively_positive, is_relatively_bounding, relative_betti}
use Rattle.pairs.specs.RelativeClasses.{relative_canonical, relative_class_of, relative_bound}
use Rattle.pairs.specs.Sequences.{NotTaken, NotCocycle, Stops, OnPart, Differs, connect, stopping_chain, extend, lift, shrink}

-- what is answered, as a list of ids
abbrev those : Complex → Result Ids NotTaken → Result (List ℕ) NotTaken
those K (Ok c) = Ok (filter c (range_with_len 0 (length K)))
those K (Err why) = Err why

-- 0, 1, 01, 2, 02, 12
rim : Complex
rim = (0 ∷ []) ∷ (1 ∷ []) ∷ (0 ∷ 1 ∷ []) ∷ (2 ∷ []) ∷ (0 ∷ 2 ∷ []) ∷ (1 ∷ 2 ∷ []) ∷ []

filled : Complex
filled = (0 ∷ []) ∷ (1 ∷ []) ∷ (0 ∷ 1 ∷ []) ∷ (2 ∷ []) ∷ (0 ∷ 2 ∷ []) ∷ (1 ∷ 2 ∷ []) ∷ (0 ∷ 1 ∷ 2 ∷ []) ∷ []

within : not_within filled rim ∷ not_within rim filled ∷ [] ≡ None ∷ Some (0 ∷ 1 ∷ 2 ∷ []) ∷ []
unfolding rim filled not_within
within = refl

betti-rim : map (relative_betti filled rim) (0 ∷ 1 ∷ 2 ∷ []) ≡ 0 ∷ 0 ∷ 1 ∷ []
unfolding rim filled incidence is_relatively_positive is_relatively_bounding
betti-rim = refl

-- the class of the rim goes to that of the triangle, and that of all points to zero
connect-rim : connect filled rim 1 (set_of (5 ∷ [])) ∷ connect filled rim 0 (set_of (0 ∷ 1 ∷ 3 ∷ [])) ∷ [] ≡ (0 ∷ []) ∷ [] ∷ []
unfolding rim filled incidence moved value_at is_relatively_positive is_relatively_bounding relative_canonical relative_class_of
connect-rim = refl

-- so the edge 12 is stopped by the triangle, and all points together extend; the edge 01 alone is no cocycle of the point 0
extend-rim :
    those filled (extend filled rim 1 (set_of (5 ∷ [])))
    ∷ those filled (extend filled rim 0 (set_of (0 ∷ 1 ∷ 3 ∷ [])))
    ∷ those filled (extend filled rim 0 (set_of (0 ∷ [])))
    ∷ []
    ≡ Err (Stops (6 ∷ [])) ∷ Ok (0 ∷ 1 ∷ 3 ∷ []) ∷ Err (NotCocycle 2) ∷ []
unfolding rim filled incidence moved value_at is_relatively_positive is_relatively_bounding relative_canonical relative_class_of relative_bound stopping_chain extend
extend-rim = refl

-- the triangle is the coboundary of the edge 12; the edges 01 and 02 are in the part
lift-rim :
    those rim (lift filled rim 2 (set_of (6 ∷ []))) ∷ those rim (lift filled rim 1 (set_of (2 ∷ 4 ∷ []))) ∷ []
    ≡ Ok (5 ∷ []) ∷ Err (OnPart 2) ∷ []
unfolding rim filled incidence is_positive is_bounding moved value_at canonical class_of canonical_bound lift
lift-rim = refl

-- nothing; the edges 01 and 02, which are the coboundary of the point 0 on the rim too; all points together
shrink-rim :
    those filled (shrink filled rim 1 (set_of []))
    ∷ those filled (shrink filled rim 1 (set_of (2 ∷ 4 ∷ [])))
    ∷ those filled (shrink filled rim 0 (set_of (0 ∷ 1 ∷ 3 ∷ [])))
    ∷ []
    ≡ Ok [] ∷ Ok [] ∷ Err (Differs 0) ∷ []
unfolding rim filled incidence is_positive is_bounding moved value_at canonical class_of canonical_bound shrink
shrink-rim = refl

-- 0, 1, 01; its two ends, in another order; one of them
path : Complex
path = (0 ∷ []) ∷ (1 ∷ []) ∷ (0 ∷ 1 ∷ []) ∷ []

ends : Complex
ends = (1 ∷ []) ∷ (0 ∷ []) ∷ []

betti-ends : map (relative_betti path ends) (0 ∷ 1 ∷ []) ≡ 0 ∷ 1 ∷ []
unfolding path ends incidence is_relatively_positive is_relatively_bounding
betti-ends = refl

-- one end alone is stopped by the edge, both together extend; the ids in the part are its own
extend-ends :
    those path (extend path ends 0 (set_of (0 ∷ []))) ∷ those path (extend path ends 0 (set_of (0 ∷ 1 ∷ []))) ∷ []
    ≡ Err (Stops (2 ∷ [])) ∷ Ok (0 ∷ 1 ∷ []) ∷ []
unfolding path ends incidence moved value_at is_relatively_positive is_relatively_bounding relative_canonical relative_class_of relative_bound stopping_chain extend
extend-ends = refl

-- the edge is the coboundary of the point 1, which has the id 0 in the part
lift-ends : those ends (lift path ends 1 (set_of (2 ∷ []))) ≡ Ok (0 ∷ [])
unfolding path ends incidence is_positive is_bounding moved value_at canonical class_of canonical_bound lift
lift-ends = refl

point : Complex
point = (0 ∷ []) ∷ []

betti-point : map (relative_betti path point) (0 ∷ 1 ∷ []) ≡ 0 ∷ 0 ∷ []
unfolding path point incidence is_relatively_positive is_relatively_bounding
betti-point = refl

-- the point 0 with the relative bound of its connecting cochain, which is the point 1
extend-point : those path (extend path point 0 (set_of (0 ∷ []))) ≡ Ok (0 ∷ 1 ∷ [])
unfolding path point incidence moved value_at is_relatively_positive is_relatively_bounding relative_canonical relative_class_of relative_bound stopping_chain extend
extend-point = refl

-- beside the edge 01 with its ends: the edges 01 and 02 with the coboundary of the point 1, which are the edges 02 and 12
shrink-path : those filled (shrink filled path 1 (set_of (2 ∷ 4 ∷ []))) ≡ Ok (4 ∷ 5 ∷ [])
unfolding filled path incidence is_positive is_bounding moved value_at canonical class_of canonical_bound shrink
shrink-path = refl

band : Complex
band =
    (1 ∷ []) ∷ (2 ∷ []) ∷ (4 ∷ []) ∷ (1 ∷ 2 ∷ []) ∷ (1 ∷ 4 ∷ []) ∷ (2 ∷ 4 ∷ []) ∷ (1 ∷ 2 ∷ 4 ∷ []) ∷ (6 ∷ [])
    ∷ (1 ∷ 6 ∷ []) ∷ (2 ∷ 6 ∷ []) ∷ (1 ∷ 2 ∷ 6 ∷ []) ∷ (3 ∷ []) ∷ (1 ∷ 3 ∷ []) ∷ (3 ∷ 4 ∷ []) ∷ (1 ∷ 3 ∷ 4 ∷ []) ∷ (5 ∷ [])
    ∷ (1 ∷ 5 ∷ []) ∷ (3 ∷ 5 ∷ []) ∷ (1 ∷ 3 ∷ 5 ∷ []) ∷ (5 ∷ 6 ∷ []) ∷ (1 ∷ 5 ∷ 6 ∷ []) ∷ (2 ∷ 3 ∷ []) ∷ (2 ∷ 5 ∷ []) ∷ (2 ∷ 3 ∷ 5 ∷ [])
    ∷ (3 ∷ 6 ∷ []) ∷ (2 ∷ 3 ∷ 6 ∷ []) ∷ (4 ∷ 5 ∷ []) ∷ (2 ∷ 4 ∷ 5 ∷ []) ∷ (4 ∷ 6 ∷ []) ∷ (3 ∷ 4 ∷ 6 ∷ []) ∷ []

plane : Complex
plane = band ++ (4 ∷ 5 ∷ 6 ∷ []) ∷ []

within-plane : not_within plane band ∷ not_within band plane ∷ [] ≡ None ∷ Some (4 ∷ 5 ∷ 6 ∷ []) ∷ []
unfolding band plane not_within
within-plane = refl

betti-band : map (relative_betti plane band) (0 ∷ 1 ∷ 2 ∷ []) ≡ 0 ∷ 0 ∷ 1 ∷ []
unfolding band plane incidence is_relatively_positive is_relatively_bounding
betti-band = refl

-- the edges 23, 25, 36, 45, 46, a cocycle of the band that is no coboundary, are one of the plane as they stand
extend-band : those plane (extend plane band 1 (set_of (21 ∷ 22 ∷ 24 ∷ 26 ∷ 28 ∷ []))) ≡ Ok (21 ∷ 22 ∷ 24 ∷ 26 ∷ 28 ∷ [])
unfolding band plane incidence moved value_at is_relatively_positive is_relatively_bounding relative_canonical relative_class_of relative_bound stopping_chain extend
extend-band = refl
