-- The definitions tried on small complexes, each line by evaluation alone, with values found by hand:
--     refusals              an edge that is turned; a vertex without an image; a map, also one that takes all to one point
--     pulled, pushed        two of the edges of the filled square lie over the edge 12 or 02 of the triangle
--     pulled_to_a_point     a map to one point pulls each edge back to nothing
use Rattle.std.proofs.Common.{◌≡◌, ℕ, List, [], ◌∷◌, length, map, refl}
use Rattle.std.specs.Prelude.{Some, None}
use Rattle.std.specs.List.{filter, range_with_len}
use Rattle.homology.specs.Sets.{Ids, set_of}
use Rattle.homology.specs.Complexes.{Complex, incidence}
use Rattle.homology.specs.Kinds.{is_positive, is_bounding}
use Rattle.cohomology.specs.Classes.{canonical, class_of}
use Rattle.maps.specs.Maps.{Turned, NoImage, by_pairs, refusal, push, pull}

-- the ids in a set
abbrev those : Complex → Ids → List ℕ
those K a = filter a (range_with_len 0 (length K))

-- 0, 1, 01, 2, 02, 12
hollow : Complex
hollow = (0 ∷ []) ∷ (1 ∷ []) ∷ (0 ∷ 1 ∷ []) ∷ (2 ∷ []) ∷ (0 ∷ 2 ∷ []) ∷ (1 ∷ 2 ∷ []) ∷ []

-- the hollow triangle, and the triangle 123 filled in beside it: 3, 13, 23, 123 with the ids 6 to 9
larger : Complex
larger =
    (0 ∷ []) ∷ (1 ∷ []) ∷ (0 ∷ 1 ∷ []) ∷ (2 ∷ []) ∷ (0 ∷ 2 ∷ []) ∷ (1 ∷ 2 ∷ [])
    ∷ (3 ∷ []) ∷ (1 ∷ 3 ∷ []) ∷ (2 ∷ 3 ∷ []) ∷ (1 ∷ 2 ∷ 3 ∷ []) ∷ []

-- 3 to 2; 3 to 0; all to 1
onto_triangle : ℕ → ℕ
onto_triangle = by_pairs ((3, 2) ∷ [])

turned : ℕ → ℕ
turned = by_pairs ((3, 0) ∷ [])

to_a_point : ℕ → ℕ
to_a_point = by_pairs ((0, 1) ∷ (1, 1) ∷ (2, 1) ∷ (3, 1) ∷ [])

refusals :
    refusal larger hollow onto_triangle ∷ refusal larger hollow turned ∷ refusal larger hollow (by_pairs []) ∷ refusal larger hollow to_a_point ∷ []
    ≡ None ∷ Some (Turned (1 ∷ 3 ∷ [])) ∷ Some (NoImage (3 ∷ [])) ∷ None ∷ []
unfolding hollow larger onto_triangle turned to_a_point refusal
refusals = refl

-- the edge 12 lies under 12 and 13; the point 2 under 2 and 3; nothing lies under the edge 01 but itself
pulled :
    map (λ t. those larger (pull larger hollow onto_triangle (set_of (t ∷ [])))) (5 ∷ 3 ∷ 2 ∷ [])
    ≡ (5 ∷ 7 ∷ []) ∷ (3 ∷ 6 ∷ []) ∷ (2 ∷ []) ∷ []
unfolding hollow larger onto_triangle pull
pulled = refl

pulled_to_a_point : map (λ t. those larger (pull larger hollow to_a_point (set_of (t ∷ [])))) (5 ∷ 1 ∷ []) ≡ [] ∷ (0 ∷ 1 ∷ 3 ∷ 6 ∷ []) ∷ []
unfolding hollow larger to_a_point pull
pulled_to_a_point = refl

-- 13 goes to 12, 23 to nothing, and 12 with 13 twice to 12
pushed :
    map (λ c. those hollow (push larger hollow onto_triangle (set_of c))) ((7 ∷ []) ∷ (8 ∷ []) ∷ (5 ∷ 7 ∷ []) ∷ (2 ∷ 7 ∷ 9 ∷ []) ∷ [])
    ≡ (5 ∷ []) ∷ [] ∷ [] ∷ (2 ∷ 5 ∷ []) ∷ []
unfolding hollow larger onto_triangle push
pushed = refl

-- the class of the triangle goes to that of the larger complex, and to zero along the map to a point
classes :
    class_of larger 1 (pull larger hollow onto_triangle (set_of (canonical hollow 1 (0 ∷ []))))
    ∷ class_of larger 1 (pull larger hollow to_a_point (set_of (canonical hollow 1 (0 ∷ []))))
    ∷ []
    ≡ (0 ∷ []) ∷ [] ∷ []
unfolding hollow larger onto_triangle to_a_point incidence is_positive is_bounding canonical class_of pull
classes = refl
