-- Links, and whether they have the Betti numbers of spheres.
--     is_union s t u       whether u has the vertices of s and of t and no others
--     in_link K s t        whether s and t have no vertex in common, and some simplex of K is their union
--     link K s             the link of s: the simplices t of K for which this holds, in simplex order
--     link_betti K s       its Betti numbers from degree 0 to its dimension; none for the empty link
--     sphere_counts n      the Betti numbers of a sphere of dimension n - 1: none for n = 0, which is the empty sphere; 2 for two points; else 1,
--                          as many zeros as are missing, and 1
--     degrees_left K s     one more than the dimension of a sphere whose join with s has the dimension of K
--     passes K s           whether the link of s has the Betti numbers of such a sphere
--     failing K            the ids of the simplices whose links do not pass
--     NotSphere            a simplex whose link does not pass, and the Betti numbers of that link
--     links K              whether each link passes; else the first simplex whose link does not, and the Betti numbers of that link. The empty complex
--                          passes
-- The link is a complex of its own: faces come before what they are faces of in simplex order, and its Betti numbers do not depend on the
-- order.
-- In dimension at most 3 a closed complex all of whose links pass is a combinatorial manifold; that is not proved here. In greater
-- dimensions links say no more than that their Betti numbers are these.
-- Source: Munkres, Elements of Algebraic Topology, section 63 (links, homology manifolds).
use Rattle.std.specs.Prelude.{ℕ, zero, suc, ◌-◌, Bool, ◌&&◌, not, ◌||◌, List, [], ◌∷◌, ◌++◌, map, length, replicate, Option, Some, None, Result, Ok, Err}
use Rattle.std.specs.List.{filter, list_all, list_any, range_with_len}
use Rattle.homology.specs.Sets.{set_of}
use Rattle.homology.specs.Simplices.{same_list}
use Rattle.homology.specs.Complexes.{Complex, dimensions, simplex_at}
use Rattle.homology.specs.Kinds.{betti}
use Rattle.manifolds.specs.Closed.{lies_in, in_order, first_of}

pub data NotSphere : Type 0 where
  Link : List ℕ → List ℕ → NotSphere

abbrev pub is_union : List ℕ → List ℕ → List ℕ → Bool
is_union s t u = lies_in s u && (lies_in t u && list_all (λ v. set_of s v || set_of t v) u)

abbrev pub are_apart : List ℕ → List ℕ → Bool
are_apart s t = list_all (λ v. not (set_of s v)) t

abbrev pub in_link : Complex → List ℕ → List ℕ → Bool
in_link K s t = are_apart s t && list_any (is_union s t) K

unfoldable pub link : Complex → List ℕ → Complex
link K s = in_order K (filter (λ x. in_link K s (simplex_at K x)) (range_with_len 0 (length K)))

abbrev pub link_betti : Complex → List ℕ → List ℕ
link_betti K s = map (betti (link K s)) (range_with_len 0 (dimensions (link K s)))

abbrev pub sphere_counts : ℕ → List ℕ
sphere_counts zero = []
sphere_counts (suc zero) = 2 ∷ []
sphere_counts (suc (suc n)) = 1 ∷ (replicate n 0 ++ 1 ∷ [])

abbrev pub degrees_left : Complex → List ℕ → ℕ
degrees_left K s = dimensions K - length s

abbrev pub passes : Complex → List ℕ → Bool
passes K s = same_list (link_betti K s) (sphere_counts (degrees_left K s))

abbrev pub failing : Complex → List ℕ
failing K = filter (λ x. not (passes K (simplex_at K x))) (range_with_len 0 (length K))

abbrev pub links_of : Complex → Option (List ℕ) → Result (Unit {0}) NotSphere
links_of K None = Ok tt
links_of K (Some s) = Err (Link s (link_betti K s))

unfoldable pub links : Complex → Result (Unit {0}) NotSphere
links K = links_of K (first_of K (failing K))
