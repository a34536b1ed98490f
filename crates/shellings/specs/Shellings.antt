-- Shellings of links, and complexes whose vertices all have one.
--     Refusal             why a list of simplices is no shelling of a link, or lists are none of all vertices
--     common d t          the vertices of t that d has too, in the order of t
--     unfit L n F         the first member of F that is no simplex of L with n vertices, or stood before
--     lacking L F         the first simplex of L that lies in none of F
--     points L n          how many points L has, where n = 1 and they are not two, or n > 1 and there are none
--     link_ridge L n F    the first simplex of L with n - 1 vertices, n > 1, that does not lie in two of F, and in how many it lies
--     meets d e t         whether d and t have in common all of t but one vertex, and among it what e and t have in common
--     step F              the least place in F, from 1, of a simplex t before which e stands but no d with meets d e t
--     shelling K s F      why F is no shelling of the link of s in K, the first of these reasons in this order; none where it is one
--     manifold K C        why C, simplices each with a list, has not a shelling of the link of each vertex of K: K is empty, or a list
--                         is refused, or the least vertex that has none
-- The simplices of a shelling have one dimension, that of a sphere whose join with s has the dimension of K. Simplices of L are
-- taken in simplex order.
-- Source: shellings are those of H. Bruggesser and P. Mani, "Shellable decompositions of cells and spheres" (1971), in the form of
-- G. M. Ziegler, Lectures on Polytopes, section 8.1. A shellable closed pseudomanifold is a sphere: G. Danaraj and V. Klee,
-- "Shellings of spheres and polytopes" (1974); that is not proved here, but that it has the Betti numbers of one: see the laws.
use Rattle.std.specs.Prelude.{ℕ, zero, suc, Bool, false, cond, ◌&&◌, not, ◌||◌, List, [], ◌∷◌, ◌++◌, length, nat_eq, Option, Some, None}
use Rattle.std.specs.List.{filter, find, list_all, list_any, range_with_len, remove}
use Rattle.homology.specs.Sets.{set_of}
use Rattle.homology.specs.Simplices.{same_list}
use Rattle.homology.specs.Complexes.{Complex}
use Rattle.homology.specs.Kinds.{ids}
use Rattle.homology.specs.Growth.{is_there}
use Rattle.manifolds.specs.Closed.{lies_in, in_order}
use Rattle.manifolds.specs.Links.{link, degrees_left}

pub data Refusal : Type 0 where
  Nothing : Refusal
  NotThere : List ℕ → Refusal
  NotFacet : List ℕ → Refusal
  Twice : List ℕ → Refusal
  Lacks : List ℕ → Refusal
  Points : ℕ → Refusal
  LinkRidge : List ℕ → ℕ → Refusal
  Step : ℕ → Refusal
  NoCertificate : List ℕ → Refusal

abbrev pub or_else : Option Refusal → Option Refusal → Option Refusal
or_else (Some why) later = Some why
or_else None later = later

abbrev pub because : {A : Type 0} → (A → Refusal) → Option A → Option Refusal
because why None = None
because why (Some x) = Some (why x)

abbrev pub common : List ℕ → List ℕ → List ℕ
common d t = filter (set_of d) t

abbrev pub is_facet : Complex → ℕ → List ℕ → Bool
is_facet L n t = nat_eq (length t) n && is_there L t

-- after the list before
abbrev pub unfit_after : List (List ℕ) → Complex → ℕ → List (List ℕ) → Option Refusal
unfit_after before L n [] = None
unfit_after before L n (t ∷ F) =
    cond (is_facet L n t) (cond (is_there before t) (Some (Twice t)) (unfit_after (before ++ t ∷ []) L n F)) (Some (NotFacet t))

abbrev pub unfit : Complex → ℕ → List (List ℕ) → Option Refusal
unfit L n F = unfit_after [] L n F

abbrev pub lacking : Complex → List (List ℕ) → Option Refusal
lacking L F = because Lacks (find (λ x. not (list_any (lies_in x) F)) L)

abbrev pub points : Complex → ℕ → Option Refusal
points L zero = None
points L (suc zero) = cond (nat_eq (length L) 2) None (Some (Points (length L)))
points L (suc (suc n)) = cond (nat_eq (length L) 0) (Some (Points 0)) None

abbrev pub times_in : List (List ℕ) → List ℕ → ℕ
times_in F x = length (filter (lies_in x) F)

abbrev pub link_ridge : Complex → ℕ → List (List ℕ) → Option Refusal
link_ridge L zero F = None
link_ridge L (suc n) F =
    because
    (λ x. LinkRidge x (times_in F x))
    (find (λ x. nat_eq (length x) n && not (nat_eq (times_in F x) 2)) L)

abbrev pub meets : List ℕ → List ℕ → List ℕ → Bool
meets d e t =
    list_any
    (λ k. same_list (common d t) (remove t k) && lies_in (common e t) (remove t k))
    (range_with_len 0 (length t))

-- after the list before, whose next place is k
abbrev pub step_after : List (List ℕ) → ℕ → List (List ℕ) → Option Refusal
step_after before k [] = None
step_after before k (t ∷ F) =
    cond
    (list_all (λ e. list_any (λ d. meets d e t) before) before)
    (step_after (before ++ t ∷ []) (suc k) F)
    (Some (Step k))

abbrev pub step : List (List ℕ) → Option Refusal
step F = step_after [] 1 F

-- of a complex L, whose simplices of most vertices are to have n
abbrev pub fault : Complex → ℕ → List (List ℕ) → Option Refusal
fault L n F = or_else (unfit L n F) (or_else (lacking L F) (or_else (points L n) (or_else (link_ridge L n F) (step F))))

unfoldable pub shelling : Complex → List ℕ → List (List ℕ) → Option Refusal
shelling K s F = cond (is_there K s) (fault (link K s) (degrees_left K s) F) (Some (NotThere s))

abbrev pub refused : Complex → List (List ℕ × List (List ℕ)) → Option Refusal
refused K [] = None
refused K ((s, F) ∷ C) = or_else (shelling K s F) (refused K C)

abbrev pub has_list : List (List ℕ × List (List ℕ)) → List ℕ → Bool
has_list [] v = false
has_list ((s, F) ∷ C) v = same_list s v || has_list C v

abbrev pub without_list : Complex → List (List ℕ × List (List ℕ)) → Option Refusal
without_list K C = because NoCertificate (find (λ v. not (has_list C v)) (in_order K (ids K 0)))

unfoldable pub manifold : Complex → List (List ℕ × List (List ℕ)) → Option Refusal
manifold K C = cond (nat_eq (length K) 0) (Some Nothing) (or_else (refused K C) (without_list K C))
