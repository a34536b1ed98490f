-- The open star of a simplex s, and what its members have besides.
--     next_ids K us         the ids of the simplices of which one of the simplices us is a face of codimension one
--     is_over K s r c       whether the simplex with id c has the vertices of s and r more
--     over K s r            the ids of these
--     rest s u              the vertices of u that s lacks
--     is_rest K s c t       whether t is the id of the simplex with the vertices that s lacks of that with id c
--     IsReached K s r ids   the ids are those of simplices in the link of s, among them all whose union with s has at most r vertices more than s
--     link_ids K s          the ids of the simplices in the link of s
--     IsBounded K x w       w has the vertices of the simplex with id x and of its cofaces; it has one more than the largest of K, but its faces around x are in K
use Rattle.std.specs.Prelude.{◌≡◌, ℕ, ◌+◌, ◌<◌, ◌≤◌, Bool, true, false, not, ◌&&◌, List, length, nat_eq, nat_lt, slice_index}
use Rattle.std.specs.List.{filter, list_any, range_with_len, remove}
use Rattle.std.specs.List.Sorted.{IsStrictlyIncreasing}
use Rattle.homology.specs.Sets.{set_of}
use Rattle.homology.specs.Simplices.{same_list}
use Rattle.homology.specs.Complexes.{Complex, dimensions, incidence, simplex_at}
use Rattle.homology.specs.Growth.{is_there}
use Rattle.manifolds.specs.Closed.{lies_in}
use Rattle.manifolds.specs.Links.{in_link}

abbrev pub next_ids : Complex → List ℕ → List ℕ
next_ids K us = filter (λ c. list_any (λ u. incidence K u c) us) (range_with_len 0 (length K))

abbrev pub is_over : Complex → List ℕ → ℕ → ℕ → Bool
is_over K s r c = lies_in s (simplex_at K c) && nat_eq (length (simplex_at K c)) (length s + r)

abbrev pub over : Complex → List ℕ → ℕ → List ℕ
over K s r = filter (is_over K s r) (range_with_len 0 (length K))

abbrev pub rest : List ℕ → List ℕ → List ℕ
rest s u = filter (λ v. not (set_of s v)) u

abbrev pub is_rest : Complex → List ℕ → ℕ → ℕ → Bool
is_rest K s c t = nat_lt t (length K) && same_list (simplex_at K t) (rest s (simplex_at K c))

pub record IsReached (K : Complex) (s : List ℕ) (r : ℕ) (ids : List ℕ) : Type 0 where
  pub linked : (t : ℕ) → set_of ids t ≡ true → (t < length K) × (in_link K s (simplex_at K t) ≡ true)
  pub all : (c t : ℕ) → c < length K → t < length K → lies_in s (simplex_at K c) ≡ true → length s < length (simplex_at K c)
      → length (simplex_at K c) ≤ length s + r → simplex_at K t ≡ rest s (simplex_at K c) → set_of ids t ≡ true

abbrev pub link_ids : Complex → List ℕ → List ℕ
link_ids K s = filter (λ x. in_link K s (simplex_at K x)) (range_with_len 0 (length K))

-- w has the vertices of the simplex with id x and of its cofaces, and one more than the largest of K; each face of w that leaves out one of the other vertices is
-- in K
pub record IsBounded (K : Complex) (x : ℕ) (w : List ℕ) : Type 0 where
  pub ascending : IsStrictlyIncreasing w
  pub lies : lies_in (simplex_at K x) w ≡ true
  pub above : (z : ℕ) → z < length K → incidence K x z ≡ true → lies_in (simplex_at K z) w ≡ true
  pub facets : (j : ℕ) → j < length w → set_of (simplex_at K x) (slice_index w j) ≡ false → is_there K (remove w j) ≡ true
  pub long : length w ≡ dimensions K + 1
