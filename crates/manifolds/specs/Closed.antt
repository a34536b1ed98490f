-- Closed complexes.
--     top K              the dimension of K, the largest of a simplex; 0 for the empty complex
--     lies_in s t        whether each vertex of s is one of t
--     above K s          the ids of the simplices of the dimension of K in which s lies
--     times K s          how many these are
--     in_order K xs      the simplices with the ids xs, in simplex order
--     first_of K xs      the first of them
--     uncovered K        the ids of the simplices that lie in no simplex of the dimension of K
--     ridges K           those of the simplices of one dimension less; points alone have none
--     faulty_ridges K    those of the ridges that do not lie in two simplices of the dimension of K
--     NotClosed          why a complex is not closed: it is empty; its first simplex that lies in none of its dimension; or its first ridge
--                        that does not lie in two simplices of its dimension, and in how many it lies
--     closed K           the dimension of K, where K is not empty, each simplex lies in one of this dimension, and each ridge, which is a
--                        simplex of one dimension less, lies in exactly two; else what is wrong: there is nothing, or else the first
--                        simplex that lies in none, or else the first ridge that does not lie in two, and in how many it lies. Points alone
--                        have no ridge, and are closed of dimension 0
-- Everything is counted over all simplices.
-- Source: closed pseudomanifolds, H. Seifert and W. Threlfall, A Textbook of Topology, section 24, without the demand that they are
-- connected.
use Rattle.std.specs.Prelude.{ℕ, zero, suc, ◌-◌, Bool, not, List, [], ◌∷◌, map, length, nat_eq, Option, Some, None, Result, Ok, Err}
use Rattle.std.specs.List.{filter, list_all, range_with_len}
use Rattle.homology.specs.Sets.{set_of}
use Rattle.homology.specs.Order.{in_simplex_order}
use Rattle.homology.specs.Complexes.{Complex, dimensions, simplex_at}
use Rattle.homology.specs.Kinds.{ids}

pub data NotClosed : Type 0 where
  Nothing : NotClosed
  NotPure : List ℕ → NotClosed
  Ridge : List ℕ → ℕ → NotClosed

abbrev pub top : Complex → ℕ
top K = dimensions K - 1

abbrev pub lies_in : List ℕ → List ℕ → Bool
lies_in s t = list_all (set_of t) s

abbrev pub above : Complex → List ℕ → List ℕ
above K s = filter (λ t. lies_in s (simplex_at K t)) (ids K (top K))

abbrev pub times : Complex → List ℕ → ℕ
times K s = length (above K s)

abbrev pub in_order : Complex → List ℕ → List (List ℕ)
in_order K xs = in_simplex_order (map (simplex_at K) xs)

abbrev pub head_of : List (List ℕ) → Option (List ℕ)
head_of [] = None
head_of (s ∷ ss) = Some s

abbrev pub first_of : Complex → List ℕ → Option (List ℕ)
first_of K xs = head_of (in_order K xs)

abbrev pub uncovered : Complex → List ℕ
uncovered K = filter (λ x. nat_eq (times K (simplex_at K x)) 0) (range_with_len 0 (length K))

-- of a complex of dimension n
abbrev pub ridges_of : Complex → ℕ → List ℕ
ridges_of K zero = []
ridges_of K (suc p) = ids K p

abbrev pub ridges : Complex → List ℕ
ridges K = ridges_of K (top K)

abbrev pub faulty_ridges : Complex → List ℕ
faulty_ridges K = filter (λ x. not (nat_eq (times K (simplex_at K x)) 2)) (ridges K)

abbrev pub judged : Complex → Option (List ℕ) → Option (List ℕ) → Result ℕ NotClosed
judged K (Some s) ridge = Err (NotPure s)
judged K None (Some s) = Err (Ridge s (times K s))
judged K None None = Ok (top K)

abbrev pub closed_of : Complex → ℕ → Result ℕ NotClosed
closed_of K zero = Err Nothing
closed_of K (suc n) = judged K (first_of K (uncovered K)) (first_of K (faulty_ridges K))

unfoldable pub closed : Complex → Result ℕ NotClosed
closed K = closed_of K (length K)
