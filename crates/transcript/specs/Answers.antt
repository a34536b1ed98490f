-- What a question on a complex is answered.
--     Shown               what is shown: numbers, of what kind a simplex is, its rows in the contraction, essential simplices,
--                         a cochain, a chain, a class, classes, pairings, a value; or no more than that the question was asked
--     Answer              what is shown, or why nothing is
--     answer K c          the answer to the question c on the complex K
--     shown_text          what is shown, in words
--     simplex_counts K    the number of simplices of each dimension from 0 to the largest
--     betti_numbers K     the Betti numbers of these degrees
--     literal K a         the simplices of the set a, in simplex order
use Rattle.std.specs.Prelude.{ℕ, ◌+◌, ◌-◌, Bool, cond, List, [], ◌∷◌, ◌++◌, length, map, position, codes, nat_lt, Option, Some, None, Result, Ok, Err}
use Rattle.std.specs.List.{filter, flat_map, range_with_len}
use Rattle.homology.specs.Sets.{Ids, plus, set_of}
use Rattle.homology.specs.Simplices.{same_list}
use Rattle.homology.specs.Order.{in_simplex_order}
use Rattle.homology.specs.Complexes.{Complex, dimensions, simplex_at}
use Rattle.homology.specs.Chains.{boundary, coboundary}
use Rattle.homology.specs.Kinds.{betti, ids, is_essential}
use Rattle.cohomology.specs.Classes.{essentials, essential_at, class_of, canonical_bound}
use Rattle.cohomology.specs.Maps.{f_of, phi_of}
use Rattle.products.specs.Products.{cup}
use Rattle.products.specs.Caps.{cap}
use Rattle.cohomology_operations.specs.Bocksteins.{bockstein}
use Rattle.cohomology_operations.specs.Squares.{square}
use Rattle.cohomology_operations.specs.Cohomologous.{cohomologous}
use Rattle.manifolds.specs.Closed.{closed}
use Rattle.manifolds.specs.Links.{links}
use Rattle.characteristic_classes.specs.Pairings.{duality}
use Rattle.characteristic_classes.specs.WuClasses.{wu, stiefel_whitney, stiefel_whitney_number}
use Rattle.language.specs.Language.{Compute, Count, Betti, KindOf, ModelOf, Show, ShowChain, Delta, Boundary, ClassOf, Bound, Cup, CupI, Square, Bockstein, SameCup, SameSquare, SameBockstein, Cap, Closed, Links, Duality, Wu, Sw, SwNumber}
use Rattle.language.specs.Grammar.{and_then}
use Rattle.transcript.specs.Values.{simplex_text, numbers_text, cochain_text, chain_text, class_text, words_text, bit_text, pairings_text}
use Rattle.transcript.specs.Refusals.{Why, NotThere, Differs, Degrees, or_why, not_cohomologous, not_closed, not_sphere, not_dual, no_number}
use Rattle.transcript.specs.Words.{cochain_of, cocycle_of, chain_of}

pub data Shown : Type 0 where
  -- of each dimension from 0 to the largest; or one number alone
  Numbers : List ℕ → Shown
  -- a simplex, and whether it is essential
  Kind : List ℕ → Bool → Shown
  -- a simplex, and the simplices of its f and phi
  Maps : List ℕ → List (List ℕ) → List (List ℕ) → Shown
  -- a degree, and its essential simplices in the order of attachment
  Essential : ℕ → List (List ℕ) → Shown
  -- a degree, and the simplices
  Cochain : ℕ → List (List ℕ) → Shown
  Chain : ℕ → List (List ℕ) → Shown
  -- a degree, and class numbers
  Class : ℕ → List ℕ → Shown
  -- classes, each with its degree
  Words : List (ℕ × List ℕ) → Shown
  -- of each degree from 0 the rows of its pairing
  Rows : List (List (List Bool)) → Shown
  Bit : Bool → Shown
  Passed : Shown

abbrev pub Answer : Type 0
Answer = Result Shown Why

unfoldable pub simplex_counts : Complex → List ℕ
simplex_counts K = map (λ p. length (ids K p)) (range_with_len 0 (dimensions K))

unfoldable pub betti_numbers : Complex → List ℕ
betti_numbers K = map (betti K) (range_with_len 0 (dimensions K))

unfoldable pub literal : Complex → Ids → List (List ℕ)
literal K a = in_simplex_order (map (simplex_at K) (filter a (range_with_len 0 (length K))))

-- the id of a simplex, where it is there
abbrev pub found : List ℕ → Option ℕ → Result ℕ Why
found s (Some id) = Ok id
found s None = Err (NotThere s)

abbrev pub id_of : Complex → List ℕ → Result ℕ Why
id_of K s = found s (position (same_list s) K)

-- the canonical bound of a coboundary of degree p
abbrev pub shown_bound : Complex → ℕ → Ids → Shown
shown_bound K p e = Cochain (p - 1) (literal K (set_of (canonical_bound K p e)))

-- the canonical bound of a cocycle of degree p with this class word: there is one where the word is zero
abbrev pub bound_of : Complex → ℕ → Ids → List ℕ → Answer
bound_of K p e [] = Ok (shown_bound K p e)
bound_of K p e (k ∷ ks) = Err (Differs (simplex_at K (essential_at K p k)))

-- a chain of degree n has a cap product with cochains of no greater degree
abbrev pub cap_of : Complex → ℕ × Ids → ℕ × Ids → Answer
cap_of K (p, a) (n, c) = cond (nat_lt n p) (Err (Degrees p n)) (Ok (Chain (n - p) (literal K (cap K p a c))))

abbrev pub answer : Complex → Compute → Answer
answer K Count = Ok (Numbers (simplex_counts K))
answer K Betti = Ok (Numbers (betti_numbers K))
answer K (KindOf s) = and_then (id_of K s) (λ t. Ok (Kind s (is_essential K t)))
answer K (ModelOf s) = and_then (id_of K s) (λ t. Ok (Maps s (literal K (set_of (f_of K t))) (literal K (set_of (phi_of K t)))))
answer K (Compute.Classes p) = Ok (Essential p (map (simplex_at K) (essentials K p)))
answer K (Show w) = and_then (cochain_of K w) (λ (p, a). Ok (Cochain p (literal K a)))
answer K (ShowChain w) = and_then (chain_of K w) (λ (p, c). Ok (Chain p (literal K c)))
answer K (Delta w) = and_then (cochain_of K w) (λ (p, a). Ok (Cochain (p + 1) (literal K (coboundary K a))))
answer K (Boundary w) = and_then (chain_of K w) (λ (p, c). Ok (Chain (p - 1) (literal K (boundary K c))))
answer K (ClassOf w) = and_then (cocycle_of K w) (λ (p, a). Ok (Class p (class_of K p a)))
answer K (Bound w) = and_then (cocycle_of K w) (λ (p, e). bound_of K p e (class_of K p e))
answer K (Cup v w) =
    and_then (cocycle_of K v) (λ (p, a). and_then (cocycle_of K w) (λ (q, b). Ok (Class (p + q) (class_of K (p + q) (cup K 0 a b)))))
answer K (CupI i v w) =
    and_then (cochain_of K v) (λ (p, a). and_then (cochain_of K w) (λ (q, b). Ok (Cochain (p + q - i) (literal K (cup K i a b)))))
answer K (Square k w) = and_then (cocycle_of K w) (λ (p, a). Ok (Class (p + k) (class_of K (p + k) (square K k p a))))
answer K (Bockstein w) = and_then (cocycle_of K w) (λ (p, a). Ok (Class (p + 1) (class_of K (p + 1) (bockstein K a))))
answer K (SameCup v v2 w w2) =
    and_then (cocycle_of K v) (λ (p, a). and_then (cocycle_of K v2) (λ (p2, a2).
    and_then (cocycle_of K w) (λ (q, b). and_then (cocycle_of K w2) (λ (q2, b2).
    and_then (or_why not_cohomologous (cohomologous K (p, a) (p2, a2))) (λ _. and_then (or_why not_cohomologous (cohomologous K (q, b) (q2, b2))) (λ _.
    Ok (shown_bound K (p + q) (plus (cup K 0 a b) (cup K 0 a2 b2)))))))))
answer K (SameSquare k v v2) =
    and_then (cocycle_of K v) (λ (p, a). and_then (cocycle_of K v2) (λ (p2, a2).
    and_then (or_why not_cohomologous (cohomologous K (p, a) (p2, a2))) (λ _. Ok (shown_bound K (p + k) (plus (square K k p a) (square K k p a2))))))
answer K (SameBockstein v v2) =
    and_then (cocycle_of K v) (λ (p, a). and_then (cocycle_of K v2) (λ (p2, a2).
    and_then (or_why not_cohomologous (cohomologous K (p, a) (p2, a2))) (λ _. Ok (shown_bound K (p + 1) (plus (bockstein K a) (bockstein K a2))))))
answer K (Cap w u) = and_then (cochain_of K w) (λ a. and_then (chain_of K u) (λ c. cap_of K a c))
answer K Closed = and_then (or_why not_closed (closed K)) (λ n. Ok (Numbers (n ∷ [])))
answer K Links = and_then (or_why not_sphere (links K)) (λ _. Ok Passed)
answer K Duality = and_then (or_why not_dual (duality K)) (λ pairings. Ok (Rows pairings))
answer K Wu = and_then (or_why not_dual (wu K)) (λ words. Ok (Words words))
answer K Sw = and_then (or_why not_dual (stiefel_whitney K)) (λ words. Ok (Words words))
answer K (SwNumber parts) = and_then (or_why no_number (stiefel_whitney_number K parts)) (λ b. Ok (Bit b))

abbrev pub dim_of : List ℕ → ℕ
dim_of s = length s - 1

abbrev pub shown_text : Shown → List ℕ
shown_text (Numbers ns) = numbers_text ns
shown_text (Kind s essential) = codes " " ++ simplex_text s ++ cond essential (codes " essential") (codes " other")
shown_text (Maps s f phi) =
    codes " " ++ simplex_text s ++ codes " " ++ chain_text (dim_of s) f ++ codes " " ++ chain_text (dim_of s + 1) phi
shown_text (Essential p ss) = numbers_text (p ∷ length ss ∷ []) ++ flat_map (λ s. 32 ∷ simplex_text s) ss
shown_text (Cochain p ss) = codes " " ++ cochain_text p ss
shown_text (Chain p ss) = codes " " ++ chain_text p ss
shown_text (Class p ks) = codes " " ++ class_text p ks
shown_text (Words ws) = words_text ws
shown_text (Rows pairings) = pairings_text pairings
shown_text (Bit b) = codes " " ++ bit_text b
shown_text Passed = []
