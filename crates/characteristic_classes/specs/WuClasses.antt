-- Wu classes, Stiefel-Whitney classes and Stiefel-Whitney numbers of a closed complex without degenerate classes.
--     is_wu K k v            whether the class word v of degree k pairs with each class word x of the complementary degree as the square
--                            with exponent k of x has its value
--     wu_class K k           the first such class word, the Wu class v_k; there is exactly one: see the laws
--     wu K                   the Wu classes from degree 0 to the dimension of K, each with its degree
--     whitney_cochain K k    the sum of Sq^(k - i) of the canonical cocycles of v_i, for i from 0 to k
--     whitney_class K k      its class word, the Stiefel-Whitney class w_k
--     stiefel_whitney K      these classes from degree 0 to the dimension of K, each with its degree
--     product_of K a parts   the cup product of the cochains a k, for the listed k in their order
--     product K parts        the cup product of the canonical cocycles of the w_k, for the listed k in their order
--     NoNumber               why there is no number: there are no classes, or the sum of the degrees, and the dimension that it should be
--     stiefel_whitney_number K parts     its value on the sum of all simplices of the dimension of K, where the listed degrees, of which
--                            there is one at least, have this dimension as their sum
-- Each where K is closed and has no degenerate class; else what is wrong.
-- Source: Wu's formula, Milnor and Stasheff, Characteristic Classes, section 11, which for closed manifolds gives the Stiefel-Whitney
-- classes of the tangent bundle; here it is the definition, for complexes too that are no manifolds. Numbers: section 4.
use Rattle.std.specs.Prelude.{ℕ, ◌+◌, ◌-◌, Bool, not, cond, List, [], ◌∷◌, map, nat_eq, Result, Ok, Err}
use Rattle.std.specs.List.{list_all, range_with_len, sum}
use Rattle.homology.specs.Parity.{xor}
use Rattle.homology.specs.Sets.{Ids, empty}
use Rattle.homology.specs.ListSums.{sum_over}
use Rattle.homology.specs.Complexes.{Complex, dimensions}
use Rattle.cohomology.specs.Searches.{first}
use Rattle.cohomology.specs.Classes.{classes, class_of}
use Rattle.products.specs.Products.{cup}
use Rattle.cohomology_operations.specs.Squares.{square}
use Rattle.manifolds.specs.Closed.{top}
use Rattle.characteristic_classes.specs.Pairings.{NotDual, cocycle, on_top, pair, where_dual}

pub data NoNumber : Type 0 where
  NoClasses : NotDual → NoNumber
  Sum : ℕ → ℕ → NoNumber

abbrev pub is_wu : Complex → ℕ → List ℕ → Bool
is_wu K k v =
    list_all
    (λ x. not (xor (pair K k v x) (on_top K (square K k (top K - k) (cocycle K (top K - k) x)))))
    (classes K (top K - k))

unfoldable pub wu_class : Complex → ℕ → List ℕ
wu_class K k = first (is_wu K k) (classes K k)

unfoldable pub wu : Complex → Result (List (ℕ × List ℕ)) NotDual
wu K = where_dual K (map (λ k. (k, wu_class K k)) (range_with_len 0 (dimensions K)))

abbrev pub whitney_cochain : Complex → ℕ → Ids
whitney_cochain K k = sum_over (range_with_len 0 (k + 1)) (λ i. square K (k - i) i (cocycle K i (wu_class K i)))

abbrev pub whitney_class : Complex → ℕ → List ℕ
whitney_class K k = class_of K k (whitney_cochain K k)

unfoldable pub stiefel_whitney : Complex → Result (List (ℕ × List ℕ)) NotDual
stiefel_whitney K = where_dual K (map (λ k. (k, whitney_class K k)) (range_with_len 0 (dimensions K)))

abbrev pub product : Complex → List ℕ → Ids
product K [] = empty
product K (k ∷ []) = cocycle K k (whitney_class K k)
product K (k ∷ j ∷ parts) = cup K 0 (cocycle K k (whitney_class K k)) (product K (j ∷ parts))

abbrev pub product_of : Complex → (ℕ → Ids) → List ℕ → Ids
product_of K a [] = empty
product_of K a (k ∷ []) = a k
product_of K a (k ∷ j ∷ parts) = cup K 0 (a k) (product_of K a (j ∷ parts))

abbrev pub number_of : Complex → List ℕ → Result (Unit {0}) NotDual → Result Bool NoNumber
number_of K parts (Err why) = Err (NoClasses why)
number_of K parts (Ok tt) = cond (nat_eq (sum parts) (top K)) (Ok (on_top K (product K parts))) (Err (Sum (sum parts) (top K)))

unfoldable pub stiefel_whitney_number : Complex → List ℕ → Result Bool NoNumber
stiefel_whitney_number K parts = number_of K parts (where_dual K tt)
