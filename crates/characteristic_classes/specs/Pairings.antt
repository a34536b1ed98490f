-- The pairing of the cohomology classes of a closed complex.
--     on_top K a             the value of a cochain a of the dimension of K on the sum of all simplices of this dimension: whether an odd
--                            number of them are members of a
--     cocycle K p w          the canonical cocycle of the class word w of degree p, as a set
--     pair K p v w           the value of the cup product of two classes on this sum: v of degree p, w of the complementary degree,
--                            which is the dimension of K less p
--     pairing K p            a row for each class of degree p: for each class of the complementary degree, whether the two pair to 1
--     pairings K             the pairings of the degrees from 0 to the dimension of K
--     is_degenerate K p w    whether the class word w of degree p pairs to 0 with each class word of the complementary degree
--     words_to k             the class words whose greatest number is k
--     nonzero_words K p      the class words of degree p without the zero, those with a less greatest number first
--     degenerate_words K     the degenerate ones among them, each with its degree, from degree 0 to the dimension of K
--     first_degenerate K     the first of these: of the least degree, and in it of the least greatest number. There is no other one in
--                            this degree with this greatest number: see the laws
--     IsFirstDegenerate K p w     what is said of that one: w of degree p is degenerate, and the zero word alone is in each lesser degree, and
--                            among the words of this degree with numbers below the greatest of w
--     NotDual                why a complex has no pairings without degenerate classes: it is not closed; or the degree and the class word of
--                            the first degenerate class
--     where_dual K a         a, where K is closed and has no degenerate class; else what is wrong
--     dual K                 nothing, where this is so; else what is wrong
--     duality K              the pairings of K, where K is closed and has no degenerate class; else what is wrong
-- Source: Poincaré duality modulo 2 by cup products, Munkres, Elements of Algebraic Topology, sections 67 and 68. Duality itself is not
-- claimed: where it fails, a class is degenerate.
use Rattle.std.specs.Prelude.{◌≡◌, ℕ, ◌-◌, ◌<◌, Bool, true, not, List, [], ◌∷◌, ◌++◌, map, Option, Some, None, Result, Ok, Err}
use Rattle.std.specs.List.{All, filter, flat_map, list_all, range_with_len}
use Rattle.homology.specs.Sets.{Ids, set_of}
use Rattle.homology.specs.ListSums.{odd_over}
use Rattle.homology.specs.Complexes.{Complex, dimensions}
use Rattle.homology.specs.Kinds.{betti, ids, sublists}
use Rattle.cohomology.specs.Classes.{IsClass, classes, canonical}
use Rattle.products.specs.Products.{cup}
use Rattle.manifolds.specs.Closed.{NotClosed, closed, top}

pub data NotDual : Type 0 where
  Unclosed : NotClosed → NotDual
  Degenerate : ℕ → List ℕ → NotDual

abbrev pub on_top : Complex → Ids → Bool
on_top K a = odd_over (ids K (top K)) a

abbrev pub cocycle : Complex → ℕ → List ℕ → Ids
cocycle K p w = set_of (canonical K p w)

abbrev pub pair : Complex → ℕ → List ℕ → List ℕ → Bool
pair K p v w = on_top K (cup K 0 (cocycle K p v) (cocycle K (top K - p) w))

abbrev pub row : Complex → ℕ → ℕ → List Bool
row K p j = map (λ k. pair K p (j ∷ []) (k ∷ [])) (range_with_len 0 (betti K (top K - p)))

abbrev pub pairing : Complex → ℕ → List (List Bool)
pairing K p = map (row K p) (range_with_len 0 (betti K p))

abbrev pub pairings : Complex → List (List (List Bool))
pairings K = map (pairing K) (range_with_len 0 (dimensions K))

abbrev pub is_degenerate : Complex → ℕ → List ℕ → Bool
is_degenerate K p v = list_all (λ w. not (pair K p v w)) (classes K (top K - p))

abbrev pub words_to : ℕ → List (List ℕ)
words_to k = map (λ w. w ++ k ∷ []) (sublists (range_with_len 0 k))

abbrev pub nonzero_words : Complex → ℕ → List (List ℕ)
nonzero_words K p = flat_map words_to (range_with_len 0 (betti K p))

abbrev pub degenerate_words : Complex → List (ℕ × List ℕ)
degenerate_words K = flat_map (λ p. map (λ w. (p, w)) (filter (is_degenerate K p) (nonzero_words K p))) (range_with_len 0 (dimensions K))

abbrev pub first_of : List (ℕ × List ℕ) → Option (ℕ × List ℕ)
first_of [] = None
first_of (w ∷ ws) = Some w

unfoldable pub first_degenerate : Complex → Option (ℕ × List ℕ)
first_degenerate K = first_of (degenerate_words K)

pub record IsFirstDegenerate (K : Complex) (p : ℕ) (w : List ℕ) : Type 0 where
  pub class : IsClass K p w
  pub degenerate : is_degenerate K p w ≡ true
  pub front : List ℕ
  pub greatest : ℕ
  pub is : w ≡ front ++ greatest ∷ []
  pub degrees : (q : ℕ) → q < p → (v : List ℕ) → IsClass K q v → is_degenerate K q v ≡ true → v ≡ []
  pub numbers : (v : List ℕ) → IsClass K p v → All (λ k. k < greatest) v → is_degenerate K p v ≡ true → v ≡ []

abbrev pub of_words : {A : Type 0} → Option (ℕ × List ℕ) → A → Result A NotDual
of_words None a = Ok a
of_words (Some (p, w)) a = Err (Degenerate p w)

abbrev pub of_closed : {A : Type 0} → Result ℕ NotClosed → Option (ℕ × List ℕ) → A → Result A NotDual
of_closed (Err why) degenerate a = Err (Unclosed why)
of_closed (Ok n) degenerate a = of_words degenerate a

abbrev pub where_dual : {A : Type 0} → Complex → A → Result A NotDual
where_dual K a = of_closed (closed K) (first_degenerate K) a

abbrev pub dual : Complex → Result (Unit {0}) NotDual
dual K = where_dual K tt

unfoldable pub duality : Complex → Result (List (List (List Bool))) NotDual
duality K = where_dual K (pairings K)
