-- Maps of vertices from one complex to another that keep the order of the vertices, and what they do to chains and cochains.
--     by_pairs l         the map of vertices that the listed pairs give: the first pair with u on the left says where u goes; a vertex
--                        that stands in none goes to itself
--     turns m s          whether s is an edge, and the images of its two vertices stand in falling order
--     spans us t         whether t has just the vertices us
--     has_image A m s    whether the images of the vertices of s are the vertices of a simplex of A
--     refusal K A m      why m is no such map from K to A: the first edge of K in simplex order that is turned; else the first simplex of K
--                        in simplex order whose image is not in A. None where it is one
--     IsMap K A m        it is one: the images of the vertices of an edge do not fall, and each simplex has its image in A
--     carried K A m x    the simplex of A that is the image of simplex x of K, where it has the same dimension; else the empty chain
--     push K A m c       the image of a chain c of K: the sum of what its members are carried to
--     pull K A m b       a cochain b of A pulled back to K: at each simplex, the value of b where this is carried to
-- Where an image has fewer vertices than x, it counts as zero; so a chain of K goes to one of A of the same degree, and a cochain of A
-- to one of K. The degree is not named: a cochain is zero at simplices of other dimensions.
-- Source: simplicial maps and the chain maps that they induce, Munkres, Elements of Algebraic Topology, sections 2 and 12, and of cochains
-- section 42. There a map may reverse an edge, which is counted with a sign; over two elements signs are not wanted, but cup products are
-- those of the order of the vertices, so that maps here keep it.
use Rattle.std.specs.Prelude.{◌≡◌, ℕ, ◌≤◌, Bool, true, false, cond, ◌&&◌, not, List, [], ◌∷◌, map, length, nat_eq, nat_lt, Option, Some, None}
use Rattle.std.specs.List.{find, list_any}
use Rattle.homology.specs.Sets.{Ids, image, evaluate}
use Rattle.homology.specs.Order.{in_simplex_order}
use Rattle.homology.specs.Complexes.{Complex, simplex_at}
use Rattle.homology.specs.Growth.{is_there}
use Rattle.manifolds.specs.Closed.{lies_in}

pub data Refusal : Type 0 where
  Turned : List ℕ → Refusal
  NoImage : List ℕ → Refusal

abbrev pub by_pairs : List (ℕ × ℕ) → ℕ → ℕ
by_pairs [] u = u
by_pairs (p ∷ l) u = cond (nat_eq p.0 u) p.1 (by_pairs l u)

abbrev pub turns : (ℕ → ℕ) → List ℕ → Bool
turns m [] = false
turns m (u ∷ []) = false
turns m (u ∷ v ∷ []) = nat_lt (m v) (m u)
turns m (u ∷ v ∷ w ∷ s) = false

abbrev pub spans : List ℕ → List ℕ → Bool
spans us t = lies_in us t && lies_in t us

abbrev pub has_image : Complex → (ℕ → ℕ) → List ℕ → Bool
has_image A m s = list_any (spans (map m s)) A

-- the first edge, else the first simplex
abbrev pub told : Option (List ℕ) → Option (List ℕ) → Option Refusal
told (Some e) without = Some (Turned e)
told None (Some s) = Some (NoImage s)
told None None = None

unfoldable pub refusal : Complex → Complex → (ℕ → ℕ) → Option Refusal
refusal K A m = told (find (turns m) (in_simplex_order K)) (find (λ s. not (has_image A m s)) (in_simplex_order K))

pub record IsMap (K A : Complex) (m : ℕ → ℕ) : Type 0 where
  pub monotone : (u v : ℕ) → is_there K (u ∷ v ∷ []) ≡ true → m u ≤ m v
  pub into : (s : List ℕ) → is_there K s ≡ true → has_image A m s ≡ true

abbrev pub carried : Complex → Complex → (ℕ → ℕ) → ℕ → Ids
carried K A m x = λ t. spans (map m (simplex_at K x)) (simplex_at A t) && nat_eq (length (simplex_at A t)) (length (simplex_at K x))

unfoldable pub push : Complex → Complex → (ℕ → ℕ) → Ids → Ids
push K A m c = λ t. nat_lt t (length A) && image (length K) (carried K A m) c t

unfoldable pub pull : Complex → Complex → (ℕ → ℕ) → Ids → Ids
pull K A m b = λ x. nat_lt x (length K) && evaluate (length A) b (carried K A m x)
