-- Classes of relative cocycles of a pair, by search through all candidates; with the words of Classes, in the order of ids of K.
--     relative_essentials K A p        the relatively essential p-simplices, ascending; relative class #k of degree p belongs to the
--                                      one at place k, from 0
--     relative_essential_at K A p k    that one
--     IsRelativeClass K A p w          w is a relative class word of degree p: class numbers below the relative Betti number, ascending
--     relative_classes K A p           all relative class words of degree p
--     relative_simplices_of K A p w    the relatively essential simplices of the classes of w
--     IsRelativeCanonical K A p w r    r is a relative cocycle of degree p that is 1 at exactly these relatively essential simplices,
--                                      and 0 at each relatively negative simplex
--     relative_canonical K A p w       the first such cocycle
--     is_relative_coboundary K A p e   whether e is the coboundary of some relative cochain of degree p - 1, by search through all of
--                                      them; in degree 0 whether e is empty
--     relative_class_of K A p r        the first relative class word whose canonical cocycle differs from r by a relative coboundary
--     IsRelativeBound K A p e u        u is a relative cochain of degree p with the coboundary e, 0 at each relatively negative and
--                                      each relatively essential simplex
--     relative_bound K A p e           the first such cochain of degree p - 1, for a relative coboundary e of degree p; in degree 0 the
--                                      empty cochain
-- A cochain is given as its ascending list of ids.
-- Source: relative cohomology modulo 2, Munkres, Elements of Algebraic Topology, section 43. The choice of one cocycle in each class,
-- and of one bound of each coboundary, by the order of attachment is this project's own.
use Rattle.std.specs.Prelude.{◌≡◌, ℕ, zero, suc, ◌<◌, Bool, true, false, ◌&&◌, ◌||◌, List, [], map, length, slice_index_or}
use Rattle.std.specs.List.{All, filter, list_any, range_with_len}
use Rattle.std.specs.List.Sorted.{IsStrictlyIncreasing}
use Rattle.homology.specs.Parity.{xor}
use Rattle.homology.specs.Sets.{Ids, plus, set_of}
use Rattle.homology.specs.Complexes.{Complex}
use Rattle.homology.specs.Chains.{coboundary}
use Rattle.homology.specs.Kinds.{sublists, ids, is_empty}
use Rattle.cohomology.specs.Searches.{first, is_cocycle}
use Rattle.pairs.specs.Pairs.{IsRelativeChain, IsRelativeCocycle, relative_chains, is_relatively_negative, is_relatively_essential, relative_betti}

abbrev pub relative_essentials : Complex → Complex → ℕ → List ℕ
relative_essentials K A p = filter (is_relatively_essential K A) (ids K p)

abbrev pub relative_essential_at : Complex → Complex → ℕ → ℕ → ℕ
relative_essential_at K A p k = slice_index_or (relative_essentials K A p) k 0

pub record IsRelativeClass (K A : Complex) (p : ℕ) (w : List ℕ) : Type 0 where
  pub ascending : IsStrictlyIncreasing w
  pub numbers : All (λ k. k < relative_betti K A p) w

abbrev pub relative_classes : Complex → Complex → ℕ → List (List ℕ)
relative_classes K A p = sublists (range_with_len 0 (relative_betti K A p))

abbrev pub relative_simplices_of : Complex → Complex → ℕ → List ℕ → Ids
relative_simplices_of K A p w = set_of (map (relative_essential_at K A p) w)

pub record IsRelativeCanonical (K A : Complex) (p : ℕ) (w : List ℕ) (r : Ids) : Type 0 where
  pub cocycle : IsRelativeCocycle K A p r
  pub essential : (t : ℕ) → is_relatively_essential K A t ≡ true → r t ≡ relative_simplices_of K A p w t
  pub negative : (t : ℕ) → is_relatively_negative K A t ≡ true → r t ≡ false

-- where r is not as at a canonical cocycle with the essential simplices H
abbrev pub strays_relatively : Complex → Complex → Ids → Ids → Ids
strays_relatively K A H r =
    λ t. (is_relatively_essential K A t && xor (r t) (H t)) || (is_relatively_negative K A t && r t)

unfoldable pub relative_canonical : Complex → Complex → ℕ → List ℕ → List ℕ
relative_canonical K A p w =
    first
    (λ r. is_cocycle K (set_of r) && is_empty (length K) (strays_relatively K A (relative_simplices_of K A p w) (set_of r)))
    (relative_chains K A p)

abbrev pub is_relative_coboundary : Complex → Complex → ℕ → Ids → Bool
is_relative_coboundary K A zero e = is_empty (length K) e
is_relative_coboundary K A (suc p) e =
    list_any (λ u. is_empty (length K) (plus e (coboundary K (set_of u)))) (relative_chains K A p)

unfoldable pub relative_class_of : Complex → Complex → ℕ → Ids → List ℕ
relative_class_of K A p r =
    first (λ w. is_relative_coboundary K A p (plus r (set_of (relative_canonical K A p w)))) (relative_classes K A p)

pub record IsRelativeBound (K A : Complex) (p : ℕ) (e u : Ids) : Type 0 where
  pub chain : IsRelativeChain K A p u
  pub bounds : (x : ℕ) → x < length K → coboundary K u x ≡ e x
  pub essential : (t : ℕ) → is_relatively_essential K A t ≡ true → u t ≡ false
  pub negative : (t : ℕ) → is_relatively_negative K A t ≡ true → u t ≡ false

unfoldable pub relative_bound : Complex → Complex → ℕ → Ids → List ℕ
relative_bound K A zero e = []
relative_bound K A (suc p) e =
    first
    (λ u.
    is_empty (length K) (plus e (coboundary K (set_of u)))
    && is_empty (length K) (λ t. (is_relatively_essential K A t || is_relatively_negative K A t) && set_of u t))
    (relative_chains K A p)
