-- The maps of the exact sequence of a pair, on cocycles: K a complex, A a part of it.
--     connecting_cochain K A a    the coboundary in K of a cochain a of A, taken as one of K
--     connect K A p a      the relative class word of that, for a cocycle a of A of degree p: its image under the connecting map
--     IsStoppingChain K A p h z   z is a relative cycle of degree p that is the simplex h and relatively negative simplices
--     stopping_chain K A p h      the first such chain
--     NotTaken             why a cocycle is not taken from one complex of the sequence to the one before:
--                            NotCocycle x   its coboundary is 1 at x first
--                            Stops z        of a cocycle of A: no cocycle of K restricts to it, and z is the stopping chain of the first
--                                           relatively essential simplex of `connect`
--                            OnPart x       of a cocycle of K: x is its first member in A
--                            Differs h      its class is not zero where it should be, and h is the first essential simplex of its word:
--                                           for `lift` in K, for `shrink` in A
--     extend K A p a       a cocycle of K that restricts to the cocycle a of A: a and the relative bound of its connecting cochain
--     lift K A p r         a cocycle of A of degree p - 1 that `connect` takes to the class of the relative cocycle r: the members in A
--                          of the canonical bound of r in K; in degree 0 the empty cochain
--     shrink K A p z       a relative cocycle in the class of the cocycle z of K: z and the coboundary of the canonical bound in A of its
--                          members in A
-- The refusals of each are told in the order above. Cochains of K are given by ids of K, those of A by ids of A.
-- Source: the exact cohomology sequence of a pair, Munkres, Elements of Algebraic Topology, section 43; its connecting map, by the zig-zag
-- of section 24. The choice of one cochain by the order of attachment is this project's own.
use Rattle.std.specs.Prelude.{◌≡◌, ℕ, suc, true, ◌⊎◌, ◌&&◌, not, ◌||◌, List, [], ◌∷◌, length, nat_eq, Option, Some, None, Result, Ok, Err}
use Rattle.std.specs.List.{find, range_with_len}
use Rattle.homology.specs.Sets.{Ids, plus, set_of}
use Rattle.homology.specs.Complexes.{Complex, simplex_at}
use Rattle.homology.specs.Growth.{is_there}
use Rattle.homology.specs.Chains.{coboundary}
use Rattle.homology.specs.Kinds.{is_empty}
use Rattle.cohomology.specs.Searches.{first, first_broken}
use Rattle.cohomology.specs.Classes.{essential_at, class_of, canonical_bound}
use Rattle.pairs.specs.Pairs.{moved, relative_boundary, IsRelativeCycle, relative_chains, is_relatively_negative}
use Rattle.pairs.specs.RelativeClasses.{relative_essential_at, relative_class_of, relative_bound}

pub data NotTaken : Type 0 where
  NotCocycle : ℕ → NotTaken
  Stops : List ℕ → NotTaken
  OnPart : ℕ → NotTaken
  Differs : ℕ → NotTaken

abbrev pub connecting_cochain : Complex → Complex → Ids → Ids
connecting_cochain K A a = coboundary K (moved A K a)

abbrev pub connect : Complex → Complex → ℕ → Ids → List ℕ
connect K A p a = relative_class_of K A (suc p) (connecting_cochain K A a)

pub record IsStoppingChain (K A : Complex) (p h : ℕ) (z : Ids) : Type 0 where
  pub cycle : IsRelativeCycle K A p z
  pub own : z h ≡ true
  pub others : (t : ℕ) → z t ≡ true → (t ≡ h) ⊎ (is_relatively_negative K A t ≡ true)

unfoldable pub stopping_chain : Complex → Complex → ℕ → ℕ → List ℕ
stopping_chain K A p h =
    first
    (λ z.
    is_empty (length K) (relative_boundary K A (set_of z))
    && (set_of z h
    && is_empty (length K) (λ t. set_of z t && not (nat_eq t h || is_relatively_negative K A t))))
    (relative_chains K A p)

-- the first id at which something is wrong; else the rest
abbrev pub unless : Option ℕ → (ℕ → NotTaken) → Result Ids NotTaken → Result Ids NotTaken
unless (Some x) why rest = Err (why x)
unless None why rest = rest

-- c, where the class word is zero; else why not, by its first class
abbrev pub where_zero : List ℕ → (ℕ → NotTaken) → Ids → Result Ids NotTaken
where_zero [] why c = Ok c
where_zero (k ∷ w) why c = Err (why k)

unfoldable pub extend : Complex → Complex → ℕ → Ids → Result Ids NotTaken
extend K A p a =
    unless (first_broken A a) NotCocycle
    (where_zero
    (connect K A p a)
    (λ k. Stops (stopping_chain K A (suc p) (relative_essential_at K A (suc p) k)))
    (plus (moved A K a) (set_of (relative_bound K A (suc p) (connecting_cochain K A a)))))

abbrev pub first_on_part : Complex → Complex → Ids → Option ℕ
first_on_part K A r = find (λ t. r t && is_there A (simplex_at K t)) (range_with_len 0 (length K))

unfoldable pub lift : Complex → Complex → ℕ → Ids → Result Ids NotTaken
lift K A p r =
    unless (first_broken K r) NotCocycle
    (unless (first_on_part K A r) OnPart
    (where_zero (class_of K p r) (λ k. Differs (essential_at K p k)) (moved K A (set_of (canonical_bound K p r)))))

unfoldable pub shrink : Complex → Complex → ℕ → Ids → Result Ids NotTaken
shrink K A p z =
    unless (first_broken K z) NotCocycle
    (where_zero
    (class_of A p (moved K A z))
    (λ k. Differs (essential_at A p k))
    (plus z (coboundary K (moved A K (set_of (canonical_bound A p (moved K A z)))))))
