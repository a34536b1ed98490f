-- Whether cocycles are of one class.
--     NotCohomologous    why they are not: their degrees, or an essential simplex at which their class words differ
--     is_zero K p w      whether the class word w of degree p is zero: else the essential simplex of its first class
--     cohomologous K a b        whether two cocycles, each with its degree, are of one class: else their degrees, where these differ, or
--                        the essential simplex of the first class of the class word of their sum, which is the first essential
--                        simplex at which their class words differ: see the laws
-- Source: cohomology classes modulo 2, Munkres, Elements of Algebraic Topology, section 42; class words are those of the crate
-- `cohomology`.
use Rattle.std.specs.Prelude.{ℕ, cond, nat_eq, List, [], ◌∷◌, Result, Ok, Err}
use Rattle.homology.specs.Sets.{Ids, plus}
use Rattle.homology.specs.Complexes.{Complex, simplex_at}
use Rattle.cohomology.specs.Classes.{essential_at, class_of}

pub data NotCohomologous : Type 0 where
  Degrees : ℕ → ℕ → NotCohomologous
  Differs : List ℕ → NotCohomologous

abbrev pub is_zero : Complex → ℕ → List ℕ → Result (Unit {0}) NotCohomologous
is_zero K p [] = Ok tt
is_zero K p (k ∷ ks) = Err (Differs (simplex_at K (essential_at K p k)))

abbrev pub cohomologous : Complex → ℕ × Ids → ℕ × Ids → Result (Unit {0}) NotCohomologous
cohomologous K (p, a) (q, b) = cond (nat_eq p q) (is_zero K p (class_of K p (plus a b))) (Err (Degrees p q))
