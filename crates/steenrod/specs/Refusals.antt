-- The refusals of operations on cochains, each exactly where its cause holds; want of memory may come at any.
--     PairRefuses K a b r      r says why the cochains a and b have no product: the first of them that is no cocycle, in this order
--     then v w                 what v says, and where v says nothing what w says
--     cochain_at cs k          the k-th of the cochains cs, from 0
--     AreTestedBelow K cs n    the first n of the cochains cs are cocycles; AreTestedCocycles K cs where all are
--     IsBrokenAt K cs k x      the k-th of the cochains cs is the first that is no cocycle, and x the first simplex at which its coboundary is 1
--     IsDiffering K v h        v says that two classes differ, at the simplex with the id h
--     ClassRefuses K v r       r is what v says of a pair of cocycles
--     SameRefuses K cs v r     r says which of the cochains cs is no cocycle, or where all are, what v says of their pairs
use Rattle.std.specs.Prelude.{◌≡◌, ℕ, ◌<◌, ◌⊎◌, ⊤, List, length, slice_index_or, None, Result, Ok, Err}
use Rattle.homology.specs.Sets.{Ids, empty}
use Rattle.homology.specs.Complexes.{Complex, simplex_at}
use Rattle.cohomology.specs.Searches.{first_broken}
use Rattle.cohomology_operations.specs.Cohomologous.{NotCohomologous, Degrees, Differs}
use Rattle.class_solver.specs.Refusals.{IsBroken}
use Rattle.class_solver.specs.declared.refusal.OpRefusal.{OpRefusal}
use Rattle.class_solver.specs.declared.refusal.OpRefusal.TheVariants as op
use Rattle.steenrod.specs.declared.refusal.ClassRefusal.{ClassRefusal}
use Rattle.steenrod.specs.declared.refusal.ClassRefusal.TheVariants as class
use Rattle.steenrod.specs.declared.refusal.SameRefusal.{SameRefusal}
use Rattle.steenrod.specs.declared.refusal.SameRefusal.TheVariants as same

abbrev pub PairRefuses : Complex → Ids → Ids → OpRefusal → Type 0
PairRefuses K a b (op.NotCocycle x) = IsBroken K a x ⊎ ((first_broken K a ≡ None) × IsBroken K b x)
PairRefuses K a b op.Memory = ⊤

abbrev pub then : Result (Unit {0}) NotCohomologous → Result (Unit {0}) NotCohomologous → Result (Unit {0}) NotCohomologous
then (Ok t) w = w
then (Err why) w = Err why

abbrev pub cochain_at : List Ids → ℕ → Ids
cochain_at cs k = slice_index_or cs k empty

abbrev pub AreTestedBelow : Complex → List Ids → ℕ → Type 0
AreTestedBelow K cs n = (k : ℕ) → k < n → first_broken K (cochain_at cs k) ≡ None

abbrev pub AreTestedCocycles : Complex → List Ids → Type 0
AreTestedCocycles K cs = AreTestedBelow K cs (length cs)

pub record IsBrokenAt (K : Complex) (cs : List Ids) (which x : ℕ) : Type 0 where
  pub one : which < length cs
  pub earlier : AreTestedBelow K cs which
  pub broken : IsBroken K (cochain_at cs which) x

pub record IsDiffering (K : Complex) (v : Result (Unit {0}) NotCohomologous) (h : ℕ) : Type 0 where
  pub there : h < length K
  pub why : v ≡ Err (Differs (simplex_at K h))

abbrev pub ClassRefuses : Complex → Result (Unit {0}) NotCohomologous → ClassRefusal → Type 0
ClassRefuses K v (class.Degrees p q) = v ≡ Err (Degrees p q)
ClassRefuses K v (class.Differs h) = IsDiffering K v h
ClassRefuses K v class.Memory = ⊤

abbrev pub SameRefuses : Complex → List Ids → Result (Unit {0}) NotCohomologous → SameRefusal → Type 0
SameRefuses K cs v (same.NotCocycle which x) = IsBrokenAt K cs which x
SameRefuses K cs v (same.Degrees p q) = AreTestedCocycles K cs × (v ≡ Err (Degrees p q))
SameRefuses K cs v (same.Differs h) = AreTestedCocycles K cs × IsDiffering K v h
SameRefuses K cs v same.Memory = ⊤
