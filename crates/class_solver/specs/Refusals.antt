-- The refusals, each exactly where its cause holds; want of memory may come at any.
--     IsBroken K a x            x is the first simplex at which the coboundary of the cochain a is 1
--     IsTestedCocycle K p a            a is a cocycle of degree p, and there is no such simplex
--     IsFirstClass K p e h      the cocycle e of degree p is no coboundary, and h is the essential simplex of the first class of
--                               its class word
--     OpRefuses K a r           r says why the cochain a has no class
--     word_said r               what r says of class numbers; nothing where no memory was left
--     WordRefuses v r           this is what is wrong with what is read as v
--     BoundRefuses K p e r      r says why the cochain e of degree p is no coboundary
use Rattle.std.specs.Prelude.{◌≡◌, ℕ, ◌<◌, ⊤, List, ◌∷◌, length, Option, Some, None, IfSome, Result, Err}
use Rattle.homology.specs.Sets.{Ids}
use Rattle.homology.specs.Complexes.{Complex}
use Rattle.homology.specs.Chains.{IsCocycle}
use Rattle.cohomology.specs.Searches.{first_broken}
use Rattle.cohomology.specs.Classes.{essential_at, class_of}
use Rattle.cohomology.specs.Words.{NotSettled, NoClass}
use Rattle.class_solver.specs.declared.refusal.OpRefusal.{OpRefusal}
use Rattle.class_solver.specs.declared.refusal.OpRefusal.TheVariants as op
use Rattle.class_solver.specs.declared.refusal.WordRefusal.{WordRefusal}
use Rattle.class_solver.specs.declared.refusal.WordRefusal.TheVariants as word
use Rattle.class_solver.specs.declared.refusal.BoundRefusal.{BoundRefusal}
use Rattle.class_solver.specs.declared.refusal.BoundRefusal.TheVariants as bound

pub record IsBroken (K : Complex) (a : Ids) (x : ℕ) : Type 0 where
  pub first : first_broken K a ≡ Some x
  pub there : x < length K

pub record IsTestedCocycle (K : Complex) (p : ℕ) (a : Ids) : Type 0 where
  pub none : first_broken K a ≡ None
  pub cocycle : IsCocycle K p a

pub record IsFirstClass (K : Complex) (p : ℕ) (e : Ids) (h : ℕ) : Type 0 where
  pub closed : first_broken K e ≡ None
  pub number : ℕ
  pub others : List ℕ
  pub word : class_of K p e ≡ number ∷ others
  pub is : h ≡ essential_at K p number
  pub there : h < length K

abbrev pub OpRefuses : Complex → Ids → OpRefusal → Type 0
OpRefuses K a (op.NotCocycle x) = IsBroken K a x
OpRefuses K a op.Memory = ⊤

abbrev pub word_said : WordRefusal → Option NotSettled
word_said (word.NoClass k) = Some (NoClass k)
word_said word.Memory = None

abbrev pub WordRefuses : {A : Type 0} → Result A NotSettled → WordRefusal → Type 0
WordRefuses v r = IfSome (word_said r) (λ why. v ≡ Err why)

abbrev pub BoundRefuses : Complex → ℕ → Ids → BoundRefusal → Type 0
BoundRefuses K p e (bound.NotCocycle x) = IsBroken K e x
BoundRefuses K p e (bound.Differs h) = IsFirstClass K p e h
BoundRefuses K p e bound.Memory = ⊤
