-- What a line asks for.
--     CochainWord, ChainWord     a cochain or a chain as a line names it: a degree with a list of simplices, or with a list
--                                of class numbers (none of them: zero); in the order of the line, repeats kept
--     Compute                    a question on the version in use
--     Request                    a question, a step, or nothing (`Take` is `use`, `Release` is `drop`; `Facet` has the facets
--                                in the order of the line)
--     Asked                      a request, and the caller that the line names
use Rattle.std.specs.Prelude.{ℕ, List, Option}

pub data CochainWord : Type 0 where
  Literal : ℕ → List (List ℕ) → CochainWord
  Classes : ℕ → List ℕ → CochainWord

pub data ChainWord : Type 0 where
  Literal : ℕ → List (List ℕ) → ChainWord
  Cycles : ℕ → List ℕ → ChainWord

pub data Compute : Type 0 where
  Count : Compute
  Betti : Compute
  KindOf : List ℕ → Compute
  ModelOf : List ℕ → Compute
  Classes : ℕ → Compute
  Show : CochainWord → Compute
  ShowChain : ChainWord → Compute
  Delta : CochainWord → Compute
  Boundary : ChainWord → Compute
  ClassOf : CochainWord → Compute
  Bound : CochainWord → Compute
  Cup : CochainWord → CochainWord → Compute
  CupI : ℕ → CochainWord → CochainWord → Compute
  Square : ℕ → CochainWord → Compute
  Bockstein : CochainWord → Compute
  SameCup : CochainWord → CochainWord → CochainWord → CochainWord → Compute
  SameSquare : ℕ → CochainWord → CochainWord → Compute
  SameBockstein : CochainWord → CochainWord → Compute
  Cap : CochainWord → ChainWord → Compute
  Closed : Compute
  Links : Compute
  Duality : Compute
  Wu : Compute
  Sw : Compute
  SwNumber : List ℕ → Compute

pub data Request : Type 0 where
  Blank : Request
  Attach : List ℕ → Request
  Facet : List (List ℕ) → Request
  Cut : Request
  Back : ℕ → Request
  See : Request
  After : ℕ → Request
  Hold : List ℕ → Request
  Take : List ℕ → Request
  Release : List ℕ → Request
  Round : ℕ → Request
  Quit : Request
  Ask : Compute → Request

pub record Asked : Type 0 where
  pub caller : Option ℕ
  pub request : Request
