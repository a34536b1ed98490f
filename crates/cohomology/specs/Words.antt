-- What is said of a chain or a cochain, by simplices or by class numbers.
--     NotSettled       why nothing is meant: a simplex that is not there, or is there with another dimension; a number that no class
--                      has; of a cochain that is no cocycle the first simplex at which its coboundary is 1
--     reading K p s    the id of s in K, where s is there and its dimension is p; else what is wrong with it
--     settled K p l    the sum modulo 2 of the listed simplices; else what is wrong with the first one that is absent or of
--                      another dimension, also where it stands twice and would cancel
--     numbered n each l     the sum modulo 2 of the sets `each k` of the listed numbers k; else the first number that is not
--                      less than n, also where it stands twice
--     tested K a       a, where its coboundary has no first simplex; else that simplex
use Rattle.std.specs.Prelude.{ℕ, ◌-◌, cond, List, [], ◌∷◌, length, nat_eq, nat_lt, position, Option, Some, None, Result, Ok, Err}
use Rattle.homology.specs.Sets.{Ids, empty, plus, single}
use Rattle.homology.specs.Simplices.{same_list}
use Rattle.homology.specs.Complexes.{Complex, simplex_at}
use Rattle.cohomology.specs.Searches.{first_broken}

pub data NotSettled : Type 0 where
  NotThere : List ℕ → NotSettled
  Degree : List ℕ → NotSettled
  NoClass : ℕ → NotSettled
  NotCocycle : List ℕ → NotSettled

abbrev pub reading_at : ℕ → List ℕ → Option ℕ → Result ℕ NotSettled
reading_at p s None = Err (NotThere s)
reading_at p s (Some id) = cond (nat_eq (length s - 1) p) (Ok id) (Err (Degree s))

abbrev pub reading : Complex → ℕ → List ℕ → Result ℕ NotSettled
reading K p s = reading_at p s (position (same_list s) K)

-- what one says, and then the others
abbrev pub added : {A : Type 0} → (A → Ids) → Result A NotSettled → Result Ids NotSettled → Result Ids NotSettled
added each (Err why) rest = Err why
added each (Ok a) (Err why) = Err why
added each (Ok a) (Ok c) = Ok (plus (each a) c)

abbrev pub settled : Complex → ℕ → List (List ℕ) → Result Ids NotSettled
settled K p [] = Ok empty
settled K p (s ∷ l) = added single (reading K p s) (settled K p l)

abbrev pub number_below : ℕ → ℕ → Result ℕ NotSettled
number_below n k = cond (nat_lt k n) (Ok k) (Err (NoClass k))

abbrev pub numbered : ℕ → (ℕ → Ids) → List ℕ → Result Ids NotSettled
numbered n each [] = Ok empty
numbered n each (k ∷ l) = added each (number_below n k) (numbered n each l)

abbrev pub unbroken : Complex → Ids → Option ℕ → Result Ids NotSettled
unbroken K a None = Ok a
unbroken K a (Some x) = Err (NotCocycle (simplex_at K x))

abbrev pub tested : Complex → Ids → Result Ids NotSettled
tested K a = unbroken K a (first_broken K a)
