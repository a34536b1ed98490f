-- Why a question has no answer.
--     Why              each cause, with what is told of it: a simplex that is not there, and one that is there with another dimension; a
--                      number that no class has; of a cochain that is no cocycle the first simplex at which its coboundary is 1; of a cocycle
--                      that is no coboundary, and of two that are not cohomologous, an essential simplex; two degrees that do not fit; that the
--                      complex is empty; a simplex that lies in none of its dimension; a ridge, and in how many it lies; a simplex, and the
--                      Betti numbers of its link; a degree and the class word of a degenerate class; a sum of degrees, and what it should be
--     not_settled, not_cohomologous, not_closed, not_sphere, not_dual, no_number     the refusals of each notion among these
--     or_why why v     what v says, its refusal told as `why` tells it
--     why_text         why nothing is shown, in words
use Rattle.std.specs.Prelude.{ℕ, List, ◌++◌, codes, decimal, Result, Ok, Err}
use Rattle.cohomology.specs.Words as settled
use Rattle.cohomology_operations.specs.Cohomologous as agreed
use Rattle.manifolds.specs.Closed as closed
use Rattle.manifolds.specs.Links as linked
use Rattle.characteristic_classes.specs.Pairings as paired
use Rattle.characteristic_classes.specs.WuClasses as counted
use Rattle.transcript.specs.Values.{simplex_text, numbers_text, class_text}

pub data Why : Type 0 where
  NotThere : List ℕ → Why
  Degree : List ℕ → Why
  NoClass : ℕ → Why
  NotCocycle : List ℕ → Why
  Differs : List ℕ → Why
  Degrees : ℕ → ℕ → Why
  Nothing : Why
  NotPure : List ℕ → Why
  Ridge : List ℕ → ℕ → Why
  Link : List ℕ → List ℕ → Why
  Degenerate : ℕ → List ℕ → Why
  Sum : ℕ → ℕ → Why

abbrev pub not_settled : settled.NotSettled → Why
not_settled (settled.NotThere s) = NotThere s
not_settled (settled.Degree s) = Degree s
not_settled (settled.NoClass k) = NoClass k
not_settled (settled.NotCocycle s) = NotCocycle s

abbrev pub not_cohomologous : agreed.NotCohomologous → Why
not_cohomologous (agreed.Degrees p q) = Degrees p q
not_cohomologous (agreed.Differs s) = Differs s

abbrev pub not_closed : closed.NotClosed → Why
not_closed closed.Nothing = Nothing
not_closed (closed.NotPure s) = NotPure s
not_closed (closed.Ridge s times) = Ridge s times

abbrev pub not_sphere : linked.NotSphere → Why
not_sphere (linked.Link s bettis) = Link s bettis

abbrev pub not_dual : paired.NotDual → Why
not_dual (paired.Unclosed why) = not_closed why
not_dual (paired.Degenerate p ks) = Degenerate p ks

abbrev pub no_number : counted.NoNumber → Why
no_number (counted.NoClasses why) = not_dual why
no_number (counted.Sum sum dim) = Sum sum dim

abbrev pub or_why : {A E : Type 0} → (E → Why) → Result A E → Result A Why
or_why why (Ok a) = Ok a
or_why why (Err e) = Err (why e)

abbrev pub why_text : Why → List ℕ
why_text (NotThere s) = codes "notthere " ++ simplex_text s
why_text (Degree s) = codes "degree " ++ simplex_text s
why_text (NoClass k) = codes "noclass " ++ decimal k
why_text (NotCocycle s) = codes "notcocycle " ++ simplex_text s
why_text (Differs s) = codes "differs " ++ simplex_text s
why_text (Degrees p q) = codes "degrees " ++ decimal p ++ codes " " ++ decimal q
why_text Nothing = codes "nothing"
why_text (NotPure s) = codes "notpure " ++ simplex_text s
why_text (Ridge s times) = codes "ridge " ++ simplex_text s ++ codes " " ++ decimal times
why_text (Link s bettis) = codes "link " ++ simplex_text s ++ numbers_text bettis
why_text (Degenerate p ks) = codes "degenerate " ++ class_text p ks
why_text (Sum sum dim) = codes "sum " ++ decimal sum ++ codes " " ++ decimal dim
