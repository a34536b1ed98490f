use Rattle.cohomology.proofs.Naming.{betti-essentials, essentials-ascending, essential-at, number, simplices_of-at, simplices_of-terms}
use Rattle.cohomology.proofs.class_laws.class_numbers.Goals as goal

pub returns : goal.returns
returns c = record {
  count = betti-essentials;
  ascending = essentials-ascending;
  essential = essential-at;
  number = λ K ok p h e d. let N = number K p ok h e d in (N.number, N.below, N.is);
  word = λ K p w W k lt. simplices_of-at K p w W.numbers k lt;
  terms = simplices_of-terms;
}
