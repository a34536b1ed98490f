use Rattle.cohomology.proofs.TestLaws.{classes-words}
use Rattle.cohomology.proofs.test_laws.classes_by_search.Goals as goal

pub returns : goal.returns
returns c = classes-words
