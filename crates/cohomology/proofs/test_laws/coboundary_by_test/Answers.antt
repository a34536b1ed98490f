use Rattle.cohomology.proofs.ClassLaws.{test-coboundary, coboundary-tests}
use Rattle.cohomology.proofs.test_laws.coboundary_by_test.Goals as goal

pub returns : goal.returns
returns c = λ K p e chain. (test-coboundary K p e chain, coboundary-tests K p e)
