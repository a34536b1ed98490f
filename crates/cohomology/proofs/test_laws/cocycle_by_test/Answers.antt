use Rattle.cohomology.proofs.TestLaws.{cocycle-test}
use Rattle.cohomology.proofs.test_laws.cocycle_by_test.Goals as goal

pub returns : goal.returns
returns c = cocycle-test
