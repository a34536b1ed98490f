use Rattle.cohomology.proofs.TestLaws.{broken-first}
use Rattle.cohomology.proofs.test_laws.broken_by_search.Goals as goal

pub returns : goal.returns
returns c = broken-first
