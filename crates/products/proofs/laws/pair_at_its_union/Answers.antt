use Rattle.products.proofs.WalkLaws.{walks-union, walks-at_union}
use Rattle.products.proofs.laws.pair_at_its_union.Goals as goal

pub returns-clause-union : goal.returns-clause-union
returns-clause-union c = walks-union

pub returns-clause-at_union : goal.returns-clause-at_union
returns-clause-at_union c = walks-at_union
