use Rattle.products.proofs.CoboundaryLaw.{splittings-some, splittings-none}
use Rattle.products.proofs.laws.law_of_splittings.Goals as goal

pub returns-clause-some_shared : goal.returns-clause-some_shared
returns-clause-some_shared c = splittings-some

pub returns-clause-none_shared : goal.returns-clause-none_shared
returns-clause-none_shared c = splittings-none
