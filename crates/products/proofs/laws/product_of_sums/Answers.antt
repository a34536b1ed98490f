use Rattle.products.proofs.CoboundaryLaw.{cup-plus_left, cup-plus_right}
use Rattle.products.proofs.laws.product_of_sums.Goals as goal

pub returns-clause-first : goal.returns-clause-first
returns-clause-first c = cup-plus_left

pub returns-clause-second : goal.returns-clause-second
returns-clause-second c = cup-plus_right
