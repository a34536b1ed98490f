use Rattle.products.proofs.WalkLaws.{cup-pairs, cup-lists}
use Rattle.products.proofs.laws.product_by_pairs.Goals as goal

pub returns-clause-of_sets : goal.returns-clause-of_sets
returns-clause-of_sets c = cup-pairs

pub returns-clause-of_lists : goal.returns-clause-of_lists
returns-clause-of_lists c = cup-lists
