use Rattle.products.proofs.ValueLaws.{value_at-there, value_at-other}
use Rattle.products.proofs.laws.values_at_lists.Goals as goal

pub returns-clause-of_simplices : goal.returns-clause-of_simplices
returns-clause-of_simplices c = value_at-there

pub returns-clause-of_others : goal.returns-clause-of_others
returns-clause-of_others c = value_at-other
