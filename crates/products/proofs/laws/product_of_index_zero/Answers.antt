use Rattle.products.proofs.CapLaws.{cup-zero}
use Rattle.products.proofs.laws.product_of_index_zero.Goals as goal

pub returns : goal.returns
returns c = cup-zero
