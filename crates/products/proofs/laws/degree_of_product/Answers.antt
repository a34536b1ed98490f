use Rattle.products.proofs.CoboundaryLaw.{cup-degree}
use Rattle.products.proofs.laws.degree_of_product.Goals as goal

pub returns : goal.returns
returns c = cup-degree
