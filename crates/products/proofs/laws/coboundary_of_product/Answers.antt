use Rattle.products.proofs.CoboundaryLaw.{coboundary-cup}
use Rattle.products.proofs.laws.coboundary_of_product.Goals as goal

pub returns : goal.returns
returns c = coboundary-cup
