use Rattle.products.proofs.CapLaws.{evaluate-cap}
use Rattle.products.proofs.cap_laws.cap_transposes_product.Goals as goal

pub returns : goal.returns
returns c = evaluate-cap
