use Rattle.maps.proofs.ProductLaws.{cup-pull}
use Rattle.maps.proofs.class_laws.product_of_pulls.Goals as goal

pub returns : goal.returns
returns c = cup-pull
