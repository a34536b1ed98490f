use Rattle.maps.proofs.ProductLaws.{square-pull}
use Rattle.maps.proofs.class_laws.square_of_pull.Goals as goal

pub returns : goal.returns
returns c = square-pull
