use Rattle.maps.proofs.PullLaws.{coboundary-pull}
use Rattle.maps.proofs.map_laws.coboundary_of_pull.Goals as goal

pub returns : goal.returns
returns c = coboundary-pull
