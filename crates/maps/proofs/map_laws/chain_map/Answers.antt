use Rattle.maps.proofs.PullLaws.{boundary-push}
use Rattle.maps.proofs.map_laws.chain_map.Goals as goal

pub returns : goal.returns
returns c = boundary-push
