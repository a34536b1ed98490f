use Rattle.maps.proofs.PullLaws.{push-chain, pull-chain}
use Rattle.maps.proofs.map_laws.degrees_stay.Goals as goal

pub returns : goal.returns
returns c = record { chains = push-chain; cochains = pull-chain }
