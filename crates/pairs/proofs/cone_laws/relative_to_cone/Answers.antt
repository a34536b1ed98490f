use Rattle.pairs.proofs.ConeLaws.{cone-cocycle, cone-bounding, cone-coboundary}
use Rattle.pairs.proofs.cone_laws.relative_to_cone.Goals as goal

pub returns : goal.returns
returns c = record { cocycle = cone-cocycle; bounding = cone-bounding; coboundary = cone-coboundary }
