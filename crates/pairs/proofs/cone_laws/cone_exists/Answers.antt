use Rattle.pairs.proofs.ConeGrowth.{cone-made}
use Rattle.pairs.proofs.cone_laws.cone_exists.Goals as goal

pub returns : goal.returns
returns c = cone-made
