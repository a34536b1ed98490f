use Rattle.pairs.proofs.ConeLaws.{cone-onto, cone-zero}
use Rattle.pairs.proofs.cone_laws.cone_to_relative.Goals as goal

pub returns : goal.returns
returns c = record { onto = cone-onto; zero = cone-zero }
