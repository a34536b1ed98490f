use Rattle.pairs.proofs.ExactLaws.{restricted, included, connected}
use Rattle.pairs.proofs.pair_laws.cocycles_of_the_pair.Goals as goal

pub returns : goal.returns
returns c = record { restricted = restricted; included = included; connected = connected }
