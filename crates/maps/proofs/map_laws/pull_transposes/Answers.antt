use Rattle.maps.proofs.PullLaws.{pull-evaluates, pull-plus}
use Rattle.maps.proofs.map_laws.pull_transposes.Goals as goal

pub returns : goal.returns
returns c = record { transpose = pull-evaluates; sum = pull-plus }
