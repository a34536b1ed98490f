use Rattle.maps.proofs.ProductLaws.{pull-cocycle, pull-cohomologous, pull-class}
use Rattle.maps.proofs.class_laws.pull_of_class.Goals as goal

pub returns : goal.returns
returns c = record { cocycle = pull-cocycle; cohomologous = pull-cohomologous; class = pull-class }
