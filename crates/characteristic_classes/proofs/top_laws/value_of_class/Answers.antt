use Rattle.characteristic_classes.proofs.TopLaws.{on_top-coboundary, on_top-cohomologous}
use Rattle.characteristic_classes.proofs.top_laws.value_of_class.Goals as goal

pub returns : goal.returns
returns c = record { coboundary = on_top-coboundary; cohomologous = on_top-cohomologous }
