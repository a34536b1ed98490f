use Rattle.characteristic_classes.proofs.TopLaws.{closed-top, ridge-twice}
use Rattle.characteristic_classes.proofs.top_laws.dimension_of_closed.Goals as goal

pub returns : goal.returns
returns c = record { dimension = closed-top; ridges = ridge-twice }
