use Rattle.characteristic_classes.proofs.TopLaws.{top-cycle}
use Rattle.characteristic_classes.proofs.top_laws.fundamental_cycle.Goals as goal

pub returns : goal.returns
returns c = top-cycle
