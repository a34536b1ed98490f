use Rattle.characteristic_classes.proofs.TopLaws.{on_top-list}
use Rattle.characteristic_classes.proofs.top_laws.value_of_list.Goals as goal

pub returns : goal.returns
returns c = on_top-list
