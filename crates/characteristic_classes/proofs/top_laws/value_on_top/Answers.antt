use Rattle.characteristic_classes.proofs.TopLaws.{on_top-value, on_top-plus, on_top-empty}
use Rattle.characteristic_classes.proofs.top_laws.value_on_top.Goals as goal

pub returns : goal.returns
returns c = record { value = on_top-value; sum = on_top-plus; zero = on_top-empty }
