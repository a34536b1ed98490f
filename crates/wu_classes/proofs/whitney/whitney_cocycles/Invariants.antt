use Rattle.std.specs.Prelude.{◌≡◌, length}
use Rattle.characteristic_classes.specs.WuClasses.{whitney_class}
use Rattle.wu_classes.specs.Duals.{AreCocycles}
use Rattle.wu_classes.proofs.whitney.whitney_cocycles.Given as goal

abbrev pub invariant-loop-k : goal.invariant-loop-k
invariant-loop-k l = record {
  count : length l.cocycles.items ≡ l.k;
  each : AreCocycles l.m (whitney_class l.m) l.cocycles.items;
}
