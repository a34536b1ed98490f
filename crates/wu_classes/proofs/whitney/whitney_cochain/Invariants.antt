use Rattle.std.specs.Prelude.{◌≡◌, ◌-◌}
use Rattle.std.specs.List.{range_with_len}
use Rattle.homology.specs.Sets.{set_of}
use Rattle.homology.specs.ListSums.{sum_over}
use Rattle.cohomology_operations.specs.Squares.{square}
use Rattle.characteristic_classes.specs.Pairings.{cocycle}
use Rattle.characteristic_classes.specs.WuClasses.{wu_class}
use Rattle.cochain_values.specs.Cochains.{StandsOn}
use Rattle.wu_classes.proofs.whitney.whitney_cochain.Given as goal

abbrev pub invariant-loop-i : goal.invariant-loop-i
invariant-loop-i l = record {
  degree : l.sum.degree ≡ l.k;
  set : set_of l.sum.ids ≡ sum_over (range_with_len 0 l.i) (λ i. square l.m (l.k - i) i (cocycle l.m i (wu_class l.m i)));
  stands : StandsOn l.m l.sum;
}
