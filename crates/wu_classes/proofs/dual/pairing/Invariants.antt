use Rattle.std.specs.Prelude.{◌≡◌, ◌-◌, map}
use Rattle.std.specs.List.{range_with_len}
use Rattle.homology.specs.Kinds.{betti}
use Rattle.characteristic_classes.specs.Pairings.{row}
use Rattle.wu_classes.proofs.dual.pairing.Given as goal

abbrev pub invariant-loop-number : goal.invariant-loop-number
invariant-loop-number l = record {
  width : l.basis.width ≡ betti l.m (l.n - l.p);
  rows : l.basis.rows ≡ map (row l.m l.p) (range_with_len 0 l.number);
}
