use Rattle.std.specs.Prelude.{◌≡◌, length, take}
use Rattle.homology.specs.Kinds.{ids}
use Rattle.wu_classes.specs.Sums.{AreSums}
use Rattle.wu_classes.proofs.face_sums.face_sums.Given as goal

abbrev pub invariant-loop-place : goal.invariant-loop-place
invariant-loop-place l = record {
  sums : AreSums l.k l.p (take l.place (ids l.k l.n)) l.sums.items;
  fits : length l.sums.items ≡ length l.k;
}
