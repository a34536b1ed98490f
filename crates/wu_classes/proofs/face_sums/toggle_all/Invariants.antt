use Rattle.std.specs.Prelude.{◌≡◌, take}
use Rattle.homology.specs.Sets.{plus, set_of, single}
use Rattle.homology.specs.ListSums.{sum_over}
use Rattle.wu_classes.proofs.face_sums.toggle_all.Given as goal

abbrev pub invariant-loop-id : goal.invariant-loop-id
invariant-loop-id l = set_of l.chain ≡ plus (set_of l.fn.chain) (sum_over (take l.id-index l.ids) single)
