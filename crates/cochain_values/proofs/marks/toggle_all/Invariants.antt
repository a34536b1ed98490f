use Rattle.std.specs.Prelude.{◌≡◌, length, take}
use Rattle.homology.specs.Sets.{plus, single}
use Rattle.homology.specs.ListSums.{sum_over}
use Rattle.cochain_values.specs.Marks.{marked}
use Rattle.cochain_values.proofs.marks.toggle_all.Given as goal

abbrev pub invariant-loop-id : goal.invariant-loop-id
invariant-loop-id l = record {
  set : marked l.marks ≡ plus (marked l.fn.marks) (sum_over (take l.id-index l.ids) single);
  fits : length l.marks ≡ length l.fn.marks;
}
