use Rattle.std.specs.Prelude.{◌≡◌, length, take}
use Rattle.homology.specs.Sets.{plus}
use Rattle.homology.specs.ListSums.{sum_over}
use Rattle.cochain_values.specs.Marks.{marked}
use Rattle.cup_i.specs.Backs.{back_of}
use Rattle.cup_i.proofs.cap_product.add_backs.Given as goal

abbrev pub invariant-loop-id : goal.invariant-loop-id
invariant-loop-id l = record {
  set : marked l.sum ≡ plus (marked l.fn.sum) (sum_over (take l.id-index l.ids) (back_of l.k l.factor.degree (marked l.factor.marks.items)));
  fits : length l.sum ≡ length l.fn.sum;
}
