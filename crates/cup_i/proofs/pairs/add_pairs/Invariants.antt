use Rattle.std.specs.Prelude.{◌≡◌, length, take}
use Rattle.homology.specs.Sets.{plus}
use Rattle.homology.specs.ListSums.{sum_over}
use Rattle.cochain_values.specs.Marks.{marked}
use Rattle.cup_i.specs.Pairs.{pair_at}
use Rattle.cup_i.proofs.pairs.add_pairs.Given as goal

abbrev pub invariant-loop-y : goal.invariant-loop-y
invariant-loop-y l = record {
  set : marked l.sum ≡ plus (marked l.fn.sum) (sum_over (take l.y-index l.ys) (λ y. sum_over l.zs (pair_at l.k l.i y)));
  fits : length l.sum ≡ length l.fn.sum;
}
