use Rattle.std.proofs.Common.{ap, ◌∙◌}
use Rattle.std.proofs.lemmas.List.{take_all}
use Rattle.homology.specs.Sets.{plus}
use Rattle.homology.specs.ListSums.{sum_over}
use Rattle.cochain_values.specs.Marks.{marked}
use Rattle.cochain_values.proofs.MarkLaws.{sum-more}
use Rattle.cup_i.specs.Pairs.{pair_at}
use Rattle.cup_i.proofs.pairs.add_pairs.Goals as goal

pub loop-y-preserved : goal.loop-y-preserved
loop-y-preserved c = record {
  set =
      sum-more c.args.ys.now c.loop-y.y-index (λ y. sum_over c.args.zs.now (pair_at c.args.k.now c.args.i y)) (marked c.args.sum.now) (marked c.loop-y.sum) (marked c.add_pairs_with.new.sum)
      c.loop-y-test.true c.loop-y.invariant.set c.add_pairs_with.ensures.set;
  fits = c.add_pairs_with.ensures.fits ∙ c.loop-y.invariant.fits;
}

pub returns-clause-set : goal.returns-clause-set
returns-clause-set c =
    c.loop-y.invariant.set
    ∙ ap (λ l. plus (marked c.args.sum.now) (sum_over l (λ y. sum_over c.args.zs.now (pair_at c.args.k.now c.args.i y))))
    (take_all c.loop-y.y-index c.args.ys.now c.loop-y-test.false)
