use Rattle.std.proofs.Common.{◌∙◌, refl}
use Rattle.homology.specs.ListSums.{sum_over}
use Rattle.cochain_values.proofs.MarkLaws.{given-set}
use Rattle.cup_i.specs.Pairs.{pair_at}
use Rattle.cup_i.proofs.PairLaws.{cup-pairs_sum}
use Rattle.cup_i.proofs.pairs.with_pairs.Goals as goal

pub returns-clause-set : goal.returns-clause-set
returns-clause-set c =
    let K = c.args.k.now in
    given-set c.args.sum.len c.args.sum.items c.deref_mut.result.now c.add_pairs.new.sum _ (sum_over c.args.ys.now (λ y. sum_over c.args.zs.now (pair_at K c.args.i y)))
    c.deref_mut.ensures.value c.args.sum.ok.0 c.requires.none c.add_pairs.ensures.fits c.add_pairs.ensures.set refl
    ∙ cup-pairs_sum K c.requires.complex c.args.i c.args.ys.now c.args.zs.now c.requires.first_ascend c.requires.first_within c.requires.second_ascend c.requires.second_within
