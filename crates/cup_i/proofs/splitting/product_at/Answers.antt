use Rattle.std.proofs.Common.{◌+◌, [], refl, sym, ◌∙◌, arith}
use Rattle.homology.specs.Complexes.{simplex_at}
use Rattle.products.specs.Products.{value_at}
use Rattle.cochain_values.specs.Marks.{marked}
use Rattle.cup_i.specs.Splits.{split_sum}
use Rattle.cup_i.proofs.SplitSums.{split_sum-cup}
use Rattle.cup_i.proofs.splitting.product_at.Goals as goal

pub returns : goal.returns
returns c =
    let K = c.args.k.now in
    let first = marked c.args.first.now.marks.items in
    let second = marked c.args.second.now.marks.items in
    c.sum.ensures [] [] (simplex_at K c.args.id) refl refl (omega (arith, c.requires.degree, c.requires.first_index, c.requires.second_index, c.width.ensures.value, c.width-2.ensures.value))
    ∙ (λ j. split_sum (c.from-shared.ensures j + 1) (value_at K first) (value_at K second) (simplex_at K c.args.id))
    ∙ sym (split_sum-cup K c.args.i first second c.args.id)
