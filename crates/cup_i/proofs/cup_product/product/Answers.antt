use Rattle.std.proofs.Common.{◌∙◌}
use Rattle.cup_i.proofs.FactorLaws.{members-within}
use Rattle.cup_i.proofs.cup_product.product.Goals as goal

pub by_pairs-requires-clause-first_within : goal.by_pairs-requires-clause-first_within
by_pairs-requires-clause-first_within c =
    members-within c.args.k.now c.args.a.now.degree c.args.a.now.ids c.ids-ys.result.now (c.ids-ys.ensures.ids ∙ c.support.ensures) c.requires.first

pub by_pairs-requires-clause-second_within : goal.by_pairs-requires-clause-second_within
by_pairs-requires-clause-second_within c =
    members-within c.args.k.now c.args.b.now.degree c.args.b.now.ids c.ids-zs.result.now (c.ids-zs.ensures.ids ∙ c.support-in-Pairs.ensures) c.requires.second
