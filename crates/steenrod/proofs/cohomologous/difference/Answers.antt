use Rattle.homology.specs.Sets.{set_of}
use Rattle.steenrod.proofs.TestedCocycles.{sum-cocycle}
use Rattle.steenrod.proofs.cohomologous.difference.Goals as goal

pub first_class_of_cocycle-requires : goal.first_class_of_cocycle-requires
first_class_of_cocycle-requires c =
    let a = c.args.a.now in
    let b = c.args.b.now in
    let z = c.in_ok-sum.sum in
    sum-cocycle c.args.m.now a.degree b.degree z.degree (set_of a.ids) (set_of b.ids) (set_of z.ids) c.requires.first.cocycle c.requires.second.cocycle
    c.requires.degrees c.in_ok-sum.ensures.degree c.in_ok-sum.ensures.sum
