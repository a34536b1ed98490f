use Rattle.std.proofs.Common.{refl}
use Rattle.homology.specs.Sets.{set_of}
use Rattle.steenrod.proofs.TestedCocycles.{sum-cocycle, sum-zero}
use Rattle.steenrod.proofs.cohomologous.bound_of_sum.Goals as goal

pub bound_of_coboundary-requires-clause-cocycle : goal.bound_of_coboundary-requires-clause-cocycle
bound_of_coboundary-requires-clause-cocycle c =
    let a = c.args.a.now in
    let E = c.requires.cohomologous in
    let z = c.in_ok-sum.sum in
    sum-cocycle c.args.m.now a.degree a.degree z.degree (set_of a.ids) (set_of c.args.b.now.ids) (set_of z.ids) E.first E.second
    refl c.in_ok-sum.ensures.degree c.in_ok-sum.ensures.sum

pub bound_of_coboundary-requires-clause-zero : goal.bound_of_coboundary-requires-clause-zero
bound_of_coboundary-requires-clause-zero c =
    let a = c.args.a.now in
    let z = c.in_ok-sum.sum in
    sum-zero c.args.m.now c.complex.ensures.complex a.degree z.degree (set_of a.ids) (set_of c.args.b.now.ids) (set_of z.ids)
    c.requires.cohomologous c.in_ok-sum.ensures.degree c.in_ok-sum.ensures.sum
