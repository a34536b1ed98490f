use Rattle.std.proofs.Common.{◌+◌, ap, ◌∙◌, arith}
use Rattle.homology.specs.Sets.{set_of}
use Rattle.products.specs.Products.{cup}
use Rattle.cohomology_operations.proofs.ClassLaws.{product-cohomologous}
use Rattle.cohomology_operations.proofs.CohomologousLaws.{cohomologous-sound}
use Rattle.steenrod.proofs.TestedCocycles.{cohomologous-at}
use Rattle.steenrod.proofs.cohomologous.bound_of_products.Goals as goal

pub bound_of_sum-requires-clause-cohomologous : goal.bound_of_sum-requires-clause-cohomologous
bound_of_sum-requires-clause-cohomologous c =
    let K = c.args.m.now in
    let ok = c.complex-complex.ensures.complex in
    let p = c.args.a.now.degree in
    let q = c.args.b.now.degree in
    let a = set_of c.args.a.now.ids in
    let a2 = set_of c.args.a2.now.ids in
    let b = set_of c.args.b.now.ids in
    let b2 = set_of c.args.b2.now.ids in
    let one = c.in_ok-one.one in
    cohomologous-at K one.degree (p + q) (set_of one.ids) (set_of c.in_ok-other.other.ids) (cup K 0 a b) (cup K 0 a2 b2)
    (omega (arith, c.in_ok-one.ensures.degree))
    (c.in_ok-one.ensures.product ∙ ap (λ k. cup k 0 a b) c.complex-complex.ensures.same)
    (c.in_ok-other.ensures.product ∙ ap (λ k. cup k 0 a2 b2) c.complex-complex.ensures.same)
    (product-cohomologous K ok p q a a2 b b2
    (cohomologous-sound K ok p c.args.a2.now.degree a a2 c.requires.first.cocycle c.requires.first_other.cocycle c.requires.first_cohomologous)
    (cohomologous-sound K ok q c.args.b2.now.degree b b2 c.requires.second.cocycle c.requires.second_other.cocycle c.requires.second_cohomologous))
