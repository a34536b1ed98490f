use Rattle.std.proofs.Common.{◌+◌, ap, ◌∙◌, arith}
use Rattle.homology.specs.Sets.{set_of}
use Rattle.products.specs.Products.{cup}
use Rattle.cohomology_operations.proofs.ClassLaws.{product-cocycle}
use Rattle.steenrod.proofs.Words.{word-at, cocycle-at, product-choice}
use Rattle.steenrod.proofs.pairs.product_of_cocycles.Goals as goal

pub coordinates_of_cocycle-requires : goal.coordinates_of_cocycle-requires
coordinates_of_cocycle-requires c =
    let K = c.args.version.now in
    let p = c.args.a.now.degree in
    let q = c.args.b.now.degree in
    let a = set_of c.args.a.now.ids in
    let b = set_of c.args.b.now.ids in
    let z = c.in_ok-product.product in
    cocycle-at K z.degree (p + q) (set_of z.ids) (cup K 0 a b) (omega (arith, c.in_ok-product.ensures.degree))
    (c.in_ok-product.ensures.product ∙ ap (λ k. cup k 0 a b) c.complex-k.ensures.same)
    (product-cocycle K c.complex-k.ensures.complex p q a b c.requires.first.cocycle c.requires.second.cocycle)

pub returns-clause-every_choice : goal.returns-clause-every_choice
returns-clause-every_choice c =
    let K = c.args.version.now in
    let p = c.args.a.now.degree in
    let q = c.args.b.now.degree in
    let a = set_of c.args.a.now.ids in
    let b = set_of c.args.b.now.ids in
    let z = c.in_ok-product.product in
    let w = c.in_ok-word.word.numbers.items in
    product-choice K c.complex-k.ensures.complex p q a b w
    (word-at K z.degree (p + q) (set_of z.ids) (cup K 0 a b) w (omega (arith, c.in_ok-product.ensures.degree))
    (c.in_ok-product.ensures.product ∙ ap (λ k. cup k 0 a b) c.complex-k.ensures.same) c.in_ok-word.ensures.word)
