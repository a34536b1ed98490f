use Rattle.std.proofs.Common.{◌≡◌, ◌-◌, length, take, sym, ap, ◌∙◌, arith}
use Rattle.homology.specs.Sets.{set_of}
use Rattle.homology.specs.Complexes.{simplex_at}
use Rattle.products.specs.Products.{value_at}
use Rattle.products.proofs.ValueLaws.{value_at-there}
use Rattle.wu_classes.proofs.point_rows.begins.Goals as goal

pub returns : goal.returns
returns c =
    let K = c.args.complex.now in
    let s = simplex_at K c.args.x in
    let one : length s - c.from.result ≡ 1 = omega (arith, c.requires.dimension, c.from.ensures) in
    c.has.ensures
    ∙ sym (value_at-there K c.len.ensures.complex (set_of c.args.points.now) c.front.result c.front.ensures.there)
    ∙ ap (value_at K (set_of c.args.points.now)) (c.front.ensures.face ∙ ap (λ m. take m s) one)
