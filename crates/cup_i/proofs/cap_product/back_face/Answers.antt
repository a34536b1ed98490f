use Rattle.std.proofs.Common.{◌≡◌, ◌+◌, ◌-◌, take, drop, sym, ap, ◌∙◌, arith}
use Rattle.homology.specs.Complexes.{simplex_at}
use Rattle.products.specs.Products.{value_at}
use Rattle.products.proofs.ValueLaws.{value_at-there}
use Rattle.cochain_values.specs.Marks.{marked}
use Rattle.cup_i.proofs.BackLaws.{cut-front}
use Rattle.cup_i.proofs.cap_product.back_face.Goals as goal

pub returns-then-not-at : goal.returns-then-not-at
returns-then-not-at c =
    let K = c.args.k.now in
    let S = simplex_at K c.args.id in
    let a = marked c.args.factor.now.marks.items in
    let front : simplex_at K c.front.result ≡ take (c.args.factor.now.degree + 1) S =
    c.front.ensures.face ∙ cut-front c.width.result c.args.factor.now.degree c.vertices.result.now S c.width.ensures.value c.vertices.ensures.value c.requires.wide in
    sym (ap (value_at K a) front)
    ∙ value_at-there K c.requires.factor.complex a c.front.result c.front.ensures.there
    ∙ sym c.at.ensures
    ∙ c.if-not-at.true

pub returns : goal.returns
returns c =
    let K = c.args.k.now in
    let p = c.args.factor.now.degree in
    let S = simplex_at K c.args.id in
    let a = marked c.args.factor.now.marks.items in
    let front : simplex_at K c.front.result ≡ take (p + 1) S =
    c.front.ensures.face ∙ cut-front c.width.result p c.vertices.result.now S c.width.ensures.value c.vertices.ensures.value c.requires.wide in
    let cut : c.width-2.result - 1 ≡ p = omega (arith, c.width-2.ensures.value) in (
      sym (ap (value_at K a) front) ∙ value_at-there K c.requires.factor.complex a c.front.result c.front.ensures.there ∙ sym c.at.ensures ∙ c.if-not-at.false,
      c.back.ensures.there,
      c.back.ensures.face ∙ ap (λ n. drop n S) cut,
    )
