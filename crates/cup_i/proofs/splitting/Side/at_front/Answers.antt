use Rattle.std.proofs.Common.{sym, ap, ◌∙◌}
use Rattle.cochain_values.specs.Marks.{marked}
use Rattle.products.specs.Products.{value_at}
use Rattle.products.proofs.ValueLaws.{value_at-there}
use Rattle.cup_i.proofs.splitting.Side.at_front.Goals as goal

pub returns : goal.returns
returns c =
    let K = c.args.k.now in
    let a = marked c.args.self.now.factor.now.marks.items in
    c.at.ensures
    ∙ sym (value_at-there K c.requires.factor.complex a c.front.result c.front.ensures.there)
    ∙ ap (value_at K a) c.front.ensures.face
