use Rattle.cochain_values.specs.Marks.{marked}
use Rattle.steenrod.proofs.HalfLaws.{bockstein-is}
use Rattle.steenrod.proofs.halved.is_half_odd.Goals as goal

pub returns : goal.returns
returns c =
    bockstein-is c.args.k.now (marked c.args.marks.now) c.args.id c.faces_with-plus.result c.faces_with-minus.result c.abs_diff.result c.faces_with-plus.ensures
    c.faces_with-minus.ensures c.abs_diff.ensures
