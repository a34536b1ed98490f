use Rattle.std.proofs.Common.{◌+◌, sym, ◌∙◌}
use Rattle.homology.specs.Sets.{set_of}
use Rattle.cohomology_operations.specs.Squares.{square}
use Rattle.cohomology_operations.proofs.SquareLaws.{square-cocycle}
use Rattle.cohomology_operations.proofs.BocksteinLaws.{bockstein-square}
use Rattle.steenrod.proofs.Words.{cocycle-at}
use Rattle.steenrod.proofs.bocksteins.bockstein_cochain.Goals as goal

pub returns-clause-bockstein : goal.returns-clause-bockstein
returns-clause-bockstein c =
    c.in_ok-cochain.ensures.square
    ∙ sym (bockstein-square c.args.m.now c.complex.ensures.complex c.args.a.now.degree (set_of c.args.a.now.ids) c.in_ok-require_cocycle.ensures.tested.cocycle)

pub returns-clause-cocycle : goal.returns-clause-cocycle
returns-clause-cocycle c =
    let K = c.args.m.now in
    let p = c.args.a.now.degree in
    let a = set_of c.args.a.now.ids in
    let z = c.in_ok-cochain.cochain in
    cocycle-at K z.degree (p + 1) (set_of z.ids) (square K 1 p a) c.in_ok-cochain.ensures.degree c.in_ok-cochain.ensures.square
    (square-cocycle K c.complex.ensures.complex 1 p a c.in_ok-require_cocycle.ensures.tested.cocycle)
