use Rattle.std.proofs.Common.{◌+◌, sym, ◌∙◌}
use Rattle.homology.specs.Sets.{plus, set_of}
use Rattle.homology.specs.Chains.{AreCohomologous}
use Rattle.cohomology.specs.Classes.{canonical_bound}
use Rattle.cohomology_operations.proofs.CohomologousLaws.{cohomologous-sound}
use Rattle.cohomology_operations.proofs.BocksteinLaws.{bockstein-square}
use Rattle.steenrod.proofs.cohomologous.bound_of_bocksteins.Goals as goal

pub returns-clause-bound : goal.returns-clause-bound
returns-clause-bound c =
    let K = c.args.m.now in
    let ok = c.complex.ensures.complex in
    let p = c.args.a.now.degree in
    let a = set_of c.args.a.now.ids in
    let a2 = set_of c.args.a2.now.ids in
    let E : AreCohomologous K p a a2 =
    cohomologous-sound K ok p c.args.a2.now.degree a a2 c.requires.first.cocycle c.requires.second.cocycle c.requires.cohomologous in
    c.in_ok-bound.ensures.bound
    ∙ λ i. set_of (canonical_bound K (p + 1) (plus (sym (bockstein-square K ok p a E.first) i) (sym (bockstein-square K ok p a2 E.second) i)))
