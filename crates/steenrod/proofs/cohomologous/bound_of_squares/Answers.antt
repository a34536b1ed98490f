use Rattle.std.proofs.Common.{◌+◌, sym, ap, ◌∙◌}
use Rattle.homology.specs.Sets.{set_of}
use Rattle.cohomology_operations.specs.Squares.{square}
use Rattle.cohomology_operations.proofs.SquareLaws.{square-cohomologous}
use Rattle.cohomology_operations.proofs.CohomologousLaws.{cohomologous-sound, cohomologous-degrees}
use Rattle.steenrod.proofs.TestedCocycles.{cohomologous-at}
use Rattle.steenrod.proofs.cohomologous.bound_of_squares.Goals as goal

pub bound_of_sum-requires-clause-cohomologous : goal.bound_of_sum-requires-clause-cohomologous
bound_of_sum-requires-clause-cohomologous c =
    let K = c.args.m.now in
    let ok = c.complex.ensures.complex in
    let k = c.args.k in
    let p = c.args.a.now.degree in
    let p2 = c.args.a2.now.degree in
    let a = set_of c.args.a.now.ids in
    let a2 = set_of c.args.a2.now.ids in
    let one = c.in_ok-one.one in
    cohomologous-at K one.degree (p + k) (set_of one.ids) (set_of c.in_ok-other.other.ids) (square K k p a) (square K k p a2)
    c.in_ok-one.ensures.degree c.in_ok-one.ensures.square
    (c.in_ok-other.ensures.square ∙ ap (λ n. square K k n a2) (sym (cohomologous-degrees K p p2 a a2 c.requires.cohomologous)))
    (square-cohomologous K ok k p a a2 (cohomologous-sound K ok p p2 a a2 c.requires.first.cocycle c.requires.second.cocycle c.requires.cohomologous))
