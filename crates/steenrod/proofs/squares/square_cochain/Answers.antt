use Rattle.std.proofs.Common.{sym, ap, ◌∙◌}
use Rattle.homology.specs.Sets.{set_of}
use Rattle.cohomology_operations.specs.Squares.{square}
use Rattle.cohomology_operations.proofs.SquareLaws.{square-zero}
use Rattle.steenrod.proofs.squares.square_cochain.Goals as goal

-- Sq^0 is the cochain
pub returns-then-k-eq0-clause-square : goal.returns-then-k-eq0-clause-square
returns-then-k-eq0-clause-square c =
    let K = c.args.m.now in
    let p = c.args.a.now.degree in
    let a = set_of c.args.a.now.ids in
    ap set_of (c.in_ok-same.ensures.ids ∙ c.support.ensures)
    ∙ sym (square-zero K c.complex-complex.ensures.complex p a c.requires.stands)
    ∙ ap (λ k. square K k p a) (sym c.if-k-eq0.true)
