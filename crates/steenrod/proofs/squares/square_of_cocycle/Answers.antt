use Rattle.std.proofs.Common.{◌+◌, ap, ◌∙◌}
use Rattle.homology.specs.Sets.{set_of}
use Rattle.cohomology_operations.specs.Squares.{square}
use Rattle.cohomology_operations.proofs.SquareLaws.{square-cocycle}
use Rattle.steenrod.proofs.Words.{word-at, cocycle-at, square-choice, square-identity}
use Rattle.steenrod.proofs.squares.square_of_cocycle.Goals as goal

pub coordinates_of_cocycle-requires : goal.coordinates_of_cocycle-requires
coordinates_of_cocycle-requires c =
    let K = c.args.version.now in
    let p = c.args.a.now.degree in
    let a = set_of c.args.a.now.ids in
    let z = c.in_ok-square.square in
    cocycle-at K z.degree (p + c.args.k) (set_of z.ids) (square K c.args.k p a) c.in_ok-square.ensures.degree (c.in_ok-square.ensures.square ∙ ap (λ k. square k c.args.k p a) c.model.ensures)
    (square-cocycle K c.complex.ensures.complex c.args.k p a c.requires.tested.cocycle)

pub returns-clause-every_choice : goal.returns-clause-every_choice
returns-clause-every_choice c =
    let K = c.args.version.now in
    let p = c.args.a.now.degree in
    let a = set_of c.args.a.now.ids in
    let z = c.in_ok-square.square in
    let w = c.in_ok-word.word.numbers.items in
    square-choice K c.complex.ensures.complex c.args.k p a w
    (word-at K z.degree (p + c.args.k) (set_of z.ids) (square K c.args.k p a) w c.in_ok-square.ensures.degree (c.in_ok-square.ensures.square ∙ ap (λ k. square k c.args.k p a) c.model.ensures)
    c.in_ok-word.ensures.word)

pub returns-clause-identity : goal.returns-clause-identity
returns-clause-identity c =
    let K = c.args.version.now in
    let p = c.args.a.now.degree in
    let a = set_of c.args.a.now.ids in
    let z = c.in_ok-square.square in
    let w = c.in_ok-word.word.numbers.items in
    square-identity K c.complex.ensures.complex c.args.k p a w c.requires.tested.cocycle.cochain
    (word-at K z.degree (p + c.args.k) (set_of z.ids) (square K c.args.k p a) w c.in_ok-square.ensures.degree (c.in_ok-square.ensures.square ∙ ap (λ k. square k c.args.k p a) c.model.ensures)
    c.in_ok-word.ensures.word)
