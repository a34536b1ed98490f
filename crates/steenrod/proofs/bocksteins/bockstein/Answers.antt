use Rattle.std.proofs.Common.{◌+◌, ap, ◌∙◌}
use Rattle.homology.specs.Sets.{set_of}
use Rattle.cohomology_operations.specs.Bocksteins.{bockstein}
use Rattle.steenrod.proofs.Words.{word-at, bockstein-choice}
use Rattle.steenrod.proofs.bocksteins.bockstein.Goals as goal

pub returns-clause-every_choice : goal.returns-clause-every_choice
returns-clause-every_choice c =
    let K = c.args.version.now in
    let p = c.args.a.now.degree in
    let a = set_of c.args.a.now.ids in
    let z = c.in_ok-cochain.cochain in
    let w = c.in_ok-word.word.numbers.items in
    bockstein-choice K c.complex.ensures.complex p a w
    (word-at K z.degree (p + 1) (set_of z.ids) (bockstein K a) w c.in_ok-cochain.ensures.degree (c.in_ok-cochain.ensures.bockstein ∙ ap (λ k. bockstein k a) c.model.ensures) c.in_ok-word.ensures.word)
