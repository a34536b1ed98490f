use Rattle.std.proofs.Common.{◌≡◌, ◌+◌, sym, ap, ◌∙◌}
use Rattle.homology.specs.Sets.{set_of}
use Rattle.cohomology.specs.Classes.{class_of}
use Rattle.cohomology_operations.specs.Bocksteins.{bockstein}
use Rattle.cohomology_operations.proofs.BocksteinLaws.{bockstein-square}
use Rattle.steenrod.proofs.Words.{bockstein-choice}
use Rattle.steenrod.proofs.bocksteins.bockstein_of_cocycle.Goals as goal

pub returns : goal.returns
returns c =
    let K = c.args.version.now in
    let p = c.args.a.now.degree in
    let a = set_of c.args.a.now.ids in
    let word : c.in_ok-word.word.numbers.items ≡ class_of K (p + 1) (bockstein K a) =
    c.in_ok-word.ensures.word ∙ sym (ap (class_of K (p + 1)) (bockstein-square K c.complex.ensures.complex p a c.requires.tested.cocycle)) in
    record {
      degree = c.in_ok-word.ensures.degree;
      word = word;
      every_choice = bockstein-choice K c.complex.ensures.complex p a c.in_ok-word.word.numbers.items word;
    }
