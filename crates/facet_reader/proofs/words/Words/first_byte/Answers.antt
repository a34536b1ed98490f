use Rattle.std.proofs.Common.{◌∙◌, ap, sym}
use Rattle.facet_reader.specs.Fronts.{front}
use Rattle.facet_reader.proofs.WordLaws.{front-there, front-none}
use Rattle.facet_reader.proofs.words.Words.first_byte.Goals as goal

pub returns-then-start-self : goal.returns-then-start-self
returns-then-start-self c =
    sym (front-there c.self.inside.line.now c.self.inside.at c.gaps.result c.gaps.ensures.place c.if-start-self.true)
    ∙ ap (λ left. front left.words) c.self.view_is

pub returns-else-start-self : goal.returns-else-start-self
returns-else-start-self c =
    sym (front-none c.self.inside.line.now c.self.inside.at c.gaps.result c.gaps.ensures.place c.if-start-self.false)
    ∙ ap (λ left. front left.words) c.self.view_is
