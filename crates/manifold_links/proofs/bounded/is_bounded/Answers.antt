use Rattle.std.proofs.Common.{◌∙◌, eq-eqb}
use Rattle.manifold_links.proofs.MarkedLaws.{bounded-zero, bounded-more}
use Rattle.manifold_links.proofs.bounded.is_bounded.Goals as goal

pub returns-then-left-eq0 : goal.returns-then-left-eq0
returns-then-left-eq0 c =
    eq-eqb c.degrees_left-left.result 0 c.if-left-eq0.true
    ∙ bounded-zero c.args.k.now c.args.id c.degrees_left-left.result c.degrees_left-left.ensures.value c.if-left-eq0.true

pub returns-else-left-eq0 : goal.returns-else-left-eq0
returns-else-left-eq0 c =
    bounded-more c.args.k.now c.args.id c.degrees_left-left.result _ _ _ c.degrees_left-left.ensures.value c.if-left-eq0.false c.requires.counted c.requires.marked c.has_just.ensures
