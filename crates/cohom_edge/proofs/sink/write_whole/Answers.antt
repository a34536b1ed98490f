-- The sink took one more piece, right after those that it had taken.
use Rattle.std.proofs.Common.{arith, ◌∙◌}
use Rattle.cohom_edge.proofs.Contents.{appends_more}
use Rattle.cohom_edge.proofs.sink.write_whole.Goals as goal

pub loop-taken-preserved : goal.loop-taken-preserved
loop-taken-preserved g c =
    let was = c.loop-taken.invariant in
    let now = c.in_ok-taken.ensures in
    (grind (arith, now.bound), appends_more _ _ _ _ _ _ was.1 now.bytes, now.calm ∙ was.2, λ none. absurd (omega (arith, none, now.some)))
