-- An answer that stays has its cause still.
use Rattle.cohom_edge.specs.Readings.{reading_of}
use Rattle.cohom_edge.proofs.Readings.{again}
use Rattle.cohom_edge.proofs.lines.reader.LineReader.next_line.Goals as goal

pub returns-in-Some-clause-answer : goal.returns-in-Some-clause-answer
returns-in-Some-clause-answer g c =
    let stands = rw c.in-Some.is at c.self.invariant.stands in
    rw (← c.self.view_is) (again (reading_of (g.S.Source.left c.args.source.now) (g.S.Source.faults c.args.source.now) _) c.in-Some.next c.in-Some.is stands.0 stands.1)
