-- What was found after the last read decides the answer.
use Rattle.std.proofs.Common.{Some}
use Rattle.cohom_edge.specs.declared.lines.next.Next.TheVariants.{LongLine, Spent}
use Rattle.cohom_edge.specs.Readings.{reading_of}
use Rattle.cohom_edge.proofs.Readings.{gave_first, halted_long, halted_spent, finished, reads_none, unfinished_still}
use Rattle.cohom_edge.proofs.lines.reader.LineReader.advance.Goals as goal

pub returns-in-Line-clause-answer : goal.returns-in-Line-clause-answer
returns-in-Line-clause-answer g c = rw (c.give.ensures.line, c.give.ensures.taken, c.in-Line.ensures.same) (gave_first (reading_of (g.S.Source.left c.args.source.now) (g.S.Source.faults c.args.source.now) c.args.self.now) (reading_of (g.S.Source.left c.reads.source) (g.S.Source.faults c.reads.source) c.reads.self) c.in-Line.place c.reads.invariant c.in-Line.ensures.found)

pub returns-in-LongLine-clause-answer : goal.returns-in-LongLine-clause-answer
returns-in-LongLine-clause-answer g c = rw (c.stop.ensures.answer, c.stop.ensures.stopped, c.in-LongLine.ensures.same) (halted_long (reading_of (g.S.Source.left c.args.source.now) (g.S.Source.faults c.args.source.now) c.args.self.now) (reading_of (g.S.Source.left c.reads.source) (g.S.Source.faults c.reads.source) c.reads.self) (Some LongLine) c.reads.invariant c.in-LongLine.ensures.found)

pub returns-in-Spent-clause-answer : goal.returns-in-Spent-clause-answer
returns-in-Spent-clause-answer g c = rw (c.stop-in-Spent.ensures.answer, c.stop-in-Spent.ensures.stopped, c.in-Spent.ensures.same) (halted_spent (reading_of (g.S.Source.left c.args.source.now) (g.S.Source.faults c.args.source.now) c.args.self.now) (reading_of (g.S.Source.left c.reads.source) (g.S.Source.faults c.reads.source) c.reads.self) (Some Spent) c.reads.invariant c.in-Spent.ensures.found)

pub returns-in-Nothing-clause-answer : goal.returns-in-Nothing-clause-answer
returns-in-Nothing-clause-answer g c =
    let start = reading_of (g.S.Source.left c.args.source.now) (g.S.Source.faults c.args.source.now) c.args.self.now in
    let mid = reading_of (g.S.Source.left c.reads.source) (g.S.Source.faults c.reads.source) c.reads.self in
    let left = g.S.Source.left c.read.new.source in
    let faults = g.S.Source.faults c.read.new.source in
    let now = reading_of left faults c.read.new.self in
    let drained = rw c.in-Part.ensures.same at c.in-Nothing.ensures.gained in
    let beside = rw c.in-Part.ensures.same at c.in-Nothing.ensures.beside in
    finished c.finish.result start left faults c.read.new.self c.finish.new.self (reads_none start mid now c.reads.invariant drained beside) drained.ended
    (unfinished_still mid now c.in-Part.ensures.found drained.same beside) c.finish.ensures
