-- No byte is lost, no line was given, and each further read gave a byte of a line that is not whole yet.
use Rattle.std.proofs.Common.{◌+◌, ◌-◌, length}
use Rattle.language.specs.Streams.{line_limit}
use Rattle.cohom_edge.specs.Readings.{reading_of}
use Rattle.cohom_edge.proofs.Readings.{Reads}
use Rattle.cohom_edge.proofs.lines.reader.LineReader.advance.Given as goal

abbrev pub invariant-reads : goal.invariant-reads
invariant-reads g l =
    Reads (reading_of (g.S.Source.left l.fn.source) (g.S.Source.faults l.fn.source) l.fn.self)
    (reading_of (g.S.Source.left l.source) (g.S.Source.faults l.source) l.self)

abbrev pub decreases-reads : goal.decreases-reads
decreases-reads g l = line_limit + 1 - length l.self.buffered
