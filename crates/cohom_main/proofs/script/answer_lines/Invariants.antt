-- The lines so far are answered, each with at most one look, and no fault came.
use Rattle.std.proofs.Common.{◌≡◌, ◌-◌, ◌≤◌, length, None}
use Rattle.std.specs.Option.{IfSome}
use Rattle.language.specs.Streams.{lines_limit}
use Rattle.cohom_edge.specs.Readings.{reading_of}
use Rattle.cohom_main.proofs.Midst.{InMidst}
use Rattle.cohom_main.proofs.script.answer_lines.Given as goal

abbrev pub invariant-lines : goal.invariant-lines
invariant-lines g l = record {
  midst : IfSome (g.S.Source.left l.fn.source) (λ b. InMidst b (g.K.Sink.held l.fn.sink) (g.K.Sink.held l.sink) l.callers l.looks.lengths (reading_of (g.S.Source.left l.source) (g.S.Source.faults l.source) l.reader));
  few : length l.looks.lengths ≤ l.reader.given;
  calm_source : g.S.Source.faults l.source ≡ g.S.Source.faults l.fn.source;
  calm_sink : g.K.Sink.faults l.sink ≡ g.K.Sink.faults l.fn.sink;
  going : l.reader.stopped ≡ None;
}

abbrev pub decreases-lines : goal.decreases-lines
decreases-lines g l = lines_limit - l.reader.given
