-- The search for a line feed, and the limit.
use Rattle.std.proofs.Common.{◌+◌, ◌<◌, refl, arith, inl}
use Rattle.language.specs.Streams.{line_limit, lines_limit}
use Rattle.cohom_edge.proofs.Readings.{found_past, found_none}
use Rattle.cohom_edge.proofs.lines.reader.LineReader.ahead.Goals.{in-Some, in-None, in_default, in_default-2}
use Rattle.cohom_edge.proofs.lines.reader.LineReader.ahead.Goals as goal

pub returns-clause-found : goal.returns-clause-found
returns-clause-found c =
    let s = c.self.inside in
    let n = s.given in
    let b = s.pending.bytes in
    let place : n < lines_limit = omega (arith, c.self.invariant.counted, c.if-self-eq-LINES_LIMIT.false) in
    rw (← c.self.view_is) (elim c.match-feed.branch [
      | in-Some w ↦ rw (w.result-is) (record { place = place; ends = w.in-Some.ensures.place; short = w.if-place-le-LINE_LIMIT.true })
      | in-None w ↦ rw (w.result-is) (record { no_feed = w.in-None.ensures.place; short = omega (arith, c.len-waiting.ensures, w.if-waiting-le-LINE_LIMIT.true); place = inl place })
      | in_default w ↦ rw (w.result-is) (found_past n (line_limit + 1) b w.in-Some.place refl place w.in-Some.ensures.place (omega (arith, w.if-place-le-LINE_LIMIT.false)))
      | in_default-2 w ↦ rw (w.result-is) (found_none n (line_limit + 1) b refl place w.in-None.ensures.place (omega (arith, c.len-waiting.ensures, w.if-waiting-le-LINE_LIMIT.false)))
    ])
