-- The search begins where no line feed is known to stand before.
use Rattle.std.proofs.Common.{◌≡◌, length, drop, slice_range, sym, ap, ◌∙◌, arith, length-drop}
use Rattle.std.proofs.lemmas.List.{take_rest}
use Rattle.cohom_edge.proofs.Pieces.{more_scanned, ends_at, none_found, slice_rest}
use Rattle.cohom_edge.proofs.lines.pending.Pending.feed.Goals as goal

pub invariant_of-self : goal.invariant_of-self
invariant_of-self c =
    let s = c.self.inside in
    let was = c.self.invariant in
    let searched : slice_range c.deref.result.now s.scanned (length c.deref.result.now) ≡ drop s.scanned s.bytes.items = take_rest c.deref.result.now s.scanned ∙ ap (drop s.scanned) c.deref.ensures.value in
    let found = rw searched at c.in-Some.ensures in
    record {
      line_ends = was.line_ends;
      line_in = was.line_in;
      starts = omega (arith, was.starts);
      scanned_in = omega (arith, found.0.high, was.scanned_in, length-drop s.scanned s.bytes.items);
      no_feed = more_scanned s.bytes.items s.start s.scanned c.in-Some.skipped was.starts was.no_feed found.0.before;
    }

pub returns-in-Some-clause-place : goal.returns-in-Some-clause-place
returns-in-Some-clause-place c =
    let s = c.self.inside in
    let was = c.self.invariant in
    let searched : slice_range c.deref.result.now s.scanned (length c.deref.result.now) ≡ drop s.scanned s.bytes.items = take_rest c.deref.result.now s.scanned ∙ ap (drop s.scanned) c.deref.ensures.value in
    let found = rw searched at c.in-Some.ensures in
    rw (← c.self.view_is) (ends_at s.bytes.items s.start s.scanned c.in-Some.skipped was.starts was.scanned_in was.no_feed found.0 found.1)

pub invariant_of-self-in-None : goal.invariant_of-self-in-None
invariant_of-self-in-None c =
    let s = c.self.inside in
    let was = c.self.invariant in
    let searched : slice_range c.deref.result.now s.scanned (length c.deref.result.now) ≡ drop s.scanned s.bytes.items = take_rest c.deref.result.now s.scanned ∙ ap (drop s.scanned) c.deref.ensures.value in
    let none = rw searched at c.in-None.ensures in
    let all : c.len-self-inside.result ≡ length s.bytes.items = c.len-self-inside.ensures ∙ sym c.deref.ensures.len ∙ ap length c.deref.ensures.value in
    record {
      line_ends = was.line_ends;
      line_in = was.line_in;
      starts = omega (arith, was.starts, was.scanned_in, all);
      scanned_in = omega (arith, all);
      no_feed = slice_rest s.bytes.items s.start c.len-self-inside.result all (none_found s.bytes.items s.start s.scanned was.starts was.scanned_in was.no_feed none);
    }

pub returns-in-None-clause-place : goal.returns-in-None-clause-place
returns-in-None-clause-place c =
    let s = c.self.inside in
    let was = c.self.invariant in
    let searched : slice_range c.deref.result.now s.scanned (length c.deref.result.now) ≡ drop s.scanned s.bytes.items = take_rest c.deref.result.now s.scanned ∙ ap (drop s.scanned) c.deref.ensures.value in
    let none = rw searched at c.in-None.ensures in
    rw (← c.self.view_is) (none_found s.bytes.items s.start s.scanned was.starts was.scanned_in was.no_feed none)
