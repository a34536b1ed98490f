use Rattle.std.specs.Prelude.{◌≡◌, ℕ, [], length, slice_index_or, take}
use Rattle.homology.specs.Sets.{plus, set_of, single}
use Rattle.homology.specs.ListSums.{sum_over}
use Rattle.wu_classes.specs.Sums.{where_odd}
use Rattle.wu_classes.proofs.face_sums.add_to.Given as goal

abbrev pub invariant-loop-h : goal.invariant-loop-h
invariant-loop-h l = record {
  rows : (h : ℕ) → set_of (slice_index_or l.sums h []) ≡ plus (set_of (slice_index_or l.fn.sums h [])) (where_odd (take l.h-index l.ids) h (sum_over l.more single));
  fits : length l.sums ≡ length l.fn.sums;
}
