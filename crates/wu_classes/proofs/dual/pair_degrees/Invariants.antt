use Rattle.std.specs.Prelude.{◌≡◌, ℕ, ◌<◌, length, slice_index_or}
use Rattle.elimination.specs.Rows.{Given}
use Rattle.wu_classes.specs.Duals.{IsPairing}
use Rattle.wu_classes.proofs.dual.pair_degrees.Given as goal

abbrev pub invariant-loop-p : goal.invariant-loop-p
invariant-loop-p l = record {
  count : length l.bases.items ≡ l.p;
  each : (q : ℕ) (g : Given) → q < l.p → IsPairing l.m q (slice_index_or l.bases.items q g);
}
