use Rattle.std.specs.Prelude.{◌≡◌, ℕ, ◌<◌, [], length, slice_index_or}
use Rattle.homology.specs.Sets.{set_of}
use Rattle.at_model.specs.Maps.{IsF}
use Rattle.wu_classes.proofs.class_maps.maps.Given as goal

abbrev pub invariant-loop-t : goal.invariant-loop-t
invariant-loop-t l = record {
  count : length l.maps.items ≡ l.t;
  each : (s : ℕ) → s < l.t → IsF l.m s (set_of (slice_index_or l.maps.items s []));
}
