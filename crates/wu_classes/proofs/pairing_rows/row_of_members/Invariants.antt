use Rattle.std.specs.Prelude.{◌≡◌, ℕ, ◌<◌, length, slice_index, take}
use Rattle.homology.specs.Sets.{set_of}
use Rattle.elimination.specs.Rows.{entry}
use Rattle.wu_classes.proofs.pairing_rows.row_of_members.Given as goal

abbrev pub invariant-loop-id : goal.invariant-loop-id
invariant-loop-id l = record {
  width : length l.row ≡ length l.simplices;
  entries : (k : ℕ) → k < length l.simplices → entry l.row k ≡ set_of (take l.id-index l.chain) (slice_index l.simplices k);
}
