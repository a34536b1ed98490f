use Rattle.std.specs.Prelude.{◌≡◌, ℕ, ◌&&◌, not, length, take}
use Rattle.homology.specs.Sets.{set_of}
use Rattle.cochain_values.specs.Marks.{marked}
use Rattle.manifold_links.proofs.bounded.unmark_all.Given as goal

abbrev pub invariant-loop-id : goal.invariant-loop-id
invariant-loop-id l = record {
  set : (q : ℕ) → marked l.marks q ≡ (not (set_of (take l.id-index l.ids) q) && marked l.fn.marks q);
  fits : length l.marks ≡ length l.fn.marks;
}
