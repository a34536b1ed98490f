use Rattle.std.specs.Prelude.{◌≡◌, ℕ, ◌*◌, ◌<◌, ◌≤◌, length, slice_index}
use Rattle.manifold_links.specs.Entries.{before}
use Rattle.manifold_links.proofs.entries.starts_of.Given as goal

abbrev pub invariant-loop-one : goal.invariant-loop-one
invariant-loop-one l = record {
  end : l.end ≡ before l.lengths l.one-index;
  small : l.end ≤ l.one-index * 4294967295;
  fits : length l.starts.items ≡ l.one-index;
  starts : (x : ℕ) → x < l.one-index → slice_index l.starts.items x ≡ before l.lengths x;
}
