use Rattle.std.specs.Prelude.{◌≤◌, length}
use Rattle.manifold_links.specs.Counts.{AreBounds}
use Rattle.manifold_links.proofs.bounded.bounds_of.Given as goal

abbrev pub invariant-loop-id : goal.invariant-loop-id
invariant-loop-id l = record {
  down : AreBounds l.k l.id l.counts.items l.marks.items;
  within : l.id ≤ length l.k;
}
