use Rattle.std.specs.Prelude.{◌≡◌, ◌≤◌, length}
use Rattle.manifold_links.specs.Counts.{AreCounted}
use Rattle.manifold_links.specs.Covers.{is_covered, uncovered_from}
use Rattle.manifold_links.specs.Firsts.{IsFirst}
use Rattle.manifold_links.proofs.cover.cover_of.Given as goal

abbrev pub invariant-loop-id : goal.invariant-loop-id
invariant-loop-id l = record {
  down : AreCounted l.k (is_covered l.k) l.id l.counts.items;
  fits : length l.counts.items ≡ length l.k;
  within : l.id ≤ length l.k;
  first : IsFirst l.k (uncovered_from l.k l.id) l.first;
}
