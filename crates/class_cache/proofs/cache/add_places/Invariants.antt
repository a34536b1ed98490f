use Rattle.std.specs.Prelude.{◌≡◌, length}
use Rattle.homology.specs.Complexes.{Complex}
use Rattle.class_cache.specs.Kept.{AreKept}
use Rattle.class_cache.proofs.cache.add_places.Given as goal

abbrev pub invariant-loop-k : goal.invariant-loop-k
invariant-loop-k l = record {
  kept : (K : Complex) → AreKept K l.fn.all.items → AreKept K l.all.items;
  count : length l.all.items ≡ l.k;
}
