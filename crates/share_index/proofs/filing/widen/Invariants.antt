use Rattle.std.proofs.Common.{◌≡◌, length}
use Rattle.share_index.specs.Buckets.{IsFiled}
use Rattle.share_index.specs.Entries.{hashes}
use Rattle.share_index.proofs.filing.widen.Given as goal

abbrev pub invariant-loop-place : goal.invariant-loop-place
invariant-loop-place g l = record {
  places : length l.wider.before.items ≡ l.place;
  buckets : length l.wider.last.items ≡ l.count;
  filed : IsFiled (hashes g.K.Hashed.hash l.entries.items) l.wider.last.items l.wider.before.items;
}
