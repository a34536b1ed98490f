use Rattle.std.proofs.Common.{length}
use Rattle.share_index.specs.Buckets.{bound}
use Rattle.share_index.proofs.SearchLaws.{IsLeft}
use Rattle.share_index.proofs.search.find_filed.Given as goal

abbrev pub invariant-loop-at : goal.invariant-loop-at
invariant-loop-at g l = IsLeft g.K.Hashed.same g.K.Hashed.hash l.entries.items (length l.buckets.last.items) (length l.buckets.before.items) l.key l.at

abbrev pub decreases-loop-at : goal.decreases-loop-at
decreases-loop-at g l = bound l.at
