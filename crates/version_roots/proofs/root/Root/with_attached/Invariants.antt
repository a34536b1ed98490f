-- The line with the simplices so far.
use Rattle.std.proofs.Common.{◌≡◌, ◌++◌, take}
use Rattle.lines.specs.Changes.{attached}
use Rattle.version_roots.proofs.root.Root.with_attached.Given as goal

abbrev pub invariant-loop-coming : goal.invariant-loop-coming
invariant-loop-coming l = l.root ≡ l.self ++ attached l.caller (take l.coming-index l.new)
