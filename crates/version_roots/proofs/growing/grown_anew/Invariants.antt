-- The model of the entries so far.
use Rattle.std.proofs.Common.{◌≡◌, take}
use Rattle.lines.specs.Lines.{simplices}
use Rattle.version_roots.proofs.growing.grown_anew.Given as goal

abbrev pub invariant-loop-k : goal.invariant-loop-k
invariant-loop-k l = l.model ≡ simplices (take l.k l.line)
