use Rattle.std.specs.Prelude.{◌≡◌, take}
use Rattle.elimination.proofs.row.Row.entries.Given as goal

abbrev pub invariant-loop-q : goal.invariant-loop-q
invariant-loop-q l = l.entries.items ≡ take l.q l.self
