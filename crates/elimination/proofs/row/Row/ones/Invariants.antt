use Rattle.std.specs.Prelude.{◌≡◌}
use Rattle.std.specs.List.{filter, range_with_len}
use Rattle.elimination.specs.Rows.{entry}
use Rattle.elimination.proofs.row.Row.ones.Given as goal

abbrev pub invariant-loop-q : goal.invariant-loop-q
invariant-loop-q l = l.places.items ≡ filter (entry l.self) (range_with_len 0 l.q)
