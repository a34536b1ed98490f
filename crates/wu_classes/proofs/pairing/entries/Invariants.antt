use Rattle.std.specs.Prelude.{◌≡◌, map, take}
use Rattle.wu_classes.proofs.pairing.entries.Given as goal

abbrev pub invariant-loop-k : goal.invariant-loop-k
invariant-loop-k l = map (λ row. row.items) l.rows.items ≡ take l.k l.basis.rows
