use Rattle.std.specs.Prelude.{◌≡◌, map}
use Rattle.std.specs.List.{range_with_len}
use Rattle.characteristic_classes.specs.Pairings.{pairing}
use Rattle.wu_classes.proofs.pairing.pairings.Given as goal

abbrev pub invariant-loop-p : goal.invariant-loop-p
invariant-loop-p l = map (λ rows. map (λ row. row.items) rows.items) l.rows.items ≡ map (pairing l.m) (range_with_len 0 l.p)
