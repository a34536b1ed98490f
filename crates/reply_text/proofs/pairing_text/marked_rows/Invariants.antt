use Rattle.std.proofs.Common.{◌≡◌, ◌++◌, ◌∷◌, take}
use Rattle.std.specs.List.{flat_map}
use Rattle.transcript.specs.Values.{row_text}
use Rattle.reply_text.proofs.pairing_text.marked_rows.Given as goal

abbrev pub invariant-loop-bits : goal.invariant-loop-bits
invariant-loop-bits l =
    l.out.items ≡ l.initial.out.items ++ flat_map (λ row. 47 ∷ row_text row.items) (take l.bits-index l.rows)
