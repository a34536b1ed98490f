use Rattle.std.proofs.Common.{◌≡◌, ◌++◌, take}
use Rattle.transcript.specs.Values.{pairings_text}
use Rattle.reply_text.specs.Rows.{pairings_in}
use Rattle.reply_text.proofs.pairing_text.pairings.Given as goal

abbrev pub invariant-loop-degree : goal.invariant-loop-degree
invariant-loop-degree l =
    l.out.items ≡ l.initial.out.items ++ pairings_text (pairings_in (take l.degree l.pairings))
