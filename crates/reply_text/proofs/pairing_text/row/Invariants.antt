use Rattle.std.proofs.Common.{◌≡◌, ◌++◌, take}
use Rattle.transcript.specs.Values.{row_text}
use Rattle.reply_text.proofs.pairing_text.row.Given as goal

abbrev pub invariant-loop-value : goal.invariant-loop-value
invariant-loop-value l = l.out.items ≡ l.initial.out.items ++ row_text (take l.value-index l.bits)
