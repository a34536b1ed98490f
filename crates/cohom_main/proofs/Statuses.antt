-- Words and statuses.
--     status-other    no end of a script has the status 1
--     one_word        a list of one text that says `script` is the one word `script`
use Rattle.std.proofs.Common.{◌≡◌, ◌<◌, ◌≤◌, List, [], ◌∷◌, String, codes, length, get_or, sym, ap, ◌∙◌, arith}
use Rattle.std.specs.String.{string_bytes}
use Rattle.cohom_main.specs.Words.{IsScript, status_of}
use Rattle.session_core.specs.declared.ends.How.{How}
use Rattle.session_core.specs.declared.ends.How.TheVariants.{Input, Quit, ReadFault, WriteFault, LongLine, Spent, Memory}

pub status-other : (how : How) → ¬ (status_of how ≡ 1)
status-other Input e = cc
status-other Quit e = cc
status-other ReadFault e = cc
status-other WriteFault e = cc
status-other Memory e = cc
status-other LongLine e = cc
status-other Spent e = cc

pub one_word : {Z : Type 0} (words : List (String Z)) (word : String Z) → 1 ≤ length words → length words < 2 → word ≡ get_or words 0 word → string_bytes word ≡ codes "script" → IsScript words
one_word [] word low high e s = absurd (omega arith)
one_word (w ∷ []) word low high e s = ap (λ bytes. bytes ∷ []) (ap string_bytes (sym e) ∙ s)
one_word (w ∷ v ∷ words) word low high e s = absurd (omega arith)
