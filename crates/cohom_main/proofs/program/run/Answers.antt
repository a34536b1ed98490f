use Rattle.std.proofs.Common.{sym, ◌∙◌}
use Rattle.std.specs.Cmp.Lexicographic.{same_text}
use Rattle.cohom_main.proofs.Statuses.{status-other, one_word}
use Rattle.cohom_main.proofs.program.run.Goals as goal

pub returns-in-len1-clause-usage : goal.returns-in-len1-clause-usage
returns-in-len1-clause-usage g c =
    let said = sym c.as_str.ensures.value ∙ same_text c.as_str.result.now _ c.if-eq.ensures in
    let is = one_word c.args.words.now c.word-item.result c.in-len1.len_at_least c.in-len1.len_below c.word-item.is said in
    (λ one. absurd (status-other _ (sym c.status.ensures ∙ one)), λ other. absurd (other is))
