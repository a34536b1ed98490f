use Rattle.std.proofs.Common.{◌∙◌, ap, sym, arith}
use Rattle.facet_reader.proofs.WordLaws.{next-none, next-some}
use Rattle.facet_reader.proofs.WordCounts.{few-left}
use Rattle.facet_reader.proofs.words.Words.next_word.Goals as goal

pub returns-then-length-eq0-clause-word : goal.returns-then-length-eq0-clause-word
returns-then-length-eq0-clause-word c =
    ap (λ left. left.words) (sym c.self.view_is)
    ∙ next-none c.self.inside.line.now c.self.inside.at c.gaps.result c.run_of_bytes-length.result c.gaps.ensures.place c.run_of_bytes-length.ensures.place c.if-length-eq0.true

pub returns-clause-word : goal.returns-clause-word
returns-clause-word c =
    ap (λ left. left.words) (sym c.self.view_is)
    ∙ next-some c.self.inside.line.now c.self.inside.at c.gaps.result c.run_of_bytes-length.result c.gaps.ensures.place c.run_of_bytes-length.ensures.place (omega arith)

pub returns-then-length-eq0-clause-few : goal.returns-then-length-eq0-clause-few
returns-then-length-eq0-clause-few c =
    few-left c.self.inside.line.now c.self.inside.at _ (ap (λ left. left.words) (sym c.self.view_is)) c.self.invariant.1

pub returns-clause-few : goal.returns-clause-few
returns-clause-few c =
    few-left c.self.inside.line.now c.self.inside.at _ (ap (λ left. left.words) (sym c.self.view_is)) c.self.invariant.1
