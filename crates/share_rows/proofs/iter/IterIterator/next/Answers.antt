use Rattle.std.proofs.Common.{◌+◌, ◌++◌, ◌∷◌, length, slice_range, sym, ap, ◌∙◌, append_assoc}
use Rattle.std.specs.Option.{option_copied, option_to_list}
use Rattle.std.proofs.lemmas.List.{nil_from_length}
use Rattle.share_rows.specs.Tables.{held}
use Rattle.share_rows.proofs.RangeLaws.{starts_with_run}
use Rattle.share_rows.proofs.iter.IterIterator.next.Goals as goal

-- where nothing is left in front, the first of the next run comes
pub returns-clause-steps : goal.returns-clause-steps
returns-clause-steps g c =
    let i = c.self.inside in
    let run = c.run-run.result.now in
    let more = i.back.now ++ option_to_list (option_copied i.late) in
    let starts = starts_with_run c.in-Some-tree.tree.now run i.from i.to c.index-run-0.result c.run-run.ensures.items c.run-run.ensures.some c.run-run.ensures.within c.index-run-0.is in
    sym c.self.view_is
    ∙ ap (λ z. z ++ (slice_range (held (option_copied i.tree)) i.from i.to ++ more)) (nil_from_length i.front.now c.in_default.ensures.cases)
    ∙ ap (λ t. slice_range (held (option_copied t)) i.from i.to ++ more) c.in-Some-tree.is
    ∙ ap (λ z. z ++ more) starts
    ∙ ap (λ z. c.index-run-0.result ∷ z) (append_assoc (slice_range run 1 (length run)) (slice_range c.in-Some-tree.tree.now (i.from + length run) i.to) more)
    ∙ ap (λ t. c.index-run-0.result ∷ (slice_range run 1 (length run) ++ (slice_range (held (option_copied t)) (i.from + length run) i.to ++ more))) (sym c.in-Some-tree.is)
