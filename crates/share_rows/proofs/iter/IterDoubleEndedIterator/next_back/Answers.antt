use Rattle.std.proofs.Common.{◌≡◌, ◌-◌, ◌++◌, ◌∷◌, [], List, length, slice_range, take, sym, ap, ◌∙◌, append_assoc}
use Rattle.std.specs.Option.{option_copied, option_to_list}
use Rattle.std.proofs.lemmas.List.{append-nil, nil_from_length}
use Rattle.share_rows.specs.Tables.{held}
use Rattle.share_rows.proofs.RangeLaws.{ends_with_run}
use Rattle.share_rows.proofs.iter.IterDoubleEndedIterator.next_back.Goals as goal

regroup : {X : Type 0} (front middle back : List X) (x : X) → front ++ ((middle ++ (back ++ x ∷ [])) ++ []) ≡ (front ++ (middle ++ (back ++ []))) ++ x ∷ []
regroup front middle back x = simp (append-nil, append_assoc)

-- where nothing is left at the back, the last of the next run comes
pub returns-clause-steps : goal.returns-clause-steps
returns-clause-steps g c =
    let i = c.self.inside in
    let run = c.run_back-run.result.now in
    let n = length run in
    let x = c.index-run-last.result in
    let tree = c.in-Some-tree.tree.now in
    let ends = ends_with_run tree run i.from i.to x c.run_back-run.ensures.items c.run_back-run.ensures.some c.run_back-run.ensures.within c.index-run-last.is in
    sym c.self.view_is
    ∙ ap (λ o. i.front.now ++ (slice_range (held (option_copied i.tree)) i.from i.to ++ (i.back.now ++ option_to_list (option_copied o)))) (sym c.in_default-take.ensures.value)
    ∙ ap (λ z. i.front.now ++ (slice_range (held (option_copied i.tree)) i.from i.to ++ (z ++ []))) (nil_from_length i.back.now c.in_default.ensures.cases)
    ∙ ap (λ t. i.front.now ++ (slice_range (held (option_copied t)) i.from i.to ++ [])) c.in-Some-tree.is
    ∙ ap (λ z. i.front.now ++ (z ++ [])) ends
    ∙ regroup i.front.now (slice_range tree i.from (i.to - n)) (take (n - 1) run) x
    ∙ ap (λ t. (i.front.now ++ (slice_range (held (option_copied t)) i.from (i.to - n) ++ (take (n - 1) run ++ []))) ++ x ∷ []) (sym c.in-Some-tree.is)
    ∙ ap (λ o. (i.front.now ++ (slice_range (held (option_copied i.tree)) i.from (i.to - n) ++ (take (n - 1) run ++ option_to_list (option_copied o)))) ++ x ∷ []) (sym c.in_default-take.ensures.after)
