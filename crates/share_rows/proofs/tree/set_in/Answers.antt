use Rattle.std.proofs.Common.{◌/◌, ◌%◌, set, ap, ◌∙◌}
use Rattle.std.proofs.lemmas.Result.{MatchResult-from_err}
use Rattle.share_rows.specs.Packs.{joined, width}
use Rattle.share_rows.proofs.TreeLaws.{leaf_at, leaf_changed, same_leaf}
use Rattle.share_rows.proofs.tree.set_in.Goals as goal

-- without memory the leaf is as it was
pub returns-in_err-edit-clause-unchanged : goal.returns-in_err-edit-clause-unchanged
returns-in_err-edit-clause-unchanged g c =
    let top = c.args.top.now in
    let q = c.args.k / width in
    let same = same_leaf top q (leaf_at top q c.requires.branches c.requires.leaf) c.in_ok-leaf.leaf.now c.in_ok-leaf.ensures.value in
    MatchResult-from_err c.from_residual-in_err-edit.result _ _ c.from_residual-in_err-edit.ensures.0 (λ _. same)

pub returns-clause-leaves : goal.returns-clause-leaves
returns-clause-leaves g c =
    let top = c.args.top.now in
    let q = c.args.k / width in
    (leaf_changed top q (set c.in_ok-leaf.leaf.now (c.args.k % width) c.args.item) c.requires.branches c.requires.leaf).leaves
    ∙ ap (λ l. set (joined top) q (set l (c.args.k % width) c.args.item)) c.in_ok-leaf.ensures.value
