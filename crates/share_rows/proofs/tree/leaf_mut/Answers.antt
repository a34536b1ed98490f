use Rattle.std.proofs.Common.{◌<◌, ◌/◌, ◌%◌, [], length, refl, sym, subst}
use Rattle.std.proofs.lemmas.List.{get_or_read, set-get_or}
use Rattle.std.proofs.lemmas.Result.{IfOk-weaker}
use Rattle.share_rows.specs.Packs.{width}
use Rattle.share_rows.proofs.TreeLaws.{LeafAt, leaf_at, leaf_read}
use Rattle.share_rows.proofs.tree.leaf_mut.Goals as goal

pub edit-requires : goal.edit-requires
edit-requires g c = (leaf_at c.args.top.now c.args.q c.requires.packed c.requires.there).branch

pub edit-requires-2 : goal.edit-requires-2
edit-requires-2 g c =
    let at : LeafAt c.args.top.now c.args.q = leaf_at c.args.top.now c.args.q c.requires.packed c.requires.there in
    let is = get_or_read c.args.top.now (c.args.q / width) c.in_ok-branch.branch.now at.branch c.in_ok-branch.ensures.value [] in
    subst (λ b. c.args.q % width < length b) (sym is) at.place

pub returns : goal.returns
returns g c =
    let at : LeafAt c.args.top.now c.args.q = leaf_at c.args.top.now c.args.q c.requires.packed c.requires.there in
    let is = get_or_read c.args.top.now (c.args.q / width) c.in_ok-branch.branch.now at.branch c.in_ok-branch.ensures.value [] in
    (rw (is, set-get_or c.args.top.now (c.args.q / width) []) refl, record { writes_back = tt; value = IfOk-weaker c.edit-2.result _ _ (λ leaf l. leaf_read c.args.top.now c.args.q at c.in_ok-branch.branch.now is leaf.now l) c.edit-2.ensures.value })
