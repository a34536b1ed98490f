use Rattle.std.proofs.Common.{◌≡◌, ◌+◌, ◌<◌, ◌/◌, ◌%◌, [], ◌∷◌, ◌++◌, length, get_or, set, sym, ap, subst, ◌∙◌, arith}
use Rattle.std.proofs.lemmas.List.{get_or_read}
use Rattle.std.proofs.lemmas.Result.{on_ok_weaker}
use Rattle.share_rows.specs.Packs.{IsPacked, joined, width}
use Rattle.share_rows.proofs.PackLaws.{IsPacked-push_new, IsPacked-push_piece, last_open, none_open, push-new, push-piece}
use Rattle.share_rows.proofs.tree.push_leaf.Goals as goal

pub edit-requires : goal.edit-requires
edit-requires g c =
    let top = c.args.top.now in
    omega (arith, c.requires.count, (last_open top c.requires.branches (subst (λ m. 0 < m % width) c.requires.count (omega arith))).0)

-- where the last branch has room
pub returns-then-q-ne0-clause-branches : goal.returns-then-q-ne0-clause-branches
returns-then-q-ne0-clause-branches g c =
    let top = c.args.top.now in
    let i = c.args.q / width in
    let leaf = c.args.leaf in
    let last = subst (λ m. 0 < m % width → (m / width + 1 ≡ length top) × (length (get_or top (m / width) []) < width)) (sym c.requires.count) (last_open top c.requires.branches) (omega arith) in
    let is = get_or_read top i c.in_ok-edit.field-0.now (omega (arith, last.0)) c.in_ok-edit.ensures.value [] in
    on_ok_weaker c.push.result (λ e. subst (λ b. IsPacked (set top i b)) (sym (e ∙ ap (λ b. b ++ leaf ∷ []) is)) (IsPacked-push_piece top i leaf c.requires.branches last.0 last.1)) c.push.ensures.pushed

pub returns-then-q-ne0-clause-leaves : goal.returns-then-q-ne0-clause-leaves
returns-then-q-ne0-clause-leaves g c =
    let top = c.args.top.now in
    let i = c.args.q / width in
    let leaf = c.args.leaf in
    let last = subst (λ m. 0 < m % width → (m / width + 1 ≡ length top) × (length (get_or top (m / width) []) < width)) (sym c.requires.count) (last_open top c.requires.branches) (omega arith) in
    let is = get_or_read top i c.in_ok-edit.field-0.now (omega (arith, last.0)) c.in_ok-edit.ensures.value [] in
    on_ok_weaker c.push.result (λ e. ap (λ b. joined (set top i b)) (e ∙ ap (λ b. b ++ leaf ∷ []) is) ∙ push-piece top i leaf last.0) c.push.ensures.pushed

-- where all branches are full
pub returns-clause-branches : goal.returns-clause-branches
returns-clause-branches g c =
    let top = c.args.top.now in
    let full = none_open top c.requires.branches (subst (λ m. m % width ≡ 0) c.requires.count c.if-q-ne0.false) in
    on_ok_weaker c.push-2.result (λ e. subst IsPacked (sym (e ∙ ap (λ b. top ++ b ∷ []) c.in_ok-single.ensures)) (IsPacked-push_new top c.args.leaf c.requires.branches full)) c.push-2.ensures.pushed

pub returns-clause-leaves : goal.returns-clause-leaves
returns-clause-leaves g c =
    let top = c.args.top.now in
    on_ok_weaker c.push-2.result (λ e. ap joined (e ∙ ap (λ b. top ++ b ∷ []) c.in_ok-single.ensures) ∙ push-new top c.args.leaf) c.push-2.ensures.pushed
