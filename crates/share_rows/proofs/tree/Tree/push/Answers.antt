use Rattle.std.proofs.Common.{◌+◌, [], ◌∷◌, ◌++◌, length, sym, ap, subst, ◌∙◌, arith}
use Rattle.share_rows.specs.Packs.{IsTree, joined, all_leaves}
use Rattle.share_rows.proofs.TreeLaws.{grown_by_leaf, grown_in_tail, is_full}
use Rattle.share_rows.proofs.tree.Tree.push.Goals as goal

-- where the last leaf has room
pub invariant_of-self-then-self-ne0 : goal.invariant_of-self-then-self-ne0
invariant_of-self-then-self-ne0 g c =
    let t = c.self.invariant in
    let n = c.self.inside.count in
    subst (IsTree (n + 1) c.self.inside.top) (sym c.in_ok-push.ensures.pushed)
    (grown_in_tail n c.self.inside.top c.self.inside.tail c.args.item t (omega arith) (omega (arith, t.count, ap length c.self.view_is, c.requires))).tree

pub returns-then-self-ne0-clause-pushed : goal.returns-then-self-ne0-clause-pushed
returns-then-self-ne0-clause-pushed g c =
    let t = c.self.invariant in
    let n = c.self.inside.count in
    ap (λ l. joined (all_leaves c.self.inside.top l)) c.in_ok-push.ensures.pushed
    ∙ (grown_in_tail n c.self.inside.top c.self.inside.tail c.args.item t (omega arith) (omega (arith, t.count, ap length c.self.view_is, c.requires))).items
    ∙ ap (λ xs. xs ++ c.args.item ∷ []) c.self.view_is

pub overflow_sub-self-inside : goal.overflow_sub-self-inside
overflow_sub-self-inside g c = (is_full c.self.inside.count c.self.inside.top c.self.inside.tail c.self.invariant c.if-self-ne0.false).some

pub push_leaf-requires-clause-count : goal.push_leaf-requires-clause-count
push_leaf-requires-clause-count g c = (is_full c.self.inside.count c.self.inside.top c.self.inside.tail c.self.invariant c.if-self-ne0.false).place

-- where it is full
pub invariant_of-self-2 : goal.invariant_of-self-2
invariant_of-self-2 g c =
    let t = c.self.invariant in
    let n = c.self.inside.count in
    let top = c.self.inside.top in
    let tail = c.self.inside.tail in
    subst (IsTree (n + 1) c.push_leaf.new.top) (sym c.in_ok-tail.ensures)
    (grown_by_leaf n top c.push_leaf.new.top tail c.args.item t c.if-self-ne0.false (omega (arith, t.count, ap length c.self.view_is, c.requires)) c.in_ok-push_leaf.ensures.branches (c.in_ok-push_leaf.ensures.leaves ∙ ap (λ l. joined top ++ l ∷ []) c.in_ok-full.ensures)).tree

pub returns-clause-pushed : goal.returns-clause-pushed
returns-clause-pushed g c =
    let t = c.self.invariant in
    let n = c.self.inside.count in
    let top = c.self.inside.top in
    let tail = c.self.inside.tail in
    ap (λ l. joined (all_leaves c.push_leaf.new.top l)) c.in_ok-tail.ensures
    ∙ (grown_by_leaf n top c.push_leaf.new.top tail c.args.item t c.if-self-ne0.false (omega (arith, t.count, ap length c.self.view_is, c.requires)) c.in_ok-push_leaf.ensures.branches (c.in_ok-push_leaf.ensures.leaves ∙ ap (λ l. joined top ++ l ∷ []) c.in_ok-full.ensures)).items
    ∙ ap (λ xs. xs ++ c.args.item ∷ []) c.self.view_is
