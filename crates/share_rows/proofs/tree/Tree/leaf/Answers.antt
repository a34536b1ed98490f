use Rattle.std.proofs.Common.{◌≡◌, ◌<◌, ◌%◌, [], length, slice_index_or, sym, ap, subst, ◌∙◌, arith}
use Rattle.share_rows.specs.Packs.{LeafIs, joined, all_leaves, width}
use Rattle.share_rows.proofs.TreeLaws.{counted, leaf_at, leaf_in, leaf_last}
use Rattle.share_rows.proofs.tree.Tree.leaf.Goals as goal

pub overflow_add-q : goal.overflow_add-q
overflow_add-q g c = omega (arith, c.requires, c.self.invariant.small, c.self.invariant.count, ap length c.self.view_is)

pub overflow_mul-q : goal.overflow_mul-q
overflow_mul-q g c = omega (arith, c.requires, c.self.invariant.small, c.self.invariant.count, ap length c.self.view_is)

pub at-branch-requires : goal.at-branch-requires
at-branch-requires g c =
    let k = counted c.self.inside.count c.self.inside.top c.self.inside.tail c.self.invariant in
    (leaf_at c.self.inside.top c.args.q c.self.invariant.branches (omega (arith, k.count, k.fits))).branch

pub at-requires : goal.at-requires
at-requires g c =
    let k = counted c.self.inside.count c.self.inside.top c.self.inside.tail c.self.invariant in
    subst (λ b. c.args.q % width < length b) (sym (c.at-branch.ensures [])) (leaf_at c.self.inside.top c.args.q c.self.invariant.branches (omega (arith, k.count, k.fits))).place

-- a leaf in its branch
pub returns-then-self-q : goal.returns-then-self-q
returns-then-self-q g c =
    let t = c.self.invariant in
    let top = c.self.inside.top in
    let tail = c.self.inside.tail in
    let k = counted c.self.inside.count top tail t in
    let there : c.args.q < length (joined top) = omega (arith, k.count, k.fits) in
    let is : c.items.result.now ≡ slice_index_or (joined top) c.args.q [] =
    c.items.ensures ∙ c.at.ensures [] ∙ ap (λ b. slice_index_or b (c.args.q % width) []) (c.at-branch.ensures []) ∙ (leaf_at top c.args.q t.branches there).is in
    subst (λ xs. LeafIs xs c.args.q c.items.result.now) c.self.view_is (subst (λ l. LeafIs (joined (all_leaves top tail)) c.args.q l) (sym is) (leaf_in c.self.inside.count top tail c.args.q t there))

-- the last leaf
pub returns-else-self-q : goal.returns-else-self-q
returns-else-self-q g c =
    let t = c.self.invariant in
    let top = c.self.inside.top in
    let tail = c.self.inside.tail in
    let k = counted c.self.inside.count top tail t in
    let last : c.args.q ≡ length (joined top) = omega (arith, k.count, k.some, k.fits, t.count, ap length c.self.view_is, c.requires) in
    subst (λ xs. LeafIs xs c.args.q c.items-else-self-q.result.now) c.self.view_is (subst (λ l. LeafIs (joined (all_leaves top tail)) c.args.q l) (sym c.items-else-self-q.ensures) (leaf_last c.self.inside.count top tail c.args.q t last))
