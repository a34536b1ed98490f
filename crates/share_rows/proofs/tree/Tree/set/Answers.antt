use Rattle.std.proofs.Common.{length, set, ap, ◌∙◌, arith}
use Rattle.share_rows.proofs.TreeLaws.{counted, place_in, set_in_tail, set_in_top}
use Rattle.share_rows.proofs.tree.Tree.set.Goals as goal

pub overflow_mul-k : goal.overflow_mul-k
overflow_mul-k g c = omega (arith, c.requires, c.self.invariant.small, c.self.invariant.count, ap length c.self.view_is)

pub set_in-requires-clause-leaf : goal.set_in-requires-clause-leaf
set_in-requires-clause-leaf g c =
    let k = counted c.self.inside.count c.self.inside.top c.self.inside.tail c.self.invariant in
    omega (arith, k.count, k.fits)

pub set_in-requires-clause-place : goal.set_in-requires-clause-place
set_in-requires-clause-place g c =
    let k = counted c.self.inside.count c.self.inside.top c.self.inside.tail c.self.invariant in
    place_in c.self.inside.count c.self.inside.top c.self.inside.tail c.args.k c.self.invariant (omega (arith, k.count, k.fits))

pub invariant_of-self-then-self-k : goal.invariant_of-self-then-self-k
invariant_of-self-then-self-k g c =
    let t = c.self.invariant in
    let top = c.self.inside.top in
    let tail = c.self.inside.tail in
    let n = c.self.inside.count in
    let k = counted n top tail t in
    (set_in_top n top c.set_in.new.top tail c.args.k c.args.item t (omega (arith, t.count, ap length c.self.view_is, c.requires)) (omega (arith, k.count, k.fits)) c.in_ok-set_in.ensures.branches c.in_ok-set_in.ensures.leaves).tree

pub returns-then-self-k-clause-set : goal.returns-then-self-k-clause-set
returns-then-self-k-clause-set g c =
    let t = c.self.invariant in
    let top = c.self.inside.top in
    let tail = c.self.inside.tail in
    let n = c.self.inside.count in
    let k = counted n top tail t in
    (set_in_top n top c.set_in.new.top tail c.args.k c.args.item t (omega (arith, t.count, ap length c.self.view_is, c.requires)) (omega (arith, k.count, k.fits)) c.in_ok-set_in.ensures.branches c.in_ok-set_in.ensures.leaves).items
    ∙ ap (λ xs. set xs c.args.k c.args.item) c.self.view_is

pub edit-requires : goal.edit-requires
edit-requires g c =
    let t = c.self.invariant in
    let k = counted c.self.inside.count c.self.inside.top c.self.inside.tail t in
    omega (arith, k.count, k.some, k.fits, t.count, ap length c.self.view_is, c.requires)

pub invariant_of-self-2 : goal.invariant_of-self-2
invariant_of-self-2 g c =
    let t = c.self.invariant in
    let k = counted c.self.inside.count c.self.inside.top c.self.inside.tail t in
    (set_in_tail c.self.inside.count c.self.inside.top c.self.inside.tail c.args.k c.args.item t (omega (arith, t.count, ap length c.self.view_is, c.requires))
    (omega (arith, k.count, k.some, k.fits, t.count, ap length c.self.view_is, c.requires))).tree

pub returns-clause-set : goal.returns-clause-set
returns-clause-set g c =
    let t = c.self.invariant in
    let k = counted c.self.inside.count c.self.inside.top c.self.inside.tail t in
    (set_in_tail c.self.inside.count c.self.inside.top c.self.inside.tail c.args.k c.args.item t (omega (arith, t.count, ap length c.self.view_is, c.requires))
    (omega (arith, k.count, k.some, k.fits, t.count, ap length c.self.view_is, c.requires))).items
    ∙ ap (λ xs. set xs c.args.k c.args.item) c.self.view_is
