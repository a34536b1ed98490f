use Rattle.std.proofs.Common.{◌≡◌, ◌+◌, ◌-◌, ◌*◌, ◌<◌, ◌≤◌, ◌/◌, ◌%◌, ℕ, length, slice_range, ap, ◌∙◌, arith}
use Rattle.share_rows.specs.Packs.{width}
use Rattle.share_rows.proofs.RangeLaws.{at_in_leaf, length-range, range_in}
use Rattle.share_rows.proofs.tree.Tree.run.Goals as goal

pub returns-clause-items : goal.returns-clause-items
returns-clause-items g c =
    let leaf = c.leaf-leaf.result.now in
    let q : ℕ = c.args.from / width in
    let s : ℕ = c.args.from % width in
    let e : ℕ = c.min-end.result in
    let inner : s < length leaf = at_in_leaf c.args.self.now c.args.from leaf c.leaf-leaf.ensures (omega arith) in
    let order : s ≤ e = omega arith in
    let within : e ≤ length leaf = omega arith in
    let long : length (slice_range leaf s e) ≡ e - s = length-range leaf s e order within in
    let start : q * width + s ≡ c.args.from = omega arith in
    let end : q * width + e ≡ c.args.from + length (slice_range leaf s e) = omega (arith, long) in
    range_in c.args.self.now (q * width) s e leaf c.leaf-leaf.ensures.items order within
    ∙ ap (λ m. slice_range c.args.self.now m (q * width + e)) start
    ∙ ap (λ m. slice_range c.args.self.now c.args.from m) end
