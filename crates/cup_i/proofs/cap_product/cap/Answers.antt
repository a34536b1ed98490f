use Rattle.std.proofs.Common.{◌≡◌, ℕ, ◌+◌, ◌-◌, sym, subst, ◌∙◌, arith}
use Rattle.std.specs.List.Sorted.{IsStrictlyIncreasing}
use Rattle.homology.specs.Sets.{set_of}
use Rattle.homology.specs.ListSums.{sum_over}
use Rattle.homology.specs.Chains.{IsChain}
use Rattle.products.specs.Caps.{cap}
use Rattle.products.proofs.CapLaws.{cap-degree}
use Rattle.cochain_values.specs.Marks.{marked}
use Rattle.cochain_values.proofs.MarkLaws.{given-set}
use Rattle.cup_i.specs.Backs.{back_of}
use Rattle.cup_i.proofs.BackLaws.{cap-sum}
use Rattle.cup_i.proofs.FactorLaws.{members-within}
use Rattle.cup_i.proofs.cap_product.cap.Goals as goal

pub add_backs-requires-clause-within : goal.add_backs-requires-clause-within
add_backs-requires-clause-within c = members-within c.args.k.now c.args.dim c.args.c.now c.ids.result.now c.ids.ensures.ids c.requires.chain

pub returns-clause-product : goal.returns-clause-product
returns-clause-product c =
    let K = c.args.k.now in
    let f = c.in_ok-factor.factor in
    let sum = c.in_ok-sum.sum in
    c.in_ok-product.ensures
    ∙ given-set sum.len sum.items c.deref_mut.result.now c.add_backs.new.sum c.deref.result.now (sum_over c.ids.result.now (back_of K f.degree (marked f.marks.items)))
    c.deref_mut.ensures.value sum.ok.0 c.in_ok-sum.ensures.set c.add_backs.ensures.fits c.add_backs.ensures.set c.deref.ensures.value
    ∙ cap-sum K f.degree (marked f.marks.items) c.ids.result.now (subst IsStrictlyIncreasing (sym c.ids.ensures.ids) c.ids.ensures.ascending)
    (members-within K c.args.dim c.args.c.now c.ids.result.now c.ids.ensures.ids c.requires.chain)
    ∙ (λ i. cap K (c.in_ok-factor.ensures.degree i) (c.in_ok-factor.ensures.set i) (set_of (c.ids.ensures.ids i)))

pub returns-clause-chain : goal.returns-clause-chain
returns-clause-chain c =
    let K = c.args.k.now in
    let p = c.args.a.now.degree in
    let q = c.args.dim - p in
    let whole : c.args.dim ≡ p + q = omega (arith, c.if-degree-dim.false, c.degree.ensures) in
    subst (IsChain K q) (sym (returns-clause-product c))
    (cap-degree K c.len.ensures.complex p (set_of c.args.a.now.ids) c.requires.stands q (set_of c.args.c.now)
    (subst (λ (d : ℕ). IsChain K d (set_of c.args.c.now)) whole c.requires.chain))
