use Rattle.std.proofs.Common.{ℕ, ◌+◌, ◌-◌, sym, subst, ◌∙◌}
use Rattle.homology.specs.Sets.{set_of}
use Rattle.homology.specs.Chains.{IsChain}
use Rattle.cup_i.proofs.DegreeLaws.{cup-chain}
use Rattle.cup_i.proofs.cup_product.cup_i.Goals as goal

pub from_ids-requires : goal.from_ids-requires
from_ids-requires c =
    let K = c.args.k.now in
    let a = c.args.a.now in
    let b = c.args.b.now in
    let chain = cup-chain K c.in_ok-support.ensures.complex c.args.i a.degree b.degree (set_of a.ids) (set_of b.ids) c.requires.first c.requires.second in
    let moved = subst (IsChain K (a.degree + b.degree - c.args.i)) (sym c.in_ok-support.ensures.product) chain in
    subst (λ (d : ℕ). IsChain K d (set_of c.in_ok-support.support))
    (sym (c.saturating_sub-degree.ensures ∙ (λ i. c.degree.ensures i + c.degree-2.ensures i - c.args.i))) moved
