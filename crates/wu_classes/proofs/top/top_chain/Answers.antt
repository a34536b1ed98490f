use Rattle.std.proofs.Common.{◌≡◌, map, sym, ap, ◌∙◌, subst, rules}
use Rattle.std.specs.Map.Iter.{deref}
use Rattle.std.proofs.lemmas.Map.Iter.{iter_end}
use Rattle.homology.specs.Sets.{set_of}
use Rattle.homology.specs.Chains.{IsChain}
use Rattle.homology.specs.Kinds.{ids}
use Rattle.wu_classes.proofs.Lists.{ids-chain}
use Rattle.wu_classes.proofs.top.top_chain.Goals as goal

pub returns-clause-chain : goal.returns-clause-chain
returns-clause-chain c =
    let K = c.args.m.now in
    let n = c.args.n in
    let whole : map deref c.loop-id.yielded ≡ c.of_dimension.result.now.items = search (rules, iter_end) in
    subst (IsChain K n)
    (sym (ap set_of (c.in_ok-chain.ensures ∙ c.deref.ensures.value ∙ c.loop-id.invariant ∙ whole ∙ c.of_dimension.ensures.ids ∙ ap (λ k. ids k n) c.complex-k.ensures.same)))
    (ids-chain K n)
