use Rattle.std.proofs.Common.{◌≡◌, false, List, ℕ, sym, ap, subst, ◌∙◌}
use Rattle.std.specs.List.{All}
use Rattle.std.specs.List.Sorted.{IsStrictlyIncreasing}
use Rattle.std.proofs.lemmas.List.{take_all}
use Rattle.std.proofs.lemmas.List.Elements.{All-more}
use Rattle.homology.specs.ListSums.{odd_over}
use Rattle.cochain_values.specs.Marks.{marked}
use Rattle.class_cache.proofs.boundaries.are_even.Goals as goal

pub loop-chain-preserved : goal.loop-chain-preserved
loop-chain-preserved c =
    let M = marked c.args.marks.now in
    let P : List ℕ → Type 0 = λ l. IsStrictlyIncreasing l × (odd_over l M ≡ false) in
    All-more P c.args.chains.now c.loop-chain.chain-index c.chain-item.result c.loop-chain-test.true c.loop-chain.invariant
    (subst P c.chain-item.is (c.ids.ensures.ascending, ap (λ l. odd_over l M) (sym c.ids.ensures.ids) ∙ sym c.parity.ensures ∙ c.if-parity.false))

pub returns : goal.returns
returns c = λ _.
    let M = marked c.args.marks.now in
    subst (All (λ (l : List ℕ). IsStrictlyIncreasing l × (odd_over l M ≡ false))) (take_all c.loop-chain.chain-index c.args.chains.now c.loop-chain-test.false)
    c.loop-chain.invariant
