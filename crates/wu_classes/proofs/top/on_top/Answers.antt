use Rattle.std.proofs.Common.{◌≡◌, ℕ, List, sym, ap, ◌∙◌, subst}
use Rattle.std.specs.List.Sorted.{IsStrictlyIncreasing}
use Rattle.homology.specs.Sets.{set_of}
use Rattle.homology.specs.Chains.{IsChain}
use Rattle.manifolds.specs.Closed.{top}
use Rattle.characteristic_classes.specs.Pairings.{on_top}
use Rattle.characteristic_classes.proofs.TopLaws.{on_top-list}
use Rattle.wu_classes.proofs.top.on_top.Goals as goal

pub returns : goal.returns
returns c =
    let xs = c.ids.result.now in
    let a = c.args.a.now in
    let is : xs ≡ a.ids = c.ids.ensures.ids ∙ c.support.ensures in
    λ K ok stands degree.
    let there : IsChain K (top K) (set_of a.ids) = subst (λ (d : ℕ). IsChain K d (set_of a.ids)) degree stands in
    sym
    (on_top-list K xs (subst IsStrictlyIncreasing (sym c.ids.ensures.ids) c.ids.ensures.ascending)
    (subst (λ (l : List ℕ). IsChain K (top K) (set_of l)) (sym is) there))
    ∙ ap (λ (l : List ℕ). on_top K (set_of l)) is
