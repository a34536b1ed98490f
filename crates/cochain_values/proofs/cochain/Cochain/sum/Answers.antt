use Rattle.std.proofs.Common.{◌≡◌, ℕ, sym, ap, subst, ◌∙◌}
use Rattle.homology.specs.Sets.{set_of}
use Rattle.homology.specs.Chains.{IsChain}
use Rattle.homology.proofs.ContractionFacts.{plus-chain}
use Rattle.cochain_values.specs.Cochains.{Graded, StandsOn}
use Rattle.cochain_values.proofs.cochain.Cochain.sum.Goals as goal

pub returns-clause-stands : goal.returns-clause-stands
returns-clause-stands c =
    let p = c.self.inside.degree in
    let same : c.other.inside.degree ≡ p =
    ap (λ (a : Graded). a.degree) c.other.view_is ∙ sym c.requires ∙ sym (ap (λ (a : Graded). a.degree) c.self.view_is) in
    λ K s t.
    let one : IsChain K p (set_of c.self.inside.support) = subst (StandsOn K) (sym c.self.view_is) s in
    let two : IsChain K c.other.inside.degree (set_of c.other.inside.support) = subst (StandsOn K) (sym c.other.view_is) t in
    subst (IsChain K p) (sym c.in_ok-support.ensures)
    (plus-chain K p (set_of c.self.inside.support) (set_of c.other.inside.support) one (subst (λ (d : ℕ). IsChain K d (set_of c.other.inside.support)) same two))
