-- Class words by the cycles of classes. K is a complex, a a cocycle of degree p.
--     cycle-within                 a cycle has simplices of the complex
--     value-at_cycle               the value at a cycle is the sum of the values at its members
use Rattle.std.proofs.Common.{◌≡◌, ℕ, ◌<◌, true, List, length, sym, ap, ◌∙◌}
use Rattle.std.specs.List.{All}
use Rattle.std.specs.List.Sorted.{IsStrictlyIncreasing}
use Rattle.homology.specs.Sets.{Ids, single, set_of, evaluate}
use Rattle.homology.specs.ListSums.{odd_over}
use Rattle.homology.specs.Complexes.{Complex, IsComplex}
use Rattle.homology.specs.Kinds.{is_essential}
use Rattle.homology.specs.Contractions.{IsContraction, cycle_of}
use Rattle.homology.proofs.EvaluationLaws.{evaluate-single}
use Rattle.homology.proofs.ListSetLaws.{set_of-All}
use Rattle.homology.proofs.ListSumLaws.{odd_over-same, evaluate-sum_over, sum_over-ascending}
use Rattle.factors.proofs.Existence.{contraction-exists}
use Rattle.at_model.specs.Maps.{IsCycle}

pub cycle-within : (K : Complex) → IsComplex K → (h : ℕ) (c xs : List ℕ) → is_essential K h ≡ true → IsCycle K h (set_of c) → xs ≡ c → All (λ t. t < length K) xs
cycle-within K ok h c xs e G same =
    let H = contraction-exists K ok in
    set_of-All (λ t. t < length K) xs (λ t m.
    (H.is.g_chains h e).there t (ap (λ z. z t) (G H.f (cycle_of K H.phi) H.phi H.is) ∙ ap (λ l. set_of l t) (sym same) ∙ m))

pub value-at_cycle : (K : Complex) (h : ℕ) (c xs : List ℕ) (a : Ids) (f g phi : ℕ → Ids) → IsContraction K f g phi → IsCycle K h (set_of c) → IsStrictlyIncreasing xs → xs ≡ c
    → All (λ t. t < length K) xs → odd_over xs a ≡ evaluate (length K) a (g h)
value-at_cycle K h c xs a f g phi C G up same within =
    sym (odd_over-same xs (λ t. evaluate (length K) a (single t)) a (λ k d lt. evaluate-single (length K) a _ (within k d lt)))
    ∙ sym (evaluate-sum_over (length K) a xs single)
    ∙ ap (evaluate (length K) a) (sum_over-ascending xs up ∙ ap set_of same ∙ sym (G f g phi C))
