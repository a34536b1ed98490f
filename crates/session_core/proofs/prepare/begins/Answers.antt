-- One more simplex is the same.
use Rattle.std.proofs.Common.{◌≡◌, ℕ, ◌+◌, ◌<◌, Bool, true, false, List, [], ◌∷◌, ◌++◌, length, take, refl, sym, ap, ◌∙◌, arith}
use Rattle.std.specs.Prelude.{not, slice_index_or}
use Rattle.std.proofs.lemmas.List.{take_more}
use Rattle.homology.specs.Complexes.{Complex}
use Rattle.homology.proofs.BoundaryLaws.{same_list-true}
use Rattle.session_core.proofs.prepare.begins.Goals as goal

take-again : (K M : Complex) (k : ℕ) → take k M ≡ take k K → k < length K → k < length M → slice_index_or K k [] ≡ slice_index_or M k [] → take (k + 1) M ≡ take (k + 1) K
take-again K M k front in_K in_M same =
    take_more M k [] in_M ∙ ap (λ (L : Complex). L ++ slice_index_or M k [] ∷ []) front ∙ ap (λ (s : List ℕ). take k K ++ s ∷ []) (sym same) ∙ sym (take_more K k [] in_K)

not-false : (b : Bool) → not b ≡ false → b ≡ true
not-false true is = refl
not-false false is = absurd (cc is)

pub loop-id-preserved : goal.loop-id-preserved
loop-id-preserved c =
    let k = c.loop-id.id in
    let same = same_list-true c.vertices.result.now c.vertices-in-loop-id.result.now (not-false _ (sym c.if-ne.ensures)) in
    let here : c.vertices.result.now ≡ slice_index_or c.args.front.now k [] = c.vertices.ensures.value ∙ ap (λ (K : Complex). slice_index_or K k []) c.complex.ensures.same in
    let there : c.vertices-in-loop-id.result.now ≡ slice_index_or c.args.m.now k [] = c.vertices-in-loop-id.ensures.value ∙ ap (λ (K : Complex). slice_index_or K k []) c.complex-in-loop-id.ensures.same in
    take-again c.args.front.now c.args.m.now k c.loop-id.invariant (omega (arith, c.loop-id-test.true, c.len-id-end.ensures.count))
    (omega (arith, c.loop-id-test.true, c.len-id-end.ensures.count, c.if-len.false, c.len.ensures.count, c.len-2.ensures.count)) (sym here ∙ same ∙ there)
