-- The least part, which is empty, and the greatest, which is the whole.
--     least-part, least-positive, least-bounding, least-betti     relative to nothing all is as it is
--     greatest-betti                                              relative to the whole there is nothing
use Rattle.std.proofs.Common.{◌≡◌, ℕ, ◌+◌, Bool, true, false, ◌&&◌, not, List, [], ◌∷◌, refl, sym, ap, ◌∙◌, ◌⊎◌, inl, inr}
use Rattle.std.specs.List.{count_by}
use Rattle.std.proofs.lemmas.Bool.{true≢false, and_parts, cases_Bool, false_from_ne_true}
use Rattle.homology.specs.Sets.{Ids}
use Rattle.homology.specs.Complexes.{Complex, IsComplex, dim}
use Rattle.homology.specs.Chains.{boundary, IsChain}
use Rattle.homology.specs.Kinds.{is_positive, is_bounding, is_essential, betti, ids, IsPositive, IsBounding}
use Rattle.homology.proofs.ParityLaws.{and-true}
use Rattle.homology.proofs.SetLaws.{same_members}
use Rattle.homology.proofs.BoundaryLaws.{boundary-within}
use Rattle.homology.proofs.KindLaws.{is_positive-true, is_positive-holds, is_bounding-true, is_bounding-holds}
use Rattle.pairs.specs.Pairs.{IsPart, is_outside, IsRelativeChain, relative_boundary, is_relatively_positive, is_relatively_bounding, is_relatively_essential, relative_betti, IsRelativelyPositive, IsRelativelyBounding}
use Rattle.pairs.proofs.PartLaws.{id-there}
use Rattle.pairs.proofs.RelativeKinds.{outside-parts, outside-from, positive-true, positive-holds, bounding-true, bounding-holds}

pub least-part : (K : Complex) → IsPart K []
least-part K s e = absurd (true≢false (sym e))

-- two tests of which each gives the other
same-test : (a b : Bool) → (a ≡ true → b ≡ true) → (b ≡ true → a ≡ true) → a ≡ b
same-test true b there back = sym (there refl)
same-test false true there back = back refl
same-test false false there back = refl

count-same : (f g : ℕ → Bool) (xs : List ℕ) → ((x : ℕ) → f x ≡ g x) → count_by f xs ≡ count_by g xs
count-same f g xs e = ap (λ h. count_by h xs) (same_members f g e)

count-none : (xs : List ℕ) → count_by (λ _. false) xs ≡ 0
count-none [] = refl
count-none (x ∷ xs) = count-none xs

module _ (K : Complex) (k : IsComplex K) where
  free : (p : ℕ) (c : Ids) → IsChain K p c → IsRelativeChain K [] p c
  free p c chain = record { chain = chain; outside = λ t m. refl }

  least-boundary : (c : Ids) → relative_boundary K [] c ≡ boundary K c
  least-boundary c = same_members _ _ (λ x. at x (cases_Bool (boundary K c x)))
    where
      at : (x : ℕ) → (boundary K c x ≡ true) ⊎ (boundary K c x ≡ false) → (boundary K c x && is_outside K [] x) ≡ boundary K c x
      at x (inl m) =
          ap (λ b. boundary K c x && b) (outside-from K [] x (boundary-within K k c x m) refl) ∙ and-true (boundary K c x)
      at x (inr e) = ap (λ b. b && is_outside K [] x) e ∙ sym e

  pub least-positive : (x : ℕ) → is_relatively_positive K [] x ≡ is_positive K x
  least-positive x = same-test (is_relatively_positive K [] x) (is_positive K x)
      (λ e.
      let P : IsRelativelyPositive K [] x = (positive-true K [] x e).0 in
      is_positive-holds K k x (record {
        cycle = P.cycle;
        is_cycle = record { chain = P.is_cycle.chain.chain; closed = sym (least-boundary P.cycle) ∙ P.is_cycle.closed };
        latest = P.latest;
      }))
      (λ e.
      let P : IsPositive K x = (is_positive-true K k x e).0 in
      positive-holds K [] x (record {
        cycle = P.cycle;
        is_cycle = record { chain = free (dim K x) P.cycle P.is_cycle.chain; closed = least-boundary P.cycle ∙ P.is_cycle.closed };
        latest = P.latest;
      }))

  pub least-bounding : (x : ℕ) → is_relatively_bounding K [] x ≡ is_bounding K x
  least-bounding x = same-test (is_relatively_bounding K [] x) (is_bounding K x)
      (λ e.
      let B : IsRelativelyBounding K [] x = (bounding-true K [] x e).0 in
      let F = B.is_boundary in
      is_bounding-holds K k x (record {
        bound = B.bound;
        is_boundary = record { filling = F.filling; chain = F.chain.chain; is = F.is ∙ least-boundary F.filling };
        latest = B.latest;
      }))
      (λ e.
      let B : IsBounding K x = (is_bounding-true K k x e).0 in
      let F = B.is_boundary in
      bounding-holds K [] x (record {
        bound = B.bound;
        is_boundary = record { filling = F.filling; chain = free (dim K x + 1) F.filling F.chain; is = F.is ∙ sym (least-boundary F.filling) };
        latest = B.latest;
      }))

  pub least-betti : (p : ℕ) → relative_betti K [] p ≡ betti K p
  least-betti p = count-same (is_relatively_essential K []) (is_essential K) (ids K p)
      (λ x. λ i. least-positive x i && not (least-bounding x i))

pub greatest-betti : (K : Complex) (p : ℕ) → relative_betti K K p ≡ 0
greatest-betti K p = count-same (is_relatively_essential K K) (λ _. false) (ids K p) (λ x. false_from_ne_true (is_relatively_essential K K x) (λ e.
    let positive = (and_parts (is_relatively_positive K K x) (not (is_relatively_bounding K K x)) e).0 in
    let out = outside-parts K K x (positive-true K K x positive).1 in
    true≢false (sym (id-there K x out.0) ∙ out.1))) ∙ count-none (ids K p)
