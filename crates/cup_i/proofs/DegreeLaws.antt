-- Where a product is zero.
--     cup-chain       a product is a cochain of its degree
--     cup-first, cup-second     it is zero where the index passes one of the degrees
--     cup-nowhere     and where the complex has no simplices of its degree
use Rattle.std.proofs.Common.{◌≡◌, ℕ, ◌+◌, ◌-◌, ◌<◌, true, List, [], ◌∷◌, length, sym, ◌∙◌, arith}
use Rattle.std.proofs.lemmas.Bool.{true≢false, false_from_ne_true}
use Rattle.homology.specs.Sets.{Ids, empty, set_of}
use Rattle.homology.specs.Complexes.{Complex, IsComplex, simplex_at, dim}
use Rattle.homology.specs.Chains.{IsChain}
use Rattle.homology.specs.Kinds.{ids}
use Rattle.homology.proofs.KindLaws.{set_of-ids_holds}
use Rattle.homology.proofs.SetLaws.{same_members}
use Rattle.products.specs.Products.{cup, value_at}
use Rattle.products.proofs.CoboundaryLaw.{cup-degree}
use Rattle.cup_i.proofs.FactorLaws.{value-other}
use Rattle.cup_i.proofs.SplitSums.{split_sum-first, split_sum-second, split_sum-cup}

module _ (K : Complex) (ok : IsComplex K) (i p q : ℕ) (a b : Ids) (A : IsChain K p a) (B : IsChain K q b) where
  pub cup-chain : IsChain K (p + q - i) (cup K i a b)
  cup-chain = record {
    there = λ x e. (cup-degree K ok i p q a b A B x e).0;
    degree = λ x e. omega (arith, (cup-degree K ok i p q a b A B x e).1);
  }

  pub cup-first : p < i → cup K i a b ≡ empty
  cup-first less = same_members (cup K i a b) empty (λ x. false_from_ne_true (cup K i a b x) (λ e.
      let known : (x < length K) × (dim K x + i ≡ p + q) = cup-degree K ok i p q a b A B x e in
      true≢false (sym e ∙ split_sum-cup K i a b x ∙ split_sum-second (i + 1) (value_at K a) (value_at K b) (simplex_at K x)
      (λ s le. value-other K ok q b B s (λ long. omega (arith, known.1, (ok.simplices x known.0).nonempty, le, long, less))))))

  pub cup-second : q < i → cup K i a b ≡ empty
  cup-second less = same_members (cup K i a b) empty (λ x. false_from_ne_true (cup K i a b x) (λ e.
      let known : (x < length K) × (dim K x + i ≡ p + q) = cup-degree K ok i p q a b A B x e in
      true≢false (sym e ∙ split_sum-cup K i a b x ∙ split_sum-first (i + 1) (value_at K a) (value_at K b) (simplex_at K x)
      (λ s le. value-other K ok p a A s (λ long. omega (arith, known.1, (ok.simplices x known.0).nonempty, le, long, less))))))

  pub cup-nowhere : (d : ℕ) → d ≡ p + q - i → length (ids K d) ≡ 0 → cup K i a b ≡ empty
  cup-nowhere d is none = same_members (cup K i a b) empty (λ x. false_from_ne_true (cup K i a b x) (λ e.
      let known : (x < length K) × (dim K x + i ≡ p + q) = cup-degree K ok i p q a b A B x e in
      no-member (ids K d) x none (set_of-ids_holds K d x known.0 (omega (arith, known.1, is)))))
    where
      no-member : (xs : List ℕ) (x : ℕ) → length xs ≡ 0 → set_of xs x ≡ true → ⊥
      no-member [] x n e = true≢false (sym e)
      no-member (y ∷ xs) x n e = omega (arith, n)
