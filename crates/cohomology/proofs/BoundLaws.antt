-- Canonical bounds: exactly one candidate passes.
--     bound-one          two canonical bounds of a coboundary are equal
--     bound-found        the one that is found is one
--     bound-values       its value at y is that of the coboundary at phi y
use Rattle.std.proofs.Common.{◌≡◌, ℕ, zero, suc, ◌<◌, Bool, true, false, ◌&&◌, ◌||◌, ◌⊎◌, inl, inr, [], length, refl, sym, ap, ◌∙◌, subst, add-one}
use Rattle.std.specs.List.Sorted.{IsStrictlyIncreasing}
use Rattle.std.proofs.lemmas.Bool.{and_parts, and_from, cases_Bool}
use Rattle.homology.specs.Parity.{xor}
use Rattle.homology.specs.Sets.{Ids, empty, plus, set_of, evaluate, image}
use Rattle.homology.specs.Complexes.{Complex, IsComplex}
use Rattle.homology.specs.Chains.{IsChain, IsCocycle, IsCoboundary, boundary_of, boundary, coboundary}
use Rattle.homology.specs.Kinds.{chains, is_empty, is_negative, is_essential}
use Rattle.homology.specs.Contractions.{IsContraction}
use Rattle.homology.proofs.ParityLaws.{xor-self, and-false, odd-none}
use Rattle.homology.proofs.SetLaws.{plus-cancels, image-image, image-none}
use Rattle.homology.proofs.BoundaryLaws.{boundary-boundary_of}
use Rattle.homology.proofs.KindLaws.{ChainWith}
use Rattle.homology.proofs.ContractionFacts.{plus-chain, essential-below, negative-below}
use Rattle.homology.proofs.Uniqueness.{cocycle-empty}
use Rattle.cohomology.specs.Searches.{first}
use Rattle.cohomology.specs.Classes.{IsCanonicalBound, canonical_bound}
use Rattle.cohomology.proofs.Searching.{FirstChain, first-chain}
use Rattle.cohomology.proofs.Cocycles.{coboundary-plus, coboundary-at_cycle, rows-at, at_cycles, at_cycles-row, pulled, pulled-at, pulled-chain, pulled-essential, pulled-negative, coboundary-pulled}
use Rattle.cohomology.proofs.Canonicals.{none-below, is_empty-below, xor-none}

-- two canonical bounds of a coboundary
pub bound-one : (K : Complex) → IsComplex K → (p : ℕ) (e u v : Ids) → IsCanonicalBound K p e u → IsCanonicalBound K p e v → u ≡ v
bound-one K ok p e u v U V = plus-cancels u v (cocycle-empty K ok p (plus u v) cocycle
    (λ t h. λ i. xor (U.negative t h i) (V.negative t h i))
    (λ t h. λ i. xor (U.essential t h i) (V.essential t h i)))
  where
    cocycle : IsCocycle K p (plus u v)
    cocycle = record {
      cochain = plus-chain K p u v U.chain V.chain;
      closed = λ x lt. ap (λ z. z x) (coboundary-plus K u v) ∙ (λ i. xor (U.bounds x lt i) (V.bounds x lt i)) ∙ xor-self (e x);
    }

-- a coboundary is a cocycle
pub coboundary-cocycle : (K : Complex) → IsComplex K → (p : ℕ) (e : Ids) → IsChain K p e → IsCoboundary K p e → IsCocycle K p e
coboundary-cocycle K ok p e chain is = record {
  cochain = chain;
  closed = λ x lt. coboundary-at_cycle K p e (boundary_of K x) is (boundary-boundary_of K ok x lt);
}

-- what the search tests
abbrev pub bounds_at : Complex → Ids → Ids → Bool
bounds_at K e u = is_empty (length K) (plus e (coboundary K u)) && is_empty (length K) (λ t. (is_essential K t || is_negative K t) && u t)

canonical_bound-is : (K : Complex) (p : ℕ) (e : Ids) → canonical_bound K (suc p) e ≡ first (λ u. bounds_at K e (set_of u)) (chains K p)
unfolding canonical_bound
canonical_bound-is K p e = refl

pub canonical_bound-zero : (K : Complex) (e : Ids) → canonical_bound K 0 e ≡ []
unfolding canonical_bound
canonical_bound-zero K e = refl

xor-swap : (a b : Bool) → xor a b ≡ false → b ≡ a
xor-swap a b e = sym (xor-none a b e)

tests-bound : (K : Complex) → IsComplex K → (p : ℕ) (e u : Ids) → IsChain K p u → bounds_at K e u ≡ true → IsCanonicalBound K p e u
tests-bound K ok p e u chain t =
    let both = and_parts (is_empty (length K) (plus e (coboundary K u))) (is_empty (length K) (λ t. (is_essential K t || is_negative K t) && u t)) t in
    let zeros = none-below (length K) (λ t. (is_essential K t || is_negative K t) && u t) both.1 in
    record {
      chain = chain;
      bounds = λ x lt. xor-swap (e x) (coboundary K u x) (none-below (length K) (plus e (coboundary K u)) both.0 x lt);
      essential = λ t h. sym (ap (λ b. (b || is_negative K t) && u t) h) ∙ zeros t (essential-below K ok t h);
      negative = λ t h. sym (at (is_essential K t) (u t) (is_negative K t) h) ∙ zeros t (negative-below K t h);
    }
  where
    at : (x y z : Bool) → z ≡ true → ((x || z) && y) ≡ y
    at true y z h = refl
    at false y z h = ap (λ b. b && y) h

bound-tests : (K : Complex) (p : ℕ) (e u : Ids) → IsCanonicalBound K p e u → bounds_at K e u ≡ true
bound-tests K p e u U = and_from (is_empty (length K) (plus e (coboundary K u))) (is_empty (length K) (λ t. (is_essential K t || is_negative K t) && u t))
    (is_empty-below (length K) (plus e (coboundary K u)) (λ x lt. ap (xor (e x)) (U.bounds x lt) ∙ xor-self (e x)))
    (is_empty-below (length K) (λ t. (is_essential K t || is_negative K t) && u t) (λ t _. at t (cases_Bool (is_essential K t)) (cases_Bool (is_negative K t))))
  where
    at : (t : ℕ) → (is_essential K t ≡ true) ⊎ (is_essential K t ≡ false) → (is_negative K t ≡ true) ⊎ (is_negative K t ≡ false)
        → ((is_essential K t || is_negative K t) && u t) ≡ false
    at t (inl h) _ = ap (λ b. (is_essential K t || is_negative K t) && b) (U.essential t h) ∙ and-false (is_essential K t || is_negative K t)
    at t (inr _) (inl h) = ap (λ b. (is_essential K t || is_negative K t) && b) (U.negative t h) ∙ and-false (is_essential K t || is_negative K t)
    at t (inr x) (inr y) = λ i. (x i || y i) && u t

module _ (K : Complex) (ok : IsComplex K) (f g phi : ℕ → Ids) (C : IsContraction K f g phi) where
  abbrev n : ℕ
  n = length K

  -- g f x has empty boundary
  g_f-closed : (x : ℕ) → x < n → boundary K (image n g (f x)) ≡ empty
  g_f-closed x lt = image-image n n (boundary_of K) g (f x) ∙ image-none n _ (f x) (λ h _ m. C.boundary_g h (C.f_values x h lt m))

  pulled-bound : (p : ℕ) (e : Ids) → IsChain K (suc p) e → IsCoboundary K (suc p) e → IsCanonicalBound K p e (pulled K ok f g phi C e)
  pulled-bound p e chain is = record {
    chain = pulled-chain K ok f g phi C p e (subst (λ q. IsChain K q e) (sym (add-one p)) chain);
    bounds = λ x lt. xor-swap (e x) (coboundary K (pulled K ok f g phi C e) x)
        (coboundary-pulled K ok f g phi C (suc p) e (coboundary-cocycle K ok (suc p) e chain is) x lt
        ∙ rows-at K ok f g phi C (at_cycles K ok f g phi C e) x lt
        ∙ at_cycles-row K ok f g phi C e x lt
        ∙ coboundary-at_cycle K (suc p) e (image n g (f x)) is (g_f-closed x lt));
    essential = pulled-essential K ok f g phi C e;
    negative = pulled-negative K ok f g phi C e;
  }

  pub bound-found : (p : ℕ) (e : Ids) → IsChain K (suc p) e → IsCoboundary K (suc p) e
      → IsCanonicalBound K p e (set_of (canonical_bound K (suc p) e)) × IsStrictlyIncreasing (canonical_bound K (suc p) e)
  bound-found p e chain is =
      subst (λ u. IsCanonicalBound K p e (set_of u) × IsStrictlyIncreasing u) (sym (canonical_bound-is K p e)) (at (first-chain K p (bounds_at K e) candidate))
    where
      candidate : ChainWith K p (bounds_at K e)
      candidate =
          let U = pulled-bound p e chain is in
          record { set = pulled K ok f g phi C e; chain = U.chain; passes = bound-tests K p e (pulled K ok f g phi C e) U }

      at : FirstChain K p (bounds_at K e) (first (λ u. bounds_at K e (set_of u)) (chains K p))
          → IsCanonicalBound K p e (set_of (first (λ u. bounds_at K e (set_of u)) (chains K p))) × IsStrictlyIncreasing (first (λ u. bounds_at K e (set_of u)) (chains K p))
      at F = (tests-bound K ok p e (set_of (first (λ u. bounds_at K e (set_of u)) (chains K p))) F.chain F.passes, F.ascending)

  -- in degree 0 both are empty
  pub bound-values : (p : ℕ) (e : Ids) → IsChain K p e → IsCoboundary K p e → (y : ℕ) → y < n → set_of (canonical_bound K p e) y ≡ evaluate n e (phi y)
  bound-values zero e chain is y lt = ap (λ c. set_of c y) (canonical_bound-zero K e) ∙ sym (odd-none n _ (λ t _. ap (λ z. z t && phi y t) is))
  bound-values (suc p) e chain is y lt =
      ap (λ z. z y) (bound-one K ok p e (set_of (canonical_bound K (suc p) e)) (pulled K ok f g phi C e) (bound-found p e chain is).0 (pulled-bound p e chain is))
      ∙ pulled-at K ok f g phi C e y lt
