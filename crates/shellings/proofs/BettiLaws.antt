-- Betti numbers from cocycles.
--     betti-none       where each cocycle of degree p is a coboundary, the Betti number is zero
--     vertices         the set of all vertices is a cocycle
--     betti-one        where each cocycle of degree 0 has one value at all vertices, and there is one, the Betti number of degree 0 is one
use Rattle.std.proofs.Common.{◌≡◌, ℕ, ◌<◌, ◌≤◌, Bool, true, false, ◌&&◌, ◌||◌, List, [], ◌∷◌, length, nat_eq, nat_lt, refl, sym, ap, ◌∙◌, arith, eqb-true, eq-eqb, lt-ltb, ltb-true, ⊎_elim}
use Rattle.std.specs.List.{remove}
use Rattle.std.proofs.lemmas.Bool.{true≢false, and_parts, cases_lt}
use Rattle.std.proofs.lemmas.List.Edits.{length-remove}
use Rattle.homology.specs.Sets.{Ids, set_of}
use Rattle.homology.specs.Complexes.{Complex, IsComplex, simplex_at, HasFace}
use Rattle.homology.specs.Chains.{IsCocycle, IsCoboundary, coboundary}
use Rattle.homology.specs.Contractions.{cycle_of}
use Rattle.homology.specs.Kinds.{betti}
use Rattle.homology.proofs.ParityLaws.{nat_eq-apart, odd-none}
use Rattle.homology.proofs.FaceLists.{Picks, Picks-self}
use Rattle.homology.proofs.ListSetLaws.{set_of-All}
use Rattle.factors.proofs.Existence.{contraction-exists}
use Rattle.cohomology.specs.Classes.{IsClass, essential_at, canonical, class_of, IsCanonical}
use Rattle.cohomology.proofs.Naming.{essential-at, simplices_of-at}
use Rattle.cohomology.proofs.Canonicals.{canonical-found}
use Rattle.cohomology.proofs.ClassLaws.{class-found, class_of-canonical, class-zero, class-bounds}
use Rattle.products.specs.Products.{value_at}
use Rattle.products.proofs.SplittingLaws.{delta}
use Rattle.products.proofs.ValueLaws.{Found, value_at-there, value_at-empty, picks-found, value_at-coboundary, delta-odd}
use Rattle.shellings.proofs.FaceLaws.{delta-same}

-- the word of one class
pub one-class : (L : Complex) (p k : ℕ) → k < betti L p → IsClass L p (k ∷ [])
one-class L p k lt = record {
  ascending = λ i h. absurd (omega (arith, h));
  numbers = set_of-All (λ q. q < betti L p) (k ∷ []) (λ q m. omega (arith, lt, eqb-true q k (only (nat_eq q k) m)));
}
  where
    only : (b : Bool) → (b || false) ≡ true → b ≡ true
    only true e = refl
    only false e = e

module _ (L : Complex) (c : IsComplex L) where
  canonical-is : (p : ℕ) (w : List ℕ) → IsClass L p w → IsCanonical L p w (set_of (canonical L p w))
  canonical-is p w W =
      let H = contraction-exists L c in
      (canonical-found L c H.f (cycle_of L H.phi) H.phi H.is p w W).0

  pub betti-none : (p : ℕ) → ((b : Ids) → IsCocycle L p b → IsCoboundary L p b) → betti L p ≡ 0
  betti-none p bounds = ⊎_elim
      (λ (some : 0 < betti L p).
      let H = contraction-exists L c in
      let W : IsClass L p (0 ∷ []) = one-class L p 0 some in
      let a : Ids = set_of (canonical L p (0 ∷ [])) in
      let A : IsCocycle L p a = (canonical-is p (0 ∷ []) W).cocycle in
      let same : (0 ∷ []) ≡ [] =
      sym (class_of-canonical L c H.f (cycle_of L H.phi) H.phi H.is p (0 ∷ []) W)
      ∙ class-zero L c H.f (cycle_of L H.phi) H.phi H.is p a A (bounds a A) in
      absurd (omega (arith, ap length same)))
      (λ (none : betti L p ≤ 0). omega arith)
      (cases_lt 0 (betti L p))

  abbrev vertices : Ids
  vertices x = nat_lt x (length L) && nat_eq (length (simplex_at L x)) 1

  vertices-at : (x : ℕ) (s : List ℕ) → x < length L → Picks s (simplex_at L x) → value_at L vertices s ≡ nat_eq (length s) 1
  vertices-at x [] lt P = value_at-empty L c vertices
  vertices-at x (v ∷ s) lt P =
      let f : Found L (v ∷ s) = picks-found L c x (v ∷ s) lt P (omega arith) in
      ap (value_at L vertices) (sym f.is)
      ∙ value_at-there L c vertices f.id f.within
      ∙ ap (λ z. z && nat_eq (length (simplex_at L f.id)) 1) (lt-ltb f.id (length L) f.within)
      ∙ ap (λ z. nat_eq (length z) 1) f.is

  -- an edge has two, and no other simplex has a face of that dimension
  vertices-even : (s : List ℕ) → delta (λ z. nat_eq (length z) 1) s ≡ false
  vertices-even [] = refl
  vertices-even (u ∷ []) = refl
  vertices-even (u ∷ v ∷ []) = refl
  vertices-even (u ∷ v ∷ w ∷ s) =
      delta-odd (λ z. nat_eq (length z) 1) (u ∷ v ∷ w ∷ s)
      ∙ odd-none (length (u ∷ v ∷ w ∷ s)) _ (λ k lt.
      nat_eq-apart (length (remove (u ∷ v ∷ w ∷ s) k)) 1 (λ e. omega (arith, e, length-remove (u ∷ v ∷ w ∷ s) k lt)))

  vertices-cocycle : IsCocycle L 0 vertices
  vertices-cocycle = record {
    cochain = record {
      there = λ x e. ltb-true x (length L) (and_parts (nat_lt x (length L)) (nat_eq (length (simplex_at L x)) 1) e).0;
      degree = λ x e. omega (arith, eqb-true (length (simplex_at L x)) 1 (and_parts (nat_lt x (length L)) (nat_eq (length (simplex_at L x)) 1) e).1);
    };
    closed = λ x lt.
        sym (value_at-there L c (coboundary L vertices) x lt)
        ∙ value_at-coboundary L c vertices x (simplex_at L x) lt (Picks-self (simplex_at L x))
        ∙ delta-same (value_at L vertices) (λ z. nat_eq (length z) 1) (simplex_at L x) (λ z P. vertices-at x z lt P)
        ∙ vertices-even (simplex_at L x);
  }

  -- the first simplex is a vertex
  first-vertex : 0 < length L → length (simplex_at L 0) ≡ 1
  first-vertex some = ⊎_elim
      (λ (wide : 1 < length (simplex_at L 0)).
      let face : HasFace L 0 0 = c.closed 0 0 some wide (omega (arith, wide)) in absurd (omega (arith, face.earlier)))
      (λ (le : length (simplex_at L 0) ≤ 1). omega (arith, le, (c.simplices 0 some).nonempty))
      (cases_lt 1 (length (simplex_at L 0)))

  -- so some class has degree 0
  betti-some : 0 < length L → 0 < betti L 0
  betti-some some = ⊎_elim
      (λ (positive : 0 < betti L 0). positive)
      (λ (none : betti L 0 ≤ 0).
      let H = contraction-exists L c in
      let W : IsClass L 0 (class_of L 0 vertices) = (class-found L c H.f (cycle_of L H.phi) H.phi H.is 0 vertices vertices-cocycle).0 in
      let bound : IsCoboundary L 0 vertices =
      class-bounds L c H.f (cycle_of L H.phi) H.phi H.is 0 vertices vertices-cocycle (no-number (class_of L 0 vertices) W none) in
      absurd (true≢false (sym (λ i. lt-ltb 0 (length L) some i && eq-eqb (length (simplex_at L 0)) 1 (first-vertex some) i) ∙ ap (λ z. z 0) bound)))
      (cases_lt 0 (betti L 0))
    where
      no-number : (w : List ℕ) → IsClass L 0 w → betti L 0 ≤ 0 → w ≡ []
      no-number [] W le = refl
      no-number (k ∷ w) W le = absurd (omega (arith, le, W.numbers 0 0 (omega arith)))

  pub betti-one : 0 < length L
      → ((b : Ids) → IsCocycle L 0 b → (x y : ℕ) → x < length L → y < length L → length (simplex_at L x) ≡ 1 → length (simplex_at L y) ≡ 1 → b x ≡ b y)
      → betti L 0 ≡ 1
  betti-one some constant = ⊎_elim
      (λ (more : 1 < betti L 0). absurd (clash more))
      (λ (le : betti L 0 ≤ 1). omega (arith, le, betti-some some))
      (cases_lt 1 (betti L 0))
    where
      vertex : (k : ℕ) → k < betti L 0 → length (simplex_at L (essential_at L 0 k)) ≡ 1
      vertex k lt =
          let e = essential-at L 0 k lt in
          omega (arith, e.2, (c.simplices (essential_at L 0 k) e.1).nonempty)

      clash : 1 < betti L 0 → ⊥
      clash more =
          let zero_in : 0 < betti L 0 = omega (arith, more) in
          let W : IsClass L 0 (0 ∷ []) = one-class L 0 0 zero_in in
          let C : IsCanonical L 0 (0 ∷ []) (set_of (canonical L 0 (0 ∷ []))) = canonical-is 0 (0 ∷ []) W in
          let here : set_of (canonical L 0 (0 ∷ [])) (essential_at L 0 0) ≡ true =
          C.essential (essential_at L 0 0) (essential-at L 0 0 zero_in).0 ∙ simplices_of-at L 0 (0 ∷ []) W.numbers 0 zero_in in
          let there : set_of (canonical L 0 (0 ∷ [])) (essential_at L 0 1) ≡ false =
          C.essential (essential_at L 0 1) (essential-at L 0 1 more).0 ∙ simplices_of-at L 0 (0 ∷ []) W.numbers 1 more in
          true≢false
          (sym here
          ∙ constant (set_of (canonical L 0 (0 ∷ []))) C.cocycle (essential_at L 0 0) (essential_at L 0 1)
          (essential-at L 0 0 zero_in).1 (essential-at L 0 1 more).1 (vertex 0 zero_in) (vertex 1 more)
          ∙ there)
