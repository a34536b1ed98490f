-- The open star of a simplex x.
--     above-parts, above-from       they have its vertices, and more
--     above-within                  they are in the complex
--     coface-above, above-coface    cofaces of x are in it, and so are those of its members
--     above-reached                 a set with the cofaces of x, and with those of its members, has all of them
--     coface-in, in-coface          a coface is listed
use Rattle.std.proofs.Common.{◌≡◌, ℕ, zero, suc, ◌+◌, ◌<◌, ◌≤◌, true, List, length, nat_lt, sym, subst, arith, ltb-true, lt-ltb, ⊎_elim}
use Rattle.std.proofs.lemmas.Bool.{and_parts, and_from, cases_lt}
use Rattle.homology.specs.Sets.{Ids, set_of}
use Rattle.homology.specs.Complexes.{Complex, IsComplex, incidence, simplex_at}
use Rattle.homology.proofs.BoundaryLaws.{FaceAt-incidence, FaceAt-length, simplex_at-within}
use Rattle.homology.proofs.FaceLists.{Picks, Picks-self, Picks-remove}
use Rattle.complex_store.specs.Cofaces.{cofaces}
use Rattle.manifolds.specs.Closed.{lies_in}
use Rattle.manifolds.proofs.LyingLaws.{picks-lies, picks-through}
use Rattle.manifold_links.specs.Collapses.{is_above}
use Rattle.manifold_links.proofs.CoverLaws.{lying-picks, picks-incidence, coface-below}
use Rattle.manifold_links.proofs.StarLaws.{run-in, run-holds}

pub above-parts : (K : Complex) (x y : ℕ) → is_above K x y ≡ true → (length (simplex_at K x) < length (simplex_at K y)) × (lies_in (simplex_at K x) (simplex_at K y) ≡ true)
above-parts K x y e =
    let both = and_parts (nat_lt (length (simplex_at K x)) (length (simplex_at K y))) (lies_in (simplex_at K x) (simplex_at K y)) e in
    (ltb-true (length (simplex_at K x)) (length (simplex_at K y)) both.0, both.1)

pub above-from : (K : Complex) (x y : ℕ) → length (simplex_at K x) < length (simplex_at K y) → lies_in (simplex_at K x) (simplex_at K y) ≡ true → is_above K x y ≡ true
above-from K x y lt e =
    and_from (nat_lt (length (simplex_at K x)) (length (simplex_at K y))) (lies_in (simplex_at K x) (simplex_at K y))
    (lt-ltb (length (simplex_at K x)) (length (simplex_at K y)) lt) e

pub above-within : (K : Complex) (x y : ℕ) → is_above K x y ≡ true → y < length K
above-within K x y e = simplex_at-within K y (omega (arith, (above-parts K x y e).0))

pub coface-in : (K : Complex) (x t : ℕ) → set_of (cofaces K x) t ≡ true → (t < length K) × (incidence K x t ≡ true)
coface-in K x t e = run-in (incidence K x) (length K) t e

pub in-coface : (K : Complex) (x t : ℕ) → t < length K → incidence K x t ≡ true → set_of (cofaces K x) t ≡ true
in-coface K x t h e = run-holds (incidence K x) (length K) t h e

-- a face is a simplex with a vertex left out
face-picks : (K : Complex) (x t : ℕ) → incidence K x t ≡ true → Picks (simplex_at K x) (simplex_at K t)
face-picks K x t e =
    let face = FaceAt-incidence K x t e in
    subst (λ (l : List ℕ). Picks l (simplex_at K t)) (sym face.is) (Picks-remove (simplex_at K t) (simplex_at K t) face.place (Picks-self (simplex_at K t)))

pub coface-above : (K : Complex) (x t : ℕ) → incidence K x t ≡ true → is_above K x t ≡ true
coface-above K x t e =
    above-from K x t (omega (arith, FaceAt-length (FaceAt-incidence K x t e))) (picks-lies (simplex_at K x) (simplex_at K t) (face-picks K x t e))

pub above-coface : (K : Complex) → IsComplex K → (x u t : ℕ) → x < length K → is_above K x u ≡ true → incidence K u t ≡ true → is_above K x t ≡ true
above-coface K c x u t h over e =
    let parts = above-parts K x u over in
    above-from K x t (omega (arith, parts.0, FaceAt-length (FaceAt-incidence K u t e)))
    (picks-lies (simplex_at K x) (simplex_at K t)
    (picks-through (simplex_at K x) (simplex_at K u) (simplex_at K t) (lying-picks K c x u h (above-within K x u over) parts.1) (face-picks K u t e)))

module _ (K : Complex) (c : IsComplex K) (m : Ids) (up : (z t : ℕ) → m z ≡ true → t < length K → incidence K z t ≡ true → m t ≡ true) where
  reached : (d x y : ℕ) → x < length K → y < length K → Picks (simplex_at K x) (simplex_at K y) → length (simplex_at K x) < length (simplex_at K y)
      → length (simplex_at K y) ≤ length (simplex_at K x) + 1 + d → ((t : ℕ) → t < length K → incidence K x t ≡ true → m t ≡ true) → m y ≡ true
  reached zero x y h q p less most first = first y q (picks-incidence K c x y h q p (omega (arith, less, most)))
  reached (suc d) x y h q p less most first = ⊎_elim
      (λ (more : length (simplex_at K x) + 1 < length (simplex_at K y)).
      let by = coface-below (suc d) K c x y h q p less most in
      let long = FaceAt-length (FaceAt-incidence K x by.id by.above) in
      reached d by.id y by.there q by.picks (omega (arith, long, more)) (omega (arith, long, most)) (λ t th e. up by.id t (first by.id by.there by.above) th e))
      (λ (le : length (simplex_at K y) ≤ length (simplex_at K x) + 1). first y q (picks-incidence K c x y h q p (omega (arith, less, le))))
      (cases_lt (length (simplex_at K x) + 1) (length (simplex_at K y)))

  pub above-reached : (x y : ℕ) → x < length K → ((t : ℕ) → t < length K → incidence K x t ≡ true → m t ≡ true) → is_above K x y ≡ true → m y ≡ true
  above-reached x y h first e =
      let parts = above-parts K x y e in
      let q = above-within K x y e in
      reached (length (simplex_at K y)) x y h q (lying-picks K c x y h q parts.1) parts.0 (omega arith) first
