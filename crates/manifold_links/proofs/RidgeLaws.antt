-- A simplex of one dimension less than that of the complex lies in as many simplices of that dimension as it has covered cofaces.
--     filter-twice       what passes two tests on a run of numbers
--     times-counted      the number
use Rattle.std.proofs.Common.{◌≡◌, ℕ, zero, suc, ◌+◌, ◌-◌, ◌<◌, ◌≤◌, Bool, true, false, cond, ◌&&◌, List, ◌∷◌, length, nat_eq, refl, sym, ap, subst, ◌∙◌, arith, eqb-true, eq-eqb}
use Rattle.std.specs.Prelude.{count_by}
use Rattle.std.specs.List.{filter, range_with_len}
use Rattle.std.proofs.lemmas.Bool.{and_parts, and_from}
use Rattle.std.proofs.lemmas.List.Sums.{length-filter}
use Rattle.homology.specs.Complexes.{Complex, IsComplex, dim, simplex_at, incidence}
use Rattle.homology.proofs.KindSteps.{tests-same}
use Rattle.homology.proofs.BoundaryLaws.{FaceAt-incidence, incidence-dim}
use Rattle.homology.proofs.FaceLists.{Picks, Picks-self, Picks-remove}
use Rattle.manifolds.specs.Closed.{top, lies_in, times}
use Rattle.manifolds.proofs.LyingLaws.{picks-lies}
use Rattle.manifold_links.specs.Counts.{cofaces_from}
use Rattle.manifold_links.specs.Covers.{is_covered}
use Rattle.manifold_links.proofs.CoverLaws.{lying-picks, picks-incidence, covered-top}

pub filter-twice : (p q r : ℕ → Bool) (a n : ℕ) → ((t : ℕ) → a ≤ t → t < a + n → (p t && q t) ≡ r t)
    → filter q (filter p (range_with_len a n)) ≡ filter r (range_with_len a n)
filter-twice p q r a zero h = refl
filter-twice p q r a (suc n) h =
    by (p a) (q a) (r a) (filter p (range_with_len (a + 1) n)) (filter r (range_with_len (a + 1) n)) refl refl (h a (omega arith) (omega arith))
    (filter-twice p q r (a + 1) n (λ t le lt. h t (omega (arith, le)) (omega (arith, lt))))
  where
    by : (x y z : Bool) (ps rs : List ℕ) → p a ≡ x → q a ≡ y → (x && y) ≡ z → filter q ps ≡ rs
        → filter q (cond x (a ∷ ps) ps) ≡ cond z (a ∷ rs) rs
    by true true z ps rs P Q e rest = ap (λ b. cond b (a ∷ filter q ps) (filter q ps)) Q ∙ ap (λ l. a ∷ l) rest ∙ ap (λ b. cond b (a ∷ rs) rs) e
    by true false z ps rs P Q e rest = ap (λ b. cond b (a ∷ filter q ps) (filter q ps)) Q ∙ rest ∙ ap (λ b. cond b (a ∷ rs) rs) e
    by false y z ps rs P Q e rest = rest ∙ ap (λ b. cond b (a ∷ rs) rs) e

pub times-counted : (K : Complex) → IsComplex K → (x : ℕ) → x < length K → dim K x + 1 ≡ top K → cofaces_from K (is_covered K) 0 x ≡ times K (simplex_at K x)
times-counted K c x h d =
    let all : length K - 0 ≡ length K = omega arith in
    ap (λ n. count_by counts (range_with_len 0 n)) all
    ∙ sym (length-filter counts (range_with_len 0 (length K)))
    ∙ ap length (sym (filter-twice (λ t. nat_eq (dim K t) (top K)) (λ t. lies_in (simplex_at K x) (simplex_at K t)) counts 0 (length K)
    (λ t le lt. tests-same (nat_eq (dim K t) (top K) && lies_in (simplex_at K x) (simplex_at K t)) (counts t) (there t lt) (back t lt))))
  where
    counts : ℕ → Bool
    counts t = incidence K x t && is_covered K t

    there : (t : ℕ) → t < 0 + length K → (nat_eq (dim K t) (top K) && lies_in (simplex_at K x) (simplex_at K t)) ≡ true → counts t ≡ true
    there t lt e =
        let both = and_parts (nat_eq (dim K t) (top K)) (lies_in (simplex_at K x) (simplex_at K t)) e in
        let below : t < length K = omega (arith, lt) in
        let high : dim K t ≡ top K = eqb-true (dim K t) (top K) both.0 in
        and_from (incidence K x t) (is_covered K t)
        (picks-incidence K c x t h below (lying-picks K c x t h below both.1) (omega (arith, high, d, (c.simplices x h).nonempty, (c.simplices t below).nonempty)))
        (covered-top K t below (omega (arith, high, d, (c.simplices t below).nonempty)))

    back : (t : ℕ) → t < 0 + length K → counts t ≡ true → (nat_eq (dim K t) (top K) && lies_in (simplex_at K x) (simplex_at K t)) ≡ true
    back t lt m =
        let below : t < length K = omega (arith, lt) in
        let e : incidence K x t ≡ true = (and_parts (incidence K x t) (is_covered K t) m).0 in
        let face = FaceAt-incidence K x t e in
        and_from (nat_eq (dim K t) (top K)) (lies_in (simplex_at K x) (simplex_at K t))
        (eq-eqb (dim K t) (top K) (incidence-dim K c x t below e ∙ d))
        (picks-lies (simplex_at K x) (simplex_at K t)
        (subst (λ (l : List ℕ). Picks l (simplex_at K t)) (sym face.is) (Picks-remove (simplex_at K t) (simplex_at K t) face.place (Picks-self (simplex_at K t)))))
