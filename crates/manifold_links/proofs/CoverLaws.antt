-- Which simplices lie in one of the dimension of the complex: those of this dimension, and the faces of those that do.
--     covering, covered-from      such a one is found, and found again
--     picks-incidence             a simplex that lies in one with one vertex more is its face
--     coface-below                between a simplex and a greater one that it lies in stands a coface of the first
--     covered-top, covered-face, covered-coface
--                                 the simplices of the dimension of the complex, the faces of covered ones, and a coface of each other
--     uncovered-none              none that is not, from the end on
--     due                         so a simplex is covered where it has the dimension of the complex or some coface is covered
use Rattle.std.proofs.Common.{◌≡◌, ◌≢◌, ℕ, zero, suc, ◌+◌, ◌-◌, ◌<◌, ◌≤◌, Bool, true, not, None, ◌&&◌, ◌||◌, List, [], ◌∷◌, length, nat_eq, sym, ap, subst, ◌∙◌, arith, eqb-true, eq-eqb, ⊎_elim}
use Rattle.std.specs.List.{filter, range_with_len, remove}
use Rattle.std.proofs.lemmas.Bool.{true≢false, and_parts, or_cases, or_left, or_right, cases_eq, cases_lt}
use Rattle.std.proofs.lemmas.List.Edits.{length-remove}
use Rattle.homology.specs.Sets.{set_of}
use Rattle.homology.specs.Complexes.{Complex, IsComplex, HasFace, dim, dimensions, simplex_at, incidence}
use Rattle.homology.specs.Kinds.{ids}
use Rattle.homology.proofs.ParityLaws.{nat_eq-self, nat_eq-apart}
use Rattle.homology.proofs.KindSteps.{tests-same}
use Rattle.homology.proofs.KindLaws.{set_of-filter, set_of-ids, set_of-ids_holds}
use Rattle.homology.proofs.BoundaryLaws.{FaceAt-incidence, incidence-is, incidence_of}
use Rattle.homology.proofs.ListSetLaws.{Rises, Rises-ascending}
use Rattle.homology.proofs.FaceLists.{Picks, Picks-self, Picks-remove, Picks-length}
use Rattle.complex_store.proofs.FaceLaws.{incidence_of-face}
use Rattle.manifolds.specs.Closed.{top, lies_in, above, times, first_of}
use Rattle.manifold_links.specs.Counts.{cofaces_from}
use Rattle.manifold_links.specs.Covers.{is_covered, uncovered_from}
use Rattle.manifold_links.proofs.CountedLaws.{some-counted, counted-some}
use Rattle.manifolds.proofs.LyingLaws.{lies-picks, picks-lies, picks-through, picks-step, picks-same}

-- a list with a member is not empty, and one that is not empty has one
some-length : (xs : List ℕ) (t : ℕ) → set_of xs t ≡ true → not (nat_eq (length xs) 0) ≡ true
some-length [] t e = absurd (true≢false (sym e))
some-length (x ∷ xs) t e = ap not (nat_eq-apart (length (x ∷ xs)) 0 (λ q. omega (arith, q)))

length-some : (xs : List ℕ) → not (nat_eq (length xs) 0) ≡ true → (t : ℕ) × (set_of xs t ≡ true)
length-some [] e = absurd (true≢false (sym e))
length-some (x ∷ xs) e = (x, or_left (nat_eq x x) (set_of xs x) (nat_eq-self x))

pub record Covering (K : Complex) (x : ℕ) : Type 0 where
  pub id : ℕ
  pub there : id < length K
  pub of_top : dim K id ≡ top K
  pub lies : lies_in (simplex_at K x) (simplex_at K id) ≡ true

pub covering : (K : Complex) (x : ℕ) → is_covered K x ≡ true → Covering K x
covering K x e =
    let some = length-some (above K (simplex_at K x)) e in
    let both = and_parts (lies_in (simplex_at K x) (simplex_at K some.0)) (set_of (ids K (top K)) some.0)
    (sym (set_of-filter (λ t. lies_in (simplex_at K x) (simplex_at K t)) (ids K (top K)) some.0) ∙ some.1) in
    let at = set_of-ids K (top K) some.0 both.1 in
    record { id = some.0; there = at.0; of_top = at.1; lies = both.0 }

pub covered-from : (K : Complex) (x t : ℕ) → t < length K → dim K t ≡ top K → lies_in (simplex_at K x) (simplex_at K t) ≡ true → is_covered K x ≡ true
covered-from K x t h d e =
    some-length (above K (simplex_at K x)) t
    (set_of-filter (λ u. lies_in (simplex_at K x) (simplex_at K u)) (ids K (top K)) t
    ∙ (λ i. e i && set_of-ids_holds K (top K) t h d i))

-- the vertices of a simplex rise, and are at least one
rises : (K : Complex) → IsComplex K → (x : ℕ) → x < length K → Rises 0 (simplex_at K x)
rises K c x h = Rises-ascending (simplex_at K x) (c.simplices x h).ascending

-- one simplex lies in another: it is that one with some vertices left out
pub lying-picks : (K : Complex) → IsComplex K → (x t : ℕ) → x < length K → t < length K → lies_in (simplex_at K x) (simplex_at K t) ≡ true
    → Picks (simplex_at K x) (simplex_at K t)
lying-picks K c x t h q e = lies-picks 0 0 (simplex_at K x) (simplex_at K t) (rises K c x h) (rises K c t q) e

pub picks-incidence : (K : Complex) → IsComplex K → (x t : ℕ) → x < length K → t < length K → Picks (simplex_at K x) (simplex_at K t)
    → length (simplex_at K t) ≡ length (simplex_at K x) + 1 → incidence K x t ≡ true
picks-incidence K c x t h q p long =
    let step = picks-step (simplex_at K x) (simplex_at K t) p (omega (arith, long)) in
    let same : simplex_at K x ≡ remove (simplex_at K t) step.place =
    picks-same (simplex_at K x) (remove (simplex_at K t) step.place) step.picks (omega (arith, long, length-remove (simplex_at K t) step.place step.below)) in
    incidence-is K x t
    ∙ ap (λ u. incidence_of u (simplex_at K t)) same
    ∙ incidence_of-face (simplex_at K t) step.place (c.simplices t q).ascending (omega (arith, long, (c.simplices x h).nonempty)) step.below

pub record Coface (K : Complex) (x u : ℕ) : Type 0 where
  pub id : ℕ
  pub there : id < length K
  pub above : incidence K x id ≡ true
  pub picks : Picks (simplex_at K id) (simplex_at K u)

pub coface-below : (d : ℕ) (K : Complex) → IsComplex K → (x u : ℕ) → x < length K → u < length K → Picks (simplex_at K x) (simplex_at K u)
    → length (simplex_at K x) < length (simplex_at K u) → length (simplex_at K u) ≤ length (simplex_at K x) + 1 + d → Coface K x u
coface-below zero K c x u h q p less most =
    record { id = u; there = q; above = picks-incidence K c x u h q p (omega (arith, less, most)); picks = Picks-self (simplex_at K u) }
coface-below (suc d) K c x u h q p less most = ⊎_elim
    (λ (more : length (simplex_at K x) + 1 < length (simplex_at K u)).
    let step = picks-step (simplex_at K x) (simplex_at K u) p less in
    let face : HasFace K u step.place = c.closed u step.place q (omega (arith, more)) step.below in
    let shorter : length (simplex_at K face.id) + 1 ≡ length (simplex_at K u) =
    ap (λ l. length l + 1) face.is ∙ length-remove (simplex_at K u) step.place step.below in
    let rest = coface-below d K c x face.id h (omega (arith, face.earlier, q)) (subst (λ (l : List ℕ). Picks (simplex_at K x) l) (sym face.is) step.picks)
    (omega (arith, shorter, more)) (omega (arith, shorter, most)) in
    let down : Picks (simplex_at K face.id) (simplex_at K u) =
    subst (λ (l : List ℕ). Picks l (simplex_at K u)) (sym face.is) (Picks-remove (simplex_at K u) (simplex_at K u) step.place (Picks-self (simplex_at K u))) in
    record {
      id = rest.id;
      there = rest.there;
      above = rest.above;
      picks = picks-through (simplex_at K rest.id) (simplex_at K face.id) (simplex_at K u) rest.picks down;
    })
    (λ (le : length (simplex_at K u) ≤ length (simplex_at K x) + 1).
    record { id = u; there = q; above = picks-incidence K c x u h q p (omega (arith, less, le)); picks = Picks-self (simplex_at K u) })
    (cases_lt (length (simplex_at K x) + 1) (length (simplex_at K u)))

pub covered-top : (K : Complex) (x : ℕ) → x < length K → length (simplex_at K x) ≡ dimensions K → is_covered K x ≡ true
covered-top K x h e = covered-from K x x h (ap (λ n. n - 1) e) (picks-lies (simplex_at K x) (simplex_at K x) (Picks-self (simplex_at K x)))

pub covered-face : (K : Complex) → IsComplex K → (x t : ℕ) → x < length K → t < length K → incidence K x t ≡ true → is_covered K t ≡ true → is_covered K x ≡ true
covered-face K c x t h q e above =
    let by = covering K t above in
    let face = FaceAt-incidence K x t e in
    let p : Picks (simplex_at K x) (simplex_at K by.id) =
    subst (λ (l : List ℕ). Picks l (simplex_at K by.id)) (sym face.is) (Picks-remove (simplex_at K t) (simplex_at K by.id) face.place (lying-picks K c t by.id q by.there by.lies)) in
    covered-from K x by.id by.there by.of_top (picks-lies (simplex_at K x) (simplex_at K by.id) p)

pub record CoveredCoface (K : Complex) (x : ℕ) : Type 0 where
  pub id : ℕ
  pub there : id < length K
  pub above : incidence K x id ≡ true
  pub covered : is_covered K id ≡ true

pub covered-coface : (K : Complex) → IsComplex K → (x : ℕ) → x < length K → length (simplex_at K x) ≢ dimensions K → 0 < dimensions K
    → is_covered K x ≡ true → CoveredCoface K x
covered-coface K c x h short some e =
    let by = covering K x e in
    let p = lying-picks K c x by.id h by.there by.lies in
    let less : length (simplex_at K x) < length (simplex_at K by.id) =
    omega (arith, short, some, by.of_top, (c.simplices by.id by.there).nonempty, Picks-length (simplex_at K x) (simplex_at K by.id) p) in
    let up = coface-below (length (simplex_at K by.id)) K c x by.id h by.there p less (omega arith) in
    record {
      id = up.id;
      there = up.there;
      above = up.above;
      covered = covered-from K up.id by.id by.there by.of_top (picks-lies (simplex_at K up.id) (simplex_at K by.id) up.picks);
    }

-- whether a simplex is covered, by the number of its covered cofaces
pub due : (K : Complex) → IsComplex K → (n x count : ℕ) (r : Bool) → n + 1 ≡ dimensions K → x < length K → count ≡ cofaces_from K (is_covered K) 0 x
    → r ≡ (not (nat_eq count 0) || nat_eq (length (simplex_at K x)) (n + 1)) → r ≡ is_covered K x
due K c n x count r d h many is = tests-same r (is_covered K x) there back
  where
    there : r ≡ true → is_covered K x ≡ true
    there e = ⊎_elim
        (λ (some : not (nat_eq count 0) ≡ true).
        let up = some-counted K (is_covered K) x (omega (arith, many, not-zero some)) in
        covered-face K c x up.id h up.there up.above up.passes)
        (λ (of_top : nat_eq (length (simplex_at K x)) (n + 1) ≡ true). covered-top K x h (eqb-true (length (simplex_at K x)) (n + 1) of_top ∙ d))
        (or_cases (not (nat_eq count 0)) (nat_eq (length (simplex_at K x)) (n + 1)) (sym is ∙ e))
      where
        not-zero : not (nat_eq count 0) ≡ true → 0 < count
        not-zero some = ⊎_elim
            (λ (lt : 0 < count). lt)
            (λ (le : count ≤ 0). absurd (true≢false (sym some ∙ ap not (eq-eqb count 0 (omega (arith, le))))))
            (cases_lt 0 count)

    back : is_covered K x ≡ true → r ≡ true
    back e = is ∙ ⊎_elim
        (λ (same : length (simplex_at K x) ≡ n + 1).
        or_right (not (nat_eq count 0)) (nat_eq (length (simplex_at K x)) (n + 1)) (eq-eqb (length (simplex_at K x)) (n + 1) same))
        (λ (other : length (simplex_at K x) ≢ n + 1).
        let up = covered-coface K c x h (λ q. other (q ∙ sym d)) (omega (arith, d)) e in
        or_left (not (nat_eq count 0)) (nat_eq (length (simplex_at K x)) (n + 1))
        (ap not (nat_eq-apart count 0 (λ q. omega (arith, q, many, counted-some K (is_covered K) x up.id up.there up.above up.covered)))))
        (cases_eq (length (simplex_at K x)) (n + 1))

-- none from the end on
pub uncovered-none : (K : Complex) (n : ℕ) → length K ≤ n → first_of K (uncovered_from K n) ≡ None
uncovered-none K n le =
    let none : length K - n ≡ 0 = omega (arith, le) in
    ap (λ m. first_of K (filter (λ x. nat_eq (times K (simplex_at K x)) 0) (range_with_len n m))) none
