-- The link of a shelling has the Betti numbers of a sphere.
--     fault-parts          where no fault is found, none of the kinds is
--     shelled-parts        then the list shells, covers, and each ridge lies in two
--     link-sphere          by its dimension: nothing, two points, or more
use Rattle.std.proofs.Common.{◌≡◌, ℕ, zero, suc, ◌+◌, ◌-◌, ◌<◌, ◌≤◌, Bool, true, false, cond, not, ◌&&◌, List, [], ◌∷◌, ◌++◌, map, length, nat_eq, refl, sym, ap, ◌∙◌, subst, arith, add-one, eqb-true, eq-eqb, ⊎_elim, find}
use Rattle.std.specs.Prelude.{Option, Some, None, replicate, max}
use Rattle.std.specs.List.{fold, list_all, range_with_len}
use Rattle.std.specs.List.Sorted.{IsStrictlyIncreasing}
use Rattle.std.proofs.lemmas.List.Folds.{list_any_at}
use Rattle.std.proofs.lemmas.Bool.{true≢false, not-false, and_from, or_cases, cases_Bool}
use Rattle.homology.specs.Simplices.{same_list}
use Rattle.homology.specs.Complexes.{Complex, IsComplex, simplex_at, dimensions}
use Rattle.homology.specs.Chains.{IsCocycle}
use Rattle.homology.specs.Kinds.{betti}
use Rattle.homology.specs.Growth.{is_there}
use Rattle.homology.proofs.BoundaryLaws.{same_list-true, same_list-same}
use Rattle.homology.proofs.FaceLists.{Picks-length}
use Rattle.manifolds.specs.Closed.{lies_in}
use Rattle.manifolds.specs.Links.{link, link_betti, degrees_left, sphere_counts, passes}
use Rattle.manifolds.proofs.LinkLaws.{there-id, link-complex}
use Rattle.manifolds.proofs.PointLaws.{points-betti}
use Rattle.shellings.specs.Shellings.{Refusal, NotThere, Lacks, Points, LinkRidge, or_else, because, unfit, lacking, points, times_in, link_ridge, step, fault, shelling}
use Rattle.shellings.proofs.ShellingFacts.{old, some-none, any-witness, Shells, shells-after}
use Rattle.shellings.proofs.FaceLaws.{lying-picks}
use Rattle.shellings.proofs.Extending.{shelled-coboundary}
use Rattle.shellings.proofs.Connected.{shelled-constant}
use Rattle.shellings.proofs.BettiLaws.{betti-none, betti-one}
use Rattle.shellings.proofs.TopCycle.{Shelled, facet-length, betti-top}

or_else-none : (a b : Option Refusal) → or_else a b ≡ None → (a ≡ None) × (b ≡ None)
or_else-none (Some x) b e = absurd (some-none x e)
or_else-none None b e = (refl, e)

because-none : (why : List ℕ → Refusal) (o : Option (List ℕ)) → because why o ≡ None → o ≡ None
because-none why (Some x) e = absurd (some-none (why x) e)
because-none why None e = refl

find-none : (test : List ℕ → Bool) (L : Complex) → find test L ≡ None → (u : List ℕ) → is_there L u ≡ true → test u ≡ false
find-none test [] e u h = absurd (true≢false (sym h))
find-none test (t ∷ L) e u h = ⊎_elim
    (λ (passes_test : test t ≡ true). absurd (some-none t (sym (ap (λ b. cond b (Some t) (find test L)) passes_test) ∙ e)))
    (λ (fails : test t ≡ false). ⊎_elim
    (λ (here : same_list u t ≡ true). ap test (same_list-true u t here) ∙ fails)
    (λ (later : is_there L u ≡ true). find-none test L (sym (ap (λ b. cond b (Some t) (find test L)) fails) ∙ e) u later)
    (or_cases (same_list u t) (is_there L u) h))
    (cases_Bool (test t))

there-at : (L : Complex) (x : ℕ) → x < length L → is_there L (simplex_at L x) ≡ true
there-at L x lt = list_any_at (same_list (simplex_at L x)) L x [] lt (same_list-same (simplex_at L x) (simplex_at L x) refl)

-- what holds at each id holds of each simplex
all-ids : (p : List ℕ → Bool) (L : Complex) → ((x : ℕ) → x < length L → p (simplex_at L x) ≡ true) → list_all p L ≡ true
all-ids p [] h = refl
all-ids p (t ∷ L) h = and_from (p t) (list_all p L) (h 0 (omega arith)) (all-ids p L (λ x lt. h (suc x) (omega (arith, lt))))

module _ (L : Complex) (ok : IsComplex L) (n : ℕ) (F : List (List ℕ)) (none : fault L n F ≡ None) where
  parts : (unfit L n F ≡ None) × (lacking L F ≡ None) × (points L n ≡ None) × (link_ridge L n F ≡ None) × (step F ≡ None)
  parts =
      let a = or_else-none (unfit L n F) (or_else (lacking L F) (or_else (points L n) (or_else (link_ridge L n F) (step F)))) none in
      let b = or_else-none (lacking L F) (or_else (points L n) (or_else (link_ridge L n F) (step F))) a.1 in
      let c = or_else-none (points L n) (or_else (link_ridge L n F) (step F)) b.1 in
      let d = or_else-none (link_ridge L n F) (step F) c.1 in
      (a.0, b.0, c.0, d.0, d.1)

  shells : Shells L n [] F
  shells = shells-after L n 1 [] F parts.0 parts.4

  covered : (x : ℕ) → x < length L → old F (simplex_at L x) ≡ true
  covered x lt = not-false (old F (simplex_at L x))
      (find-none (λ s. not (old F s)) L (because-none Lacks (find (λ s. not (old F s)) L) parts.1) (simplex_at L x) (there-at L x lt))

  in-facet : (x : ℕ) → x < length L → (d : List ℕ) × (lies_in (simplex_at L x) d ≡ true) × (is_there F d ≡ true)
  in-facet x lt =
      let w = any-witness (lies_in (simplex_at L x)) F (covered x lt) in
      (w.0, w.1, w.2 (same_list w.0) (same_list-same w.0 w.0 refl))

  short : (x : ℕ) → x < length L → length (simplex_at L x) ≤ n
  short x lt =
      let d = in-facet x lt in
      let at = facet-length L n F [] shells d.0 d.2 in
      let id = there-id L d.0 at.1 in
      omega (
        arith,
        at.0,
        Picks-length (simplex_at L x) d.0
            (lying-picks (simplex_at L x) d.0 (ok.simplices x lt).ascending (subst IsStrictlyIncreasing id.2 (ok.simplices id.0 id.1).ascending) d.1),
      )

-- the largest of some lengths
largest : (L : Complex) (a n : ℕ) → a ≤ n → ((x : ℕ) → x < length L → length (simplex_at L x) ≤ n) → fold (λ m s. max m (length s)) a L ≤ n
largest [] a n le all = le
largest (s ∷ L) a n le all = largest L (max a (length s)) n (omega (arith, le, all 0 (omega arith))) (λ x lt. all (suc x) (omega (arith, lt)))

start : (L : Complex) (a : ℕ) → a ≤ fold (λ m s. max m (length s)) a L
start [] a = omega arith
start (s ∷ L) a = omega (arith, start L (max a (length s)))

widest : (L : Complex) (a x : ℕ) → length (simplex_at L x) ≤ fold (λ m s. max m (length s)) a L
widest [] a x = omega arith
widest (s ∷ L) a zero = omega (arith, start L (max a (length s)))
widest (s ∷ L) a (suc x) = widest L (max a (length s)) x

dimensions-is : (L : Complex) (n : ℕ) → ((x : ℕ) → x < length L → length (simplex_at L x) ≤ n) → (x : ℕ) → length (simplex_at L x) ≡ n → dimensions L ≡ n
dimensions-is L n all x long = omega (arith, largest L 0 n (omega arith) all, widest L 0 x, long)

-- no simplex at all
nothing : (L : Complex) → ((x : ℕ) → x < length L → ⊥) → L ≡ []
nothing [] none = refl
nothing (s ∷ L) none = absurd (none 0 (omega arith))

-- the numbers between the first and the last are zero
map-zeros : (f : ℕ → ℕ) (b k : ℕ) → ((p : ℕ) → b ≤ p → p < b + k → f p ≡ 0) → f (b + k) ≡ 1 → map f (range_with_len b (suc k)) ≡ replicate k 0 ++ 1 ∷ []
map-zeros f b zero zeros last = ap (λ v. v ∷ []) (ap f (sum_zero b) ∙ last)
  where
    sum_zero : (b : ℕ) → b ≡ b + 0
    sum_zero b = omega arith
map-zeros f b (suc k) zeros last = λ i.
    zeros b (omega arith) (omega arith) i
    ∷ map-zeros f (b + 1) k (λ p le lt. zeros p (omega (arith, le)) (omega (arith, lt))) (ap f (turned b k) ∙ last) i
  where
    turned : (b k : ℕ) → b + 1 + k ≡ b + suc k
    turned b k = omega arith

module _ (L : Complex) (ok : IsComplex L) (F : List (List ℕ)) where
  -- no vertices are left: the list and the complex are empty
  sphere-none : fault L 0 F ≡ None → map (betti L) (range_with_len 0 (dimensions L)) ≡ []
  sphere-none none = ap (λ K. map (betti K) (range_with_len 0 (dimensions K))) (nothing L (λ x lt.
      omega (arith, short L ok 0 F none x lt, (ok.simplices x lt).nonempty)))

  -- two points
  sphere-points : fault L 1 F ≡ None → map (betti L) (range_with_len 0 (dimensions L)) ≡ 2 ∷ []
  sphere-points none =
      points-betti L ok (all-ids (λ s. nat_eq (length s) 1) L (λ x lt.
      eq-eqb (length (simplex_at L x)) 1 (omega (arith, short L ok 1 F none x lt, (ok.simplices x lt).nonempty)))) (omega (arith, two))
      ∙ ap (λ m. m ∷ []) two
    where
      count : (b : Bool) → nat_eq (length L) 2 ≡ b → cond b None (Some (Points (length L))) ≡ None → length L ≡ 2
      count true e h = eqb-true (length L) 2 e
      count false e h = absurd (some-none (Points (length L)) h)

      two : length L ≡ 2
      two = count (nat_eq (length L) 2) refl (parts L ok 1 F none).2

  module _ (k : ℕ) (none : fault L (suc (suc k)) F ≡ None) where
    some : 0 < length L
    some = by (nat_eq (length L) 0) refl (parts L ok (suc (suc k)) F none).2
      where
        by : (b : Bool) → nat_eq (length L) 0 ≡ b → cond b (Some (Points 0)) None ≡ None → 0 < length L
        by true e h = absurd (some-none (Points 0) h)
        by false e h = omega (arith, λ (q : length L ≡ 0). true≢false (sym (eq-eqb (length L) 0 q) ∙ e))

    ridges : (x : ℕ) → x < length L → length (simplex_at L x) + 1 ≡ suc (suc k) → times_in F (simplex_at L x) ≡ 2
    ridges x lt short_one = by (nat_eq (times_in F (simplex_at L x)) 2) refl
        (find-none (λ s. nat_eq (length s) (suc k) && not (nat_eq (times_in F s) 2)) L clear (simplex_at L x) (there-at L x lt))
      where
        clear : find (λ s. nat_eq (length s) (suc k) && not (nat_eq (times_in F s) 2)) L ≡ None
        clear = because-none (λ s. LinkRidge s (times_in F s)) (find (λ s. nat_eq (length s) (suc k) && not (nat_eq (times_in F s) 2)) L)
            (parts L ok (suc (suc k)) F none).3

        by : (b : Bool) → nat_eq (times_in F (simplex_at L x)) 2 ≡ b
            → (nat_eq (length (simplex_at L x)) (suc k) && not (nat_eq (times_in F (simplex_at L x)) 2)) ≡ false → times_in F (simplex_at L x) ≡ 2
        by true e h = eqb-true (times_in F (simplex_at L x)) 2 e
        by false e h = absurd (true≢false
            (sym (λ i. eq-eqb (length (simplex_at L x)) (suc k) (omega (arith, short_one)) i && not (e i)) ∙ h))

    shelled : Shelled L (suc (suc k)) F
    shelled = record {
      complex = ok;
      wide = omega arith;
      shells = shells L ok (suc (suc k)) F none;
      covered = covered L ok (suc (suc k)) F none;
      ridges = ridges;
    }

    dimension : dimensions L ≡ suc (suc k)
    dimension =
        let d = in-facet L ok (suc (suc k)) F none 0 some in
        let at = facet-length L (suc (suc k)) F [] (shells L ok (suc (suc k)) F none) d.0 d.2 in
        let id = there-id L d.0 at.1 in
        dimensions-is L (suc (suc k)) (short L ok (suc (suc k)) F none) id.0 (ap length id.2 ∙ at.0)

    lowest : betti L 0 ≡ 1
    lowest = betti-one L ok some (λ b B. shelled-constant L ok b B (suc (suc k)) (omega arith) F
        (shells L ok (suc (suc k)) F none) (covered L ok (suc (suc k)) F none))

    between : (p : ℕ) → 1 ≤ p → p < 1 + k → betti L p ≡ 0
    between zero le lt = absurd (omega arith)
    between (suc q) le lt = betti-none L ok (suc q) (λ b B. shelled-coboundary L ok q (suc (suc k)) (omega (arith, lt)) F
        (shells L ok (suc (suc k)) F none) (covered L ok (suc (suc k)) F none) b (subst (λ p. IsCocycle L p b) (sym (add-one q)) B))

    highest : betti L (1 + k) ≡ 1
    highest = ap (betti L) (less k) ∙ betti-top L (suc (suc k)) F shelled some
      where
        less : (k : ℕ) → 1 + k ≡ suc (suc k) - 1
        less k = omega arith

    sphere-more : map (betti L) (range_with_len 0 (dimensions L)) ≡ 1 ∷ (replicate k 0 ++ 1 ∷ [])
    sphere-more =
        ap (λ d. map (betti L) (range_with_len 0 d)) dimension
        ∙ λ i. lowest i ∷ map-zeros (betti L) 1 k between highest i

  sphere : (n : ℕ) → fault L n F ≡ None → map (betti L) (range_with_len 0 (dimensions L)) ≡ sphere_counts n
  sphere zero none = sphere-none none
  sphere (suc zero) none = sphere-points none
  sphere (suc (suc k)) none = sphere-more k none

-- where nothing is refused, the link passes
pub shelling-passes : (K : Complex) → IsComplex K → (s : List ℕ) (F : List (List ℕ)) → shelling K s F ≡ None → passes K s ≡ true
unfolding shelling
shelling-passes K ok s F none =
    same_list-same (link_betti K s) (sphere_counts (degrees_left K s)) (sphere (link K s) (link-complex K ok s) F (degrees_left K s) (clear (is_there K s) refl))
  where
    shelling-is : shelling K s F ≡ cond (is_there K s) (fault (link K s) (degrees_left K s) F) (Some (NotThere s))
    shelling-is = refl

    clear : (b : Bool) → is_there K s ≡ b → fault (link K s) (degrees_left K s) F ≡ None
    clear true e = sym (shelling-is ∙ ap (λ z. cond z (fault (link K s) (degrees_left K s) F) (Some (NotThere s))) e) ∙ none
    clear false e = absurd (some-none (NotThere s) (sym (shelling-is ∙ ap (λ z. cond z (fault (link K s) (degrees_left K s) F) (Some (NotThere s))) e) ∙ none))
