-- The fundamental cycle of a complex, and the values of cochains on it.
--     odd_over-value            a sum over an ascending list is the value of its terms at the set of the list
--     face-once                 a face of an ascending list is one at one place
--     lies-incidence            a simplex lies in one with one vertex more exactly where it is a face of that one
--     closed-top, ridge-twice   what a closed complex is
--     top-boundary              there the sum of all simplices of the greatest dimension is a cycle, the fundamental one
--     on_top-value              the value on this sum is that of a cochain on a chain
--     on_top-list               of listed simplices it is their number modulo 2
--     on_top-plus, on_top-sum, on_top-empty      it is additive
--     on_top-coboundary, on_top-cohomologous     in a closed complex it is zero at coboundaries, so it is that of the class
use Rattle.std.proofs.Common.{◌≡◌, ℕ, suc, ◌+◌, ◌%◌, ◌<◌, ◌≤◌, Bool, true, false, cond, not, ◌&&◌, List, [], ◌∷◌, length, nat_eq, Option, Some, None, refl, sym, ap, ◌∙◌, subst, arith, eqb-true, ⊎_elim, get_or}
use Rattle.std.specs.Prelude.{count_by, slice_index_or, Ok}
use Rattle.std.specs.List.{All, remove}
use Rattle.std.specs.List.Sorted.{IsStrictlyIncreasing}
use Rattle.std.specs.Ordering.{is_lt}
use Rattle.std.proofs.lemmas.Bool.{true≢false, and_parts, cases_eq, cases_lt, false_from_ne_true}
use Rattle.std.proofs.lemmas.List.Edits.{get_or-remove_below, get_or-remove_above, length-remove}
use Rattle.std.proofs.lemmas.List.Sums.{length-filter, sum_by-cons}
use Rattle.homology.specs.Parity.{xor}
use Rattle.homology.specs.Sets.{Ids, empty, single, plus, set_of, evaluate}
use Rattle.homology.specs.ListSums.{odd_over, sum_over}
use Rattle.homology.specs.Simplices.{same_list}
use Rattle.homology.specs.Order.{simplex_cmp, put_simplex}
use Rattle.homology.specs.Complexes.{Complex, IsComplex, simplex_at, dim, incidence}
use Rattle.homology.specs.Chains.{IsChain, IsCycle, IsCoboundary, AreCohomologous, boundary}
use Rattle.homology.specs.Kinds.{ids}
use Rattle.homology.proofs.ParityLaws.{and-comm, odd-same, odd-one, nat_eq-self, nat_eq-apart}
use Rattle.homology.proofs.SetLaws.{same_members}
use Rattle.homology.proofs.EvaluationLaws.{evaluate-single}
use Rattle.homology.proofs.BoundaryLaws.{same_list-same, same_list-apart, odd-some, incidence-is, incidence_of, incidence_of-wide, FaceAt-incidence, incidence-dim, boundary-within}
use Rattle.homology.proofs.KindLaws.{set_of-filter, set_of-ids, set_of-ids_holds}
use Rattle.homology.proofs.KindSteps.{tests-same}
use Rattle.homology.proofs.ListSetLaws.{Rises-ascending, ascending-Rises, set_of-All}
use Rattle.homology.proofs.ListSumLaws.{odd_over-same, odd_over-none, odd_over-xor, odd_over-count, sum_over-ascending, evaluate-sum_over}
use Rattle.homology.proofs.FaceLists.{Picks, Picks-self, Picks-remove}
use Rattle.cohomology.proofs.Searching.{ids-rise}
use Rattle.cohomology.proofs.Canonicals.{xor-none}
use Rattle.cohomology.proofs.Cocycles.{coboundary-at_cycle}
use Rattle.manifolds.specs.Closed.{top, lies_in, times, head_of, in_order, first_of, uncovered, ridges_of, ridges, faulty_ridges, judged, closed}
use Rattle.manifolds.proofs.LyingLaws.{lies-picks, picks-lies, picks-step, picks-same}
use Rattle.characteristic_classes.specs.Pairings.{on_top}

-- a sum over an ascending list of numbers below n
pub odd_over-value : (n : ℕ) (xs : List ℕ) (p : Ids) → IsStrictlyIncreasing xs → All (λ x. x < n) xs → odd_over xs p ≡ evaluate n p (set_of xs)
odd_over-value n xs p up below = sym (
    ap (evaluate n p) (sym (sum_over-ascending xs up))
    ∙ evaluate-sum_over n p xs single
    ∙ odd_over-same xs (λ x. evaluate n p (single x)) p (λ k d lt. evaluate-single n p (slice_index_or xs k d) (below k d lt)))

-- an ascending list without the place j is not the one without a later place k
remove-apart : (s : List ℕ) (j k : ℕ) → IsStrictlyIncreasing s → j < k → k < length s → remove s j ≡ remove s k → ⊥
remove-apart s j k up jk h e =
    omega (arith, up j (omega arith), get_or-remove_above s j 0 j (omega arith) (omega arith), get_or-remove_below s k 0 j jk h, ap (λ l. get_or l j 0) e)

one-place : (s : List ℕ) (j k : ℕ) → IsStrictlyIncreasing s → j < length s → k < length s → same_list (remove s j) (remove s k) ≡ (nat_eq k j && true)
one-place s j k up jh kh = ⊎_elim
    (λ (e : k ≡ j). same_list-same (remove s j) (remove s k) (ap (remove s) (sym e)) ∙ sym (ap (λ m. nat_eq m j && true) e ∙ ap (λ b. b && true) (nat_eq-self j)))
    (λ (other : k ≡ j → ⊥). same_list-apart (remove s j) (remove s k) (apart other) ∙ sym (ap (λ b. b && true) (nat_eq-apart k j other)))
    (cases_eq k j)
  where
    apart : (k ≡ j → ⊥) → remove s j ≡ remove s k → ⊥
    apart other e = ⊎_elim
        (λ (lt : j < k). remove-apart s j k up lt kh e)
        (λ (le : k ≤ j). remove-apart s k j up (omega (arith, other)) jh (sym e))
        (cases_lt j k)

face-once : (s : List ℕ) (j : ℕ) → IsStrictlyIncreasing s → 1 < length s → j < length s → incidence_of (remove s j) s ≡ true
face-once s j up wide h =
    incidence_of-wide (remove s j) s wide
    ∙ odd-same (length s) (λ k. same_list (remove s j) (remove s k)) (λ k. nat_eq k j && true) (λ k kh. one-place s j k up h kh)
    ∙ odd-one (length s) j (λ _. true) h

-- of a simplex with one vertex more
lies-incidence : (K : Complex) → IsComplex K → (q t : ℕ) → q < length K → t < length K → length (simplex_at K t) ≡ length (simplex_at K q) + 1
    → lies_in (simplex_at K q) (simplex_at K t) ≡ incidence K q t
lies-incidence K ok q t lq lt long = tests-same (lies_in (simplex_at K q) (simplex_at K t)) (incidence K q t) there back
  where
    there : lies_in (simplex_at K q) (simplex_at K t) ≡ true → incidence K q t ≡ true
    there e =
        let p : Picks (simplex_at K q) (simplex_at K t) =
        lies-picks 0 0 (simplex_at K q) (simplex_at K t) (Rises-ascending (simplex_at K q) (ok.simplices q lq).ascending)
        (Rises-ascending (simplex_at K t) (ok.simplices t lt).ascending) e in
        let step = picks-step (simplex_at K q) (simplex_at K t) p (omega (arith, long)) in
        let same : simplex_at K q ≡ remove (simplex_at K t) step.place =
        picks-same (simplex_at K q) (remove (simplex_at K t) step.place) step.picks (omega (arith, long, length-remove (simplex_at K t) step.place step.below)) in
        incidence-is K q t
        ∙ ap (λ u. incidence_of u (simplex_at K t)) same
        ∙ face-once (simplex_at K t) step.place (ok.simplices t lt).ascending (omega (arith, long, (ok.simplices q lq).nonempty)) step.below

    back : incidence K q t ≡ true → lies_in (simplex_at K q) (simplex_at K t) ≡ true
    back e =
        let face = FaceAt-incidence K q t e in
        picks-lies (simplex_at K q) (simplex_at K t)
        (subst (λ (l : List ℕ). Picks l (simplex_at K t)) (sym face.is) (Picks-remove (simplex_at K t) (simplex_at K t) face.place (Picks-self (simplex_at K t))))

-- a list in which something is put has a head
put-head : (s : List ℕ) (ss : List (List ℕ)) → head_of (put_simplex s ss) ≡ None → ⊥
put-head s [] e = cc
put-head s (t ∷ ss) e = by (is_lt (simplex_cmp s t)) e
  where
    by : (b : Bool) → head_of (cond b (s ∷ t ∷ ss) (t ∷ put_simplex s ss)) ≡ None → ⊥
    by true e = cc
    by false e = cc

first-none : (K : Complex) (xs : List ℕ) → first_of K xs ≡ None → xs ≡ []
first-none K [] e = refl
first-none K (x ∷ xs) e = absurd (put-head (simplex_at K x) (in_order K xs) e)

-- what makes a complex closed
record Judged (K : Complex) (uncovered faulty : Option (List ℕ)) (n : ℕ) : Type 0 where
  faultless : faulty ≡ None
  dimension : n ≡ top K

judged-ok : (K : Complex) (a b : Option (List ℕ)) (n : ℕ) → judged K a b ≡ Ok n → Judged K a b n
judged-ok K (Some s) b n e = absurd (cc)
judged-ok K None (Some s) n e = absurd (cc)
judged-ok K None None n e = record { faultless = refl; dimension = cc }

closed-judged : (K : Complex) (n : ℕ) → closed K ≡ Ok n → judged K (first_of K (uncovered K)) (first_of K (faulty_ridges K)) ≡ Ok n
unfolding closed
closed-judged [] n e = absurd (cc)
closed-judged (s ∷ K) n e = e

closed-parts : (K : Complex) (n : ℕ) → closed K ≡ Ok n → Judged K (first_of K (uncovered K)) (first_of K (faulty_ridges K)) n
closed-parts K n e = judged-ok K (first_of K (uncovered K)) (first_of K (faulty_ridges K)) n (closed-judged K n e)

pub closed-top : (K : Complex) (n : ℕ) → closed K ≡ Ok n → n ≡ top K
closed-top K n e = (closed-parts K n e).dimension

pub ridge-twice : (K : Complex) (n : ℕ) → closed K ≡ Ok n → (q : ℕ) → q < length K → dim K q + 1 ≡ top K → times K (simplex_at K q) ≡ 2
ridge-twice K n e q lt d = eqb-true (times K (simplex_at K q)) 2 (by (nat_eq (times K (simplex_at K q)) 2) (set_of (ridges K) q) member kept)
  where
    by : (b c : Bool) → c ≡ true → (not b && c) ≡ false → b ≡ true
    by true c m k = refl
    by false c m k = absurd (true≢false (sym m ∙ k))

    member : set_of (ridges K) q ≡ true
    member =
        let more : top K ≡ suc (dim K q) = omega (arith, d) in
        ap (λ m. set_of (ridges_of K m) q) more ∙ set_of-ids_holds K (dim K q) q lt refl

    kept : (not (nat_eq (times K (simplex_at K q)) 2) && set_of (ridges K) q) ≡ false
    kept =
        sym (set_of-filter (λ x. not (nat_eq (times K (simplex_at K x)) 2)) (ridges K) q)
        ∙ ap (λ l. set_of l q) (first-none K (faulty_ridges K) (closed-parts K n e).faultless)

pub ids-ascending : (K : Complex) (p : ℕ) → IsStrictlyIncreasing (ids K p)
ids-ascending K p = ascending-Rises 0 (ids K p) (ids-rise K p)

pub ids-below : (K : Complex) (p : ℕ) → All (λ t. t < length K) (ids K p)
ids-below K p = set_of-All (λ t. t < length K) (ids K p) (λ t m. (set_of-ids K p t m).0)

pub on_top-value : (K : Complex) (a : Ids) → on_top K a ≡ evaluate (length K) a (set_of (ids K (top K)))
on_top-value K a = odd_over-value (length K) (ids K (top K)) a (ids-ascending K (top K)) (ids-below K (top K))

count-all : (xs : List ℕ) → count_by (λ _. true) xs ≡ length xs
count-all [] = refl
count-all (x ∷ xs) = omega (arith, sum_by-cons (λ (y : ℕ). cond true 1 0) x xs, count-all xs)

-- of a list of such simplices it is the number of them, modulo 2
pub on_top-list : (K : Complex) (xs : List ℕ) → IsStrictlyIncreasing xs → IsChain K (top K) (set_of xs) → on_top K (set_of xs) ≡ nat_eq (length xs % 2) 1
on_top-list K xs up C =
    on_top-value K (set_of xs)
    ∙ odd-same (length K) (λ t. set_of xs t && M t) (λ t. M t && set_of xs t) (λ t _. and-comm (set_of xs t) (M t))
    ∙ sym (odd_over-value (length K) xs M up (set_of-All (λ t. t < length K) xs C.there))
    ∙ odd_over-same xs M (λ _. true) (set_of-All (λ t. M t ≡ true) xs (λ t m. set_of-ids_holds K (top K) t (C.there t m) (C.degree t m)))
    ∙ odd_over-count xs (λ _. true)
    ∙ ap (λ m. nat_eq (m % 2) 1) (count-all xs)
  where
    M : Ids
    M = set_of (ids K (top K))

-- two simplices of the greatest dimension have a ridge as their face
ridge-even : (K : Complex) → IsComplex K → (n : ℕ) → closed K ≡ Ok n → (q : ℕ) → q < length K → dim K q + 1 ≡ top K
    → boundary K (set_of (ids K (top K))) q ≡ false
ridge-even K ok n e q lq d =
    odd-same (length K) (λ t. set_of (ids K (top K)) t && incidence K q t) (λ t. incidence K q t && set_of (ids K (top K)) t)
    (λ t _. and-comm (set_of (ids K (top K)) t) (incidence K q t))
    ∙ sym (on_top-value K (λ t. incidence K q t))
    ∙ odd_over-same (ids K (top K)) (λ t. incidence K q t) lies (set_of-All (λ t. incidence K q t ≡ lies t) (ids K (top K)) same)
    ∙ odd_over-count (ids K (top K)) lies
    ∙ ap (λ m. nat_eq (m % 2) 1) (sym (length-filter lies (ids K (top K))) ∙ ridge-twice K n e q lq d)
  where
    lies : ℕ → Bool
    lies t = lies_in (simplex_at K q) (simplex_at K t)

    same : (t : ℕ) → set_of (ids K (top K)) t ≡ true → incidence K q t ≡ lies t
    same t m =
        let at = set_of-ids K (top K) t m in
        sym (lies-incidence K ok q t lq at.0 (omega (arith, at.1, d, (ok.simplices q lq).nonempty, (ok.simplices t at.0).nonempty)))

pub top-boundary : (K : Complex) → IsComplex K → (n : ℕ) → closed K ≡ Ok n → boundary K (set_of (ids K (top K))) ≡ empty
top-boundary K ok n e = same_members (boundary K (set_of (ids K (top K)))) empty (λ q. false_from_ne_true (boundary K (set_of (ids K (top K))) q) (λ m. none q m))
  where
    none : (q : ℕ) → boundary K (set_of (ids K (top K))) q ≡ true → ⊥
    none q m =
        let lq : q < length K = boundary-within K ok (set_of (ids K (top K))) q m in
        let some = odd-some (length K) (λ t. set_of (ids K (top K)) t && incidence K q t) m in
        let both = and_parts (set_of (ids K (top K)) some.0) (incidence K q some.0) some.2 in
        let d : dim K q + 1 ≡ top K = sym (incidence-dim K ok q some.0 some.1 both.1) ∙ (set_of-ids K (top K) some.0 both.0).1 in
        true≢false (sym m ∙ ridge-even K ok n e q lq d)

pub top-cycle : (K : Complex) → IsComplex K → (n : ℕ) → closed K ≡ Ok n → IsCycle K (top K) (set_of (ids K (top K)))
top-cycle K ok n e = record {
  chain = record { there = λ t m. (set_of-ids K (top K) t m).0; degree = λ t m. (set_of-ids K (top K) t m).1 };
  closed = top-boundary K ok n e;
}

pub on_top-plus : (K : Complex) (a b : Ids) → on_top K (plus a b) ≡ xor (on_top K a) (on_top K b)
on_top-plus K a b = odd_over-xor (ids K (top K)) a b

pub on_top-empty : (K : Complex) → on_top K empty ≡ false
on_top-empty K = odd_over-none (ids K (top K)) empty (λ k d lt. refl)

pub on_top-sum : (K : Complex) (xs : List ℕ) (φ : ℕ → Ids) → on_top K (sum_over xs φ) ≡ odd_over xs (λ x. on_top K (φ x))
on_top-sum K [] φ = on_top-empty K
on_top-sum K (x ∷ xs) φ = on_top-plus K (φ x) (sum_over xs φ) ∙ ap (xor (on_top K (φ x))) (on_top-sum K xs φ)

pub on_top-coboundary : (K : Complex) → IsComplex K → (n : ℕ) → closed K ≡ Ok n → (e : Ids) → IsCoboundary K (top K) e → on_top K e ≡ false
on_top-coboundary K ok n shut e E = on_top-value K e ∙ coboundary-at_cycle K (top K) e (set_of (ids K (top K))) E (top-boundary K ok n shut)

pub on_top-cohomologous : (K : Complex) → IsComplex K → (n : ℕ) → closed K ≡ Ok n → (a b : Ids) → AreCohomologous K (top K) a b → on_top K a ≡ on_top K b
on_top-cohomologous K ok n shut a b E =
    xor-none (on_top K a) (on_top K b) (sym (on_top-plus K a b) ∙ on_top-coboundary K ok n shut (plus a b) E.differ_by_coboundary)
