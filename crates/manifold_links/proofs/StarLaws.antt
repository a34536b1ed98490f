-- How the link of a simplex s is listed from its open star.
--     listed                     an ascending list with just the numbers below n that pass a test
--     next-listed, over-next     the cofaces of the members of the open star with r vertices more are those with r + 1 more
--     over-first, over-within    with no vertex more there is s alone
--     rest-linked, rest-union    what a member of the open star has besides is in the link, and each of the link is what some simplex has besides
--     reached-none, reached-more, reached-all
--                                so the link is reached by the number of vertices
use Rattle.std.proofs.Common.{◌≡◌, ℕ, ◌+◌, ◌<◌, ◌≤◌, Bool, true, false, not, ◌&&◌, ◌||◌, List, [], ◌∷◌, ◌++◌, length, get_or, nat_eq, nat_lt, refl, sym, ap, subst, ◌∙◌, arith, eqb-true, eq-eqb, ltb-true, lt-ltb, ⊎_elim}
use Rattle.std.specs.List.{All, filter, list_all, list_any, range_with_len}
use Rattle.std.specs.List.Sorted.{IsStrictlyIncreasing}
use Rattle.std.proofs.lemmas.Bool.{true≢false, and_parts, and_from, or_cases, or_left, or_right, cases_lt, false_from_ne_true}
use Rattle.std.proofs.lemmas.List.Edits.{length-remove}
use Rattle.std.proofs.lemmas.List.Folds.{list_any_at, list_any-append}
use Rattle.std.proofs.lemmas.List.FromFn.{length-range_with_len, get_or-range_with_len}
use Rattle.std.proofs.lemmas.List.Kept.{IsStrictlyIncreasing-filter}
use Rattle.homology.specs.Sets.{set_of}
use Rattle.homology.specs.Simplices.{IsSimplex, same_list}
use Rattle.homology.specs.Complexes.{Complex, IsComplex, HasFace, dimensions, incidence, simplex_at}
use Rattle.homology.proofs.ParityLaws.{nat_eq-self}
use Rattle.homology.proofs.KindSteps.{tests-same}
use Rattle.homology.proofs.KindLaws.{set_of-filter, set_of-range, set_of-range_holds}
use Rattle.homology.proofs.ListSetLaws.{Rises-ascending, same_ascending, set_of-All}
use Rattle.homology.proofs.BoundaryLaws.{FaceAt-incidence, FaceAt-length, same_list-true, same_list-same}
use Rattle.homology.proofs.FaceLists.{Picks, Picks-self, Picks-remove, Picks-length}
use Rattle.complex_store.specs.Cofaces.{cofaces}
use Rattle.manifolds.specs.Closed.{lies_in}
use Rattle.manifolds.specs.Links.{is_union, are_apart, in_link}
use Rattle.manifolds.proofs.LyingLaws.{lies-picks, picks-lies, picks-through, picks-step, picks-same}
use Rattle.manifolds.proofs.LinkLaws.{all-at, all-from, found-at, set_of-at}
use Rattle.f2_chains.proofs.Passing.{any-found, any-holds}
use Rattle.manifold_links.specs.Stars.{next_ids, is_over, over, rest, is_rest, IsReached, link_ids}
use Rattle.manifold_links.proofs.CoverLaws.{lying-picks, picks-incidence}
use Rattle.manifold_links.proofs.LengthLaws.{longest-least}

-- the numbers below n that pass a test
pub run-in : (p : ℕ → Bool) (n t : ℕ) → set_of (filter p (range_with_len 0 n)) t ≡ true → (t < n) × (p t ≡ true)
run-in p n t e =
    let both = and_parts (p t) (set_of (range_with_len 0 n) t) (sym (set_of-filter p (range_with_len 0 n) t) ∙ e) in
    (omega (arith, (set_of-range 0 n t both.1).1), both.0)

pub run-holds : (p : ℕ → Bool) (n t : ℕ) → t < n → p t ≡ true → set_of (filter p (range_with_len 0 n)) t ≡ true
run-holds p n t h e =
    set_of-filter p (range_with_len 0 n) t
    ∙ and_from (p t) (set_of (range_with_len 0 n) t) e (set_of-range_holds 0 n t (omega arith) (omega (arith, h)))

pub run-ascending : (p : ℕ → Bool) (n : ℕ) → IsStrictlyIncreasing (filter p (range_with_len 0 n))
run-ascending p n = IsStrictlyIncreasing-filter p (range_with_len 0 n) up
  where
    up : IsStrictlyIncreasing (range_with_len 0 n)
    up k h =
        let m : length (range_with_len 0 n) ≡ n = length-range_with_len 0 n in
        omega (arith, get_or-range_with_len 0 n k 0 (omega (arith, m, h)), get_or-range_with_len 0 n (k + 1) 0 (omega (arith, m, h)))

pub listed : (p : ℕ → Bool) (n : ℕ) (xs : List ℕ) → IsStrictlyIncreasing xs → ((t : ℕ) → set_of xs t ≡ true → (t < n) × (p t ≡ true))
    → ((t : ℕ) → t < n → p t ≡ true → set_of xs t ≡ true) → xs ≡ filter p (range_with_len 0 n)
listed p n xs up there back = same_ascending xs (filter p (range_with_len 0 n)) up (run-ascending p n) (λ i t. same t i)
  where
    same : (t : ℕ) → set_of xs t ≡ set_of (filter p (range_with_len 0 n)) t
    same t = tests-same (set_of xs t) (set_of (filter p (range_with_len 0 n)) t)
        (λ e. let at = there t e in run-holds p n t at.0 at.1)
        (λ e. let at = run-in p n t e in back t at.0 at.1)

pub next-listed : (K : Complex) (us xs : List ℕ) → IsStrictlyIncreasing xs → ((c : ℕ) → set_of xs c ≡ list_any (λ u. set_of (cofaces K u) c) us)
    → xs ≡ next_ids K us
next-listed K us xs up set = listed (λ c. list_any (λ u. incidence K u c) us) (length K) xs up there back
  where
    there : (c : ℕ) → set_of xs c ≡ true → (c < length K) × (list_any (λ u. incidence K u c) us ≡ true)
    there c e =
        let some = any-found (λ u. set_of (cofaces K u) c) us (sym (set c) ∙ e) in
        let at = run-in (incidence K some.0) (length K) c some.2 in
        (at.0, any-holds (λ u. incidence K u c) us some.0 some.1 at.1)

    back : (c : ℕ) → c < length K → list_any (λ u. incidence K u c) us ≡ true → set_of xs c ≡ true
    back c h e =
        let some = any-found (λ u. incidence K u c) us e in
        set c ∙ any-holds (λ u. set_of (cofaces K u) c) us some.0 some.1 (run-holds (incidence K some.0) (length K) c h some.2)

pub over-within : (K : Complex) (s : List ℕ) (r : ℕ) → All (λ t. t < length K) (over K s r)
over-within K s r = set_of-All (λ t. t < length K) (over K s r) (λ t e. (run-in (is_over K s r) (length K) t e).0)

pub over-first : (K : Complex) → IsComplex K → (x : ℕ) → x < length K → x ∷ [] ≡ over K (simplex_at K x) 0
over-first K c x h = listed (is_over K (simplex_at K x) 0) (length K) (x ∷ []) (λ k lt. absurd (omega (arith, lt))) there back
  where
    here : is_over K (simplex_at K x) 0 x ≡ true
    here = and_from (lies_in (simplex_at K x) (simplex_at K x)) (nat_eq (length (simplex_at K x)) (length (simplex_at K x) + 0))
        (picks-lies (simplex_at K x) (simplex_at K x) (Picks-self (simplex_at K x)))
        (eq-eqb (length (simplex_at K x)) (length (simplex_at K x) + 0) (omega arith))

    there : (t : ℕ) → set_of (x ∷ []) t ≡ true → (t < length K) × (is_over K (simplex_at K x) 0 t ≡ true)
    there t e = ⊎_elim
        (λ (same : nat_eq t x ≡ true). let is : t ≡ x = eqb-true t x same in (omega (arith, is, h), ap (is_over K (simplex_at K x) 0) is ∙ here))
        (λ (none : false ≡ true). absurd (true≢false (sym none)))
        (or_cases (nat_eq t x) false e)

    back : (t : ℕ) → t < length K → is_over K (simplex_at K x) 0 t ≡ true → set_of (x ∷ []) t ≡ true
    back t lt e =
        let both = and_parts (lies_in (simplex_at K x) (simplex_at K t)) (nat_eq (length (simplex_at K t)) (length (simplex_at K x) + 0)) e in
        let long : length (simplex_at K t) ≡ length (simplex_at K x) + 0 = eqb-true (length (simplex_at K t)) (length (simplex_at K x) + 0) both.1 in
        let same : simplex_at K x ≡ simplex_at K t = picks-same (simplex_at K x) (simplex_at K t) (lying-picks K c x t h lt both.0) (omega (arith, long)) in
        or_left (nat_eq t x) false (eq-eqb t x (sym (c.distinct x t h lt same)))

-- the tests agree, so the lists do
same-run : (p q : ℕ → Bool) (n : ℕ) → ((t : ℕ) → t < n → p t ≡ q t) → filter p (range_with_len 0 n) ≡ filter q (range_with_len 0 n)
same-run p q n same = listed q n (filter p (range_with_len 0 n)) (run-ascending p n)
    (λ t e. let at = run-in p n t e in (at.0, sym (same t at.0) ∙ at.1))
    (λ t h e. run-holds p n t h (same t h ∙ e))

pub over-next : (K : Complex) → IsComplex K → (x r : ℕ) → x < length K → next_ids K (over K (simplex_at K x) r) ≡ over K (simplex_at K x) (r + 1)
over-next K c x r h = same-run (λ z. list_any (λ u. incidence K u z) (over K (simplex_at K x) r)) (is_over K (simplex_at K x) (r + 1)) (length K)
    (λ z lt. tests-same (list_any (λ u. incidence K u z) (over K (simplex_at K x) r)) (is_over K (simplex_at K x) (r + 1) z) (there z lt) (back z lt))
  where
    s : List ℕ
    s = simplex_at K x

    there : (z : ℕ) → z < length K → list_any (λ u. incidence K u z) (over K (simplex_at K x) r) ≡ true → is_over K (simplex_at K x) (r + 1) z ≡ true
    there z lt e =
        let some = any-found (λ u. incidence K u z) (over K (simplex_at K x) r) e in
        let at = run-in (is_over K (simplex_at K x) r) (length K) some.0 some.1 in
        let both = and_parts (lies_in (simplex_at K x) (simplex_at K some.0)) (nat_eq (length (simplex_at K some.0)) (length (simplex_at K x) + r)) at.1 in
        let face = FaceAt-incidence K some.0 z some.2 in
        let up : Picks (simplex_at K some.0) (simplex_at K z) =
        subst (λ (l : List ℕ). Picks l (simplex_at K z)) (sym face.is) (Picks-remove (simplex_at K z) (simplex_at K z) face.place (Picks-self (simplex_at K z))) in
        and_from (lies_in (simplex_at K x) (simplex_at K z)) (nat_eq (length (simplex_at K z)) (length (simplex_at K x) + (r + 1)))
        (picks-lies (simplex_at K x) (simplex_at K z)
        (picks-through (simplex_at K x) (simplex_at K some.0) (simplex_at K z) (lying-picks K c x some.0 h at.0 both.0) up))
        (eq-eqb (length (simplex_at K z)) (length (simplex_at K x) + (r + 1))
        (omega (arith, FaceAt-length face, eqb-true (length (simplex_at K some.0)) (length (simplex_at K x) + r) both.1)))

    back : (z : ℕ) → z < length K → is_over K (simplex_at K x) (r + 1) z ≡ true → list_any (λ u. incidence K u z) (over K (simplex_at K x) r) ≡ true
    back z lt e =
        let both = and_parts (lies_in (simplex_at K x) (simplex_at K z)) (nat_eq (length (simplex_at K z)) (length (simplex_at K x) + (r + 1))) e in
        let long : length (simplex_at K z) ≡ length (simplex_at K x) + (r + 1) = eqb-true (length (simplex_at K z)) (length (simplex_at K x) + (r + 1)) both.1 in
        let step = picks-step (simplex_at K x) (simplex_at K z) (lying-picks K c x z h lt both.0) (omega (arith, long)) in
        let some : 0 < length (simplex_at K x) = (c.simplices x h).nonempty in
        let face : HasFace K z step.place = c.closed z step.place lt (omega (arith, long, some)) step.below in
        let below : face.id < length K = omega (arith, face.earlier, lt) in
        let shorter : length (simplex_at K face.id) + 1 ≡ length (simplex_at K z) =
        ap (λ l. length l + 1) face.is ∙ length-remove (simplex_at K z) step.place step.below in
        let in_face : Picks (simplex_at K x) (simplex_at K face.id) = subst (λ (l : List ℕ). Picks (simplex_at K x) l) (sym face.is) step.picks in
        let in_z : Picks (simplex_at K face.id) (simplex_at K z) =
        subst (λ (l : List ℕ). Picks l (simplex_at K z)) (sym face.is) (Picks-remove (simplex_at K z) (simplex_at K z) step.place (Picks-self (simplex_at K z))) in
        any-holds (λ u. incidence K u z) (over K (simplex_at K x) r) face.id
        (run-holds (is_over K (simplex_at K x) r) (length K) face.id below
        (and_from (lies_in (simplex_at K x) (simplex_at K face.id)) (nat_eq (length (simplex_at K face.id)) (length (simplex_at K x) + r))
        (picks-lies (simplex_at K x) (simplex_at K face.id) in_face)
        (eq-eqb (length (simplex_at K face.id)) (length (simplex_at K x) + r) (omega (arith, shorter, long)))))
        (picks-incidence K c face.id z below lt in_z (omega (arith, shorter)))

-- the vertices of u that s lacks
pub rest-parts : (s u : List ℕ) (v : ℕ) → set_of (rest s u) v ≡ true → (not (set_of s v) ≡ true) × (set_of u v ≡ true)
rest-parts s u v m = and_parts (not (set_of s v)) (set_of u v) (sym (set_of-filter (λ w. not (set_of s w)) u v) ∙ m)

pub rest-holds : (s u : List ℕ) (v : ℕ) → not (set_of s v) ≡ true → set_of u v ≡ true → set_of (rest s u) v ≡ true
rest-holds s u v n m = set_of-filter (λ w. not (set_of s w)) u v ∙ and_from (not (set_of s v)) (set_of u v) n m

-- s and they make u
pub rest-union : (s u : List ℕ) → lies_in s u ≡ true → is_union s (rest s u) u ≡ true
rest-union s u e =
    and_from (lies_in s u) (lies_in (rest s u) u && list_all (λ v. set_of s v || set_of (rest s u) v) u) e
    (and_from (lies_in (rest s u) u) (list_all (λ v. set_of s v || set_of (rest s u) v) u)
    (all-from (set_of u) (rest s u) (λ v m. (rest-parts s u v m).1))
    (all-from (λ v. set_of s v || set_of (rest s u) v) u (λ v m. by v m (set_of s v) refl)))
  where
    by : (v : ℕ) → set_of u v ≡ true → (b : Bool) → set_of s v ≡ b → (set_of s v || set_of (rest s u) v) ≡ true
    by v m true i = or_left (set_of s v) (set_of (rest s u) v) i
    by v m false i = or_right (set_of s v) (set_of (rest s u) v) (rest-holds s u v (ap not i) m)

pub rest-apart : (s u : List ℕ) → are_apart s (rest s u) ≡ true
rest-apart s u = all-from (λ v. not (set_of s v)) (rest s u) (λ v m. (rest-parts s u v m).0)

pub rest-linked : (K : Complex) (s : List ℕ) (z : ℕ) → z < length K → lies_in s (simplex_at K z) ≡ true → in_link K s (rest s (simplex_at K z)) ≡ true
rest-linked K s z h e =
    and_from (are_apart s (rest s (simplex_at K z))) (list_any (is_union s (rest s (simplex_at K z))) K) (rest-apart s (simplex_at K z))
    (list_any_at (is_union s (rest s (simplex_at K z))) K z [] h (rest-union s (simplex_at K z) e))

-- a union, taken apart
pub union-parts : (s t u : List ℕ) → is_union s t u ≡ true
    → (lies_in s u ≡ true) × ((lies_in t u ≡ true) × (list_all (λ v. set_of s v || set_of t v) u ≡ true))
union-parts s t u e =
    let outer = and_parts (lies_in s u) (lies_in t u && list_all (λ v. set_of s v || set_of t v) u) e in
    (outer.0, and_parts (lies_in t u) (list_all (λ v. set_of s v || set_of t v) u) outer.1)

-- what the union of s and t has besides s is t, where they have no vertex in common
pub union-rest : (s t u : List ℕ) → IsStrictlyIncreasing t → IsStrictlyIncreasing u → are_apart s t ≡ true → is_union s t u ≡ true → t ≡ rest s u
union-rest s t u tp up apart e = same_ascending t (rest s u) tp (IsStrictlyIncreasing-filter (λ v. not (set_of s v)) u up) (λ i v. same v i)
  where
    parts : (lies_in s u ≡ true) × ((lies_in t u ≡ true) × (list_all (λ v. set_of s v || set_of t v) u ≡ true))
    parts = union-parts s t u e

    back : (v : ℕ) → (not (set_of s v) ≡ true) → (set_of s v || set_of t v) ≡ true → set_of t v ≡ true
    back v n m = ⊎_elim
        (λ (in_s : set_of s v ≡ true). absurd (true≢false (sym n ∙ ap not in_s)))
        (λ (in_t : set_of t v ≡ true). in_t)
        (or_cases (set_of s v) (set_of t v) m)

    same : (v : ℕ) → set_of t v ≡ set_of (rest s u) v
    same v = tests-same (set_of t v) (set_of (rest s u) v)
        (λ m. rest-holds s u v (all-at (λ w. not (set_of s w)) t apart v m) (all-at (set_of u) t parts.1.0 v m))
        (λ m. let at = rest-parts s u v m in back v at.0 (all-at (λ w. set_of s w || set_of t w) u parts.1.1 v at.1))

-- then the union is longer than s
pub union-longer : (s t u : List ℕ) → IsSimplex s → IsSimplex t → IsSimplex u → are_apart s t ≡ true → is_union s t u ≡ true → length s < length u
union-longer s t u cs ct cu apart e = ⊎_elim
    (λ (lt : length s < length u). lt)
    (λ (le : length u ≤ length s). absurd (none (picks-same s u within (omega (arith, le, Picks-length s u within)))))
    (cases_lt (length s) (length u))
  where
    parts : (lies_in s u ≡ true) × ((lies_in t u ≡ true) × (list_all (λ v. set_of s v || set_of t v) u ≡ true))
    parts = union-parts s t u e

    within : Picks s u
    within = lies-picks 0 0 s u (Rises-ascending s cs.ascending) (Rises-ascending u cu.ascending) parts.0

    none : s ≡ u → ⊥
    none same =
        let first : set_of t (get_or t 0 0) ≡ true = set_of-at t 0 ct.nonempty in
        let in_s : set_of s (get_or t 0 0) ≡ true = ap (λ (l : List ℕ). set_of l (get_or t 0 0)) same ∙ all-at (set_of u) t parts.1.0 (get_or t 0 0) first in
        true≢false (sym (all-at (λ w. not (set_of s w)) t apart (get_or t 0 0) first) ∙ ap not in_s)

pub reached-none : (K : Complex) (s : List ℕ) → IsReached K s 0 []
reached-none K s = record {
  linked = λ t e. absurd (true≢false (sym e));
  all = λ z t h lt e longer most is. absurd (omega (arith, longer, most));
}

pub reached-more : (K : Complex) (s : List ℕ) (r : ℕ) (old new : List ℕ) → IsReached K s r old
    → ((t : ℕ) → set_of new t ≡ (set_of old t || list_any (λ z. is_rest K s z t) (over K s (r + 1)))) → IsReached K s (r + 1) new
reached-more K s r old new R set = record { linked = linked; all = all }
  where
    linked : (t : ℕ) → set_of new t ≡ true → (t < length K) × (in_link K s (simplex_at K t) ≡ true)
    linked t e = ⊎_elim
        (λ (before : set_of old t ≡ true). R.linked t before)
        (λ (now : list_any (λ z. is_rest K s z t) (over K s (r + 1)) ≡ true).
        let some = any-found (λ z. is_rest K s z t) (over K s (r + 1)) now in
        let at = run-in (is_over K s (r + 1)) (length K) some.0 some.1 in
        let lies = (and_parts (lies_in s (simplex_at K some.0)) (nat_eq (length (simplex_at K some.0)) (length s + (r + 1))) at.1).0 in
        let both = and_parts (nat_lt t (length K)) (same_list (simplex_at K t) (rest s (simplex_at K some.0))) some.2 in (
          ltb-true t (length K) both.0,
          ap (in_link K s) (same_list-true (simplex_at K t) (rest s (simplex_at K some.0)) both.1) ∙ rest-linked K s some.0 at.0 lies,
        ))
        (or_cases (set_of old t) (list_any (λ z. is_rest K s z t) (over K s (r + 1))) (sym (set t) ∙ e))

    all : (z t : ℕ) → z < length K → t < length K → lies_in s (simplex_at K z) ≡ true → length s < length (simplex_at K z)
        → length (simplex_at K z) ≤ length s + (r + 1) → simplex_at K t ≡ rest s (simplex_at K z) → set_of new t ≡ true
    all z t h lt e longer most is = ⊎_elim
        (λ (less : length (simplex_at K z) < length s + (r + 1)).
        set t ∙ or_left (set_of old t) (list_any (λ y. is_rest K s y t) (over K s (r + 1))) (R.all z t h lt e longer (omega (arith, less)) is))
        (λ (le : length s + (r + 1) ≤ length (simplex_at K z)).
        set t ∙ or_right (set_of old t) (list_any (λ y. is_rest K s y t) (over K s (r + 1)))
        (any-holds (λ y. is_rest K s y t) (over K s (r + 1)) z
        (run-holds (is_over K s (r + 1)) (length K) z h
        (and_from (lies_in s (simplex_at K z)) (nat_eq (length (simplex_at K z)) (length s + (r + 1))) e
        (eq-eqb (length (simplex_at K z)) (length s + (r + 1)) (omega (arith, le, most)))))
        (and_from (nat_lt t (length K)) (same_list (simplex_at K t) (rest s (simplex_at K z))) (lt-ltb t (length K) lt)
        (same_list-same (simplex_at K t) (rest s (simplex_at K z)) is))))
        (cases_lt (length (simplex_at K z)) (length s + (r + 1)))

pub reached-all : (K : Complex) → IsComplex K → (x r : ℕ) (ids xs : List ℕ) → x < length K → dimensions K ≤ length (simplex_at K x) + r → IsReached K (simplex_at K x) r ids
    → IsStrictlyIncreasing xs → ((t : ℕ) → set_of xs t ≡ set_of ids t) → xs ≡ link_ids K (simplex_at K x)
reached-all K c x r ids xs h wide R up same = listed (λ t. in_link K (simplex_at K x) (simplex_at K t)) (length K) xs up (λ t e. R.linked t (sym (same t) ∙ e)) back
  where
    back : (t : ℕ) → t < length K → in_link K (simplex_at K x) (simplex_at K t) ≡ true → set_of xs t ≡ true
    back t lt e =
        let both = and_parts (are_apart (simplex_at K x) (simplex_at K t)) (list_any (is_union (simplex_at K x) (simplex_at K t)) K) e in
        let some = found-at (is_union (simplex_at K x) (simplex_at K t)) K both.1 in
        let cu = c.simplices some.0 some.1 in
        same t ∙ R.all some.0 t some.1 lt (union-parts (simplex_at K x) (simplex_at K t) (simplex_at K some.0) some.2).0
        (union-longer (simplex_at K x) (simplex_at K t) (simplex_at K some.0) (c.simplices x h) (c.simplices t lt) cu both.0 some.2)
        (omega (arith, wide, longest-least K 0 some.0 some.1))
        (union-rest (simplex_at K x) (simplex_at K t) (simplex_at K some.0) (c.simplices t lt).ascending cu.ascending both.0 some.2)

-- one more or none of some values of which one may be true
pub or-none : (a : Bool) → a ≡ (a || false)
or-none true = refl
or-none false = refl

pub or-more : (x y a b z w : Bool) → x ≡ (y || z) → y ≡ (a || b) → w ≡ (b || z) → x ≡ (a || w)
or-more x y a b z w e f g = e ∙ (λ i. f i || z) ∙ turned a b z ∙ (λ i. a || sym g i)
  where
    turned : (p q r : Bool) → ((p || q) || r) ≡ (p || (q || r))
    turned true q r = refl
    turned false q r = refl

-- what is appended where a simplex is found, and where none is
pub rest-found : (K : Complex) → IsComplex K → (s : List ℕ) (z found : ℕ) (ids new : List ℕ) → found < length K → simplex_at K found ≡ rest s (simplex_at K z)
    → new ≡ ids ++ found ∷ [] → (t : ℕ) → set_of new t ≡ (set_of ids t || is_rest K s z t)
rest-found K c s z found ids new h is more t =
    ap (λ l. set_of l t) more
    ∙ list_any-append (λ x. nat_eq t x) ids (found ∷ [])
    ∙ ap (λ b. set_of ids t || b) (sym (or-none (nat_eq t found)) ∙ tests-same (nat_eq t found) (is_rest K s z t) there back)
  where
    there : nat_eq t found ≡ true → is_rest K s z t ≡ true
    there e =
        let same : t ≡ found = eqb-true t found e in
        and_from (nat_lt t (length K)) (same_list (simplex_at K t) (rest s (simplex_at K z)))
        (lt-ltb t (length K) (omega (arith, same, h)))
        (same_list-same (simplex_at K t) (rest s (simplex_at K z)) (ap (simplex_at K) same ∙ is))

    back : is_rest K s z t ≡ true → nat_eq t found ≡ true
    back e =
        let both = and_parts (nat_lt t (length K)) (same_list (simplex_at K t) (rest s (simplex_at K z))) e in
        eq-eqb t found (c.distinct t found (ltb-true t (length K) both.0) h (same_list-true (simplex_at K t) (rest s (simplex_at K z)) both.1 ∙ sym is))

pub rest-lost : (K : Complex) (s : List ℕ) (z : ℕ) (ids new : List ℕ) → ((t : ℕ) → t < length K → simplex_at K t ≡ rest s (simplex_at K z) → ⊥) → new ≡ ids
    → (t : ℕ) → set_of new t ≡ (set_of ids t || is_rest K s z t)
rest-lost K s z ids new none same t =
    ap (λ l. set_of l t) same
    ∙ or-none (set_of ids t)
    ∙ ap (λ b. set_of ids t || b) (sym (false_from_ne_true (is_rest K s z t) (λ e.
    let both = and_parts (nat_lt t (length K)) (same_list (simplex_at K t) (rest s (simplex_at K z))) e in
    none t (ltb-true t (length K) both.0) (same_list-true (simplex_at K t) (rest s (simplex_at K z)) both.1))))

-- what a simplex has besides ascends
pub rest-ascending : (s u : List ℕ) → IsStrictlyIncreasing u → IsStrictlyIncreasing (rest s u)
rest-ascending s u up = IsStrictlyIncreasing-filter (λ v. not (set_of s v)) u up

pub linked-within : (K : Complex) (s : List ℕ) → All (λ t. t < length K) (link_ids K s)
linked-within K s = set_of-All (λ t. t < length K) (link_ids K s) (λ t e. (run-in (λ x. in_link K s (simplex_at K x)) (length K) t e).0)
