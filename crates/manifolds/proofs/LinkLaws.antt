-- The link of a simplex is a complex.
--     all-at, all-from        a test that passes on a list passes at each of its numbers, and back
--     is_union-face           the union without a vertex of t is the union with the face of t
--     in_link-face            so the faces of those in a link are in it
--     link-there, there-link  what is in a link
--     link-members            just those of the complex that belong to it
--     link-grows, link-complex
--                             the simplices of a link may come one after another in simplex order
use Rattle.std.proofs.Common.{◌≡◌, ◌≢◌, ℕ, zero, suc, ◌+◌, ◌<◌, ◌≤◌, Bool, true, false, cond, not, ◌&&◌, ◌||◌, List, [], ◌∷◌, map, length, get_or, nat_eq, refl, sym, ap, subst, ◌∙◌, arith, eqb-true, eq-eqb, ⊎_elim}
use Rattle.std.specs.List.{filter, list_all, list_any, range_with_len, remove}
use Rattle.std.specs.List.Sorted.{IsStrictlyIncreasing}
use Rattle.std.proofs.lemmas.Bool.{true≢false, and_parts, and_from, or_cases, or_left, or_right, false_from_ne_true}
use Rattle.std.proofs.lemmas.List.Folds.{list_any_at}
use Rattle.homology.specs.Parity.{xor}
use Rattle.homology.specs.Sets.{set_of}
use Rattle.homology.specs.Simplices.{IsSimplex, same_list}
use Rattle.homology.specs.Complexes.{Complex, IsComplex, HasFace, simplex_at}
use Rattle.homology.specs.Growth.{is_there}
use Rattle.homology.proofs.ParityLaws.{nat_eq-self, nat_eq-apart}
use Rattle.homology.proofs.KindSteps.{tests-same}
use Rattle.homology.proofs.KindLaws.{set_of-filter, set_of-range, set_of-range_holds}
use Rattle.homology.proofs.ListSetLaws.{Rises-ascending, set_of-remove}
use Rattle.homology.proofs.BoundaryLaws.{same_list-same, same_list-true, IsComplex-empty}
use Rattle.homology.proofs.FaceLists.{Distinct, Picks-length}
use Rattle.homology.proofs.FacetLaws.{HasFaces, Grows, IsComplex-grows}
use Rattle.manifolds.specs.Closed.{lies_in}
use Rattle.manifolds.specs.Links.{is_union, are_apart, in_link, link}
use Rattle.manifolds.proofs.LyingLaws.{lies-picks}
use Rattle.manifolds.proofs.OrderedLaws.{Growing, there-ordered, growing-ordered, distinct-ordered, grows-ordered}

pub all-at : (p : ℕ → Bool) (xs : List ℕ) → list_all p xs ≡ true → (v : ℕ) → set_of xs v ≡ true → p v ≡ true
all-at p [] e v m = absurd (true≢false (sym m))
all-at p (x ∷ xs) e v m =
    let both = and_parts (p x) (list_all p xs) e in
    ⊎_elim
    (λ (same : nat_eq v x ≡ true). ap p (eqb-true v x same) ∙ both.0)
    (λ (later : set_of xs v ≡ true). all-at p xs both.1 v later)
    (or_cases (nat_eq v x) (set_of xs v) m)

pub all-from : (p : ℕ → Bool) (xs : List ℕ) → ((v : ℕ) → set_of xs v ≡ true → p v ≡ true) → list_all p xs ≡ true
all-from p [] h = refl
all-from p (x ∷ xs) h =
    and_from (p x) (list_all p xs) (h x (or_left (nat_eq x x) (set_of xs x) (nat_eq-self x)))
    (all-from p xs (λ v m. h v (or_right (nat_eq v x) (set_of xs v) m)))

-- the place of a number in a list
pub place-of : (xs : List ℕ) (v : ℕ) → set_of xs v ≡ true → (j : ℕ) × (j < length xs) × (get_or xs j 0 ≡ v)
place-of [] v m = absurd (true≢false (sym m))
place-of (x ∷ xs) v m = ⊎_elim
    (λ (same : nat_eq v x ≡ true). (0, omega arith, sym (eqb-true v x same)))
    (λ (later : set_of xs v ≡ true). let rest = place-of xs v later in (suc rest.0, omega (arith, rest.1), rest.2))
    (or_cases (nat_eq v x) (set_of xs v) m)

-- a number stands in a list, at its place
pub set_of-at : (xs : List ℕ) (j : ℕ) → j < length xs → set_of xs (get_or xs j 0) ≡ true
set_of-at xs j h = list_any_at (λ t. nat_eq (get_or xs j 0) t) xs j 0 h (nat_eq-self (get_or xs j 0))

-- the others are left when a number is taken out of an ascending list, and it is not
pub removed-other : (xs : List ℕ) (j w : ℕ) → IsStrictlyIncreasing xs → j < length xs → set_of xs w ≡ true → w ≢ get_or xs j 0 → set_of (remove xs j) w ≡ true
removed-other xs j w up h m other =
    ap (λ z. z w) (set_of-remove xs j up h) ∙ (λ i. xor (m i) (nat_eq-apart w (get_or xs j 0) other i))

pub removed-in : (xs : List ℕ) (j w : ℕ) → IsStrictlyIncreasing xs → j < length xs → set_of (remove xs j) w ≡ true → (set_of xs w ≡ true) × (w ≢ get_or xs j 0)
removed-in xs j w up h m = by (set_of xs w) (nat_eq w (get_or xs j 0)) refl refl (sym (ap (λ z. z w) (set_of-remove xs j up h)) ∙ m)
  where
    by : (a b : Bool) → set_of xs w ≡ a → nat_eq w (get_or xs j 0) ≡ b → xor a b ≡ true → (set_of xs w ≡ true) × (w ≢ get_or xs j 0)
    by true true e f x = absurd (true≢false (sym x))
    by true false e f x = (e, λ q. true≢false (sym (eq-eqb w (get_or xs j 0) q) ∙ f))
    by false true e f x = absurd (true≢false (sym (set_of-at xs j h) ∙ sym (ap (set_of xs) (eqb-true w (get_or xs j 0) f)) ∙ e))
    by false false e f x = absurd (true≢false (sym x))

-- the union of s and t without a vertex of t, which is no vertex of s
pub is_union-face : (s t u : List ℕ) (k j : ℕ) → IsSimplex t → IsSimplex u → k < length t → j < length u → get_or u j 0 ≡ get_or t k 0
    → are_apart s t ≡ true → is_union s t u ≡ true → is_union s (remove t k) (remove u j) ≡ true
is_union-face s t u k j ct cu hk hj same apart e =
    and_from (lies_in s (remove u j)) (lies_in (remove t k) (remove u j) && list_all (λ v. set_of s v || set_of (remove t k) v) (remove u j))
    (all-from (set_of (remove u j)) s (λ v m. removed-other u j v cu.ascending hj (all-at (set_of u) s parts.0 v m) (λ q. not_s v m (q ∙ same))))
    (and_from (lies_in (remove t k) (remove u j)) (list_all (λ v. set_of s v || set_of (remove t k) v) (remove u j))
    (all-from (set_of (remove u j)) (remove t k) (λ v m.
    let in_t = removed-in t k v ct.ascending hk m in removed-other u j v cu.ascending hj (all-at (set_of u) t more.0 v in_t.0) (λ q. in_t.1 (q ∙ same))))
    (all-from (λ v. set_of s v || set_of (remove t k) v) (remove u j) (λ v m.
    let in_u = removed-in u j v cu.ascending hj m in
    ⊎_elim
    (λ (in_s : set_of s v ≡ true). or_left (set_of s v) (set_of (remove t k) v) in_s)
    (λ (in_t : set_of t v ≡ true). or_right (set_of s v) (set_of (remove t k) v) (removed-other t k v ct.ascending hk in_t (λ q. in_u.1 (q ∙ sym same))))
    (or_cases (set_of s v) (set_of t v) (all-at (λ w. set_of s w || set_of t w) u more.1 v in_u.0)))))
  where
    parts : (lies_in s u ≡ true) × ((lies_in t u && list_all (λ v. set_of s v || set_of t v) u) ≡ true)
    parts = and_parts (lies_in s u) (lies_in t u && list_all (λ v. set_of s v || set_of t v) u) e

    more : (lies_in t u ≡ true) × (list_all (λ v. set_of s v || set_of t v) u ≡ true)
    more = and_parts (lies_in t u) (list_all (λ v. set_of s v || set_of t v) u) parts.1

    not_s : (v : ℕ) → set_of s v ≡ true → v ≢ get_or t k 0
    not_s v m q =
        let here : set_of t v ≡ true = ap (set_of t) q ∙ set_of-at t k hk in
        true≢false (sym (all-at (λ w. not (set_of s w)) t apart v here) ∙ ap not m)

-- an ascending list lies in no shorter one
pub lies-length : (t u : List ℕ) → IsSimplex t → IsSimplex u → lies_in t u ≡ true → length t ≤ length u
lies-length t u ct cu e = Picks-length t u (lies-picks 0 0 t u (Rises-ascending t ct.ascending) (Rises-ascending u cu.ascending) e)

-- a list that passes a test stands somewhere
pub found-at : (test : List ℕ → Bool) (K : Complex) → list_any test K ≡ true → (x : ℕ) × (x < length K) × (test (simplex_at K x) ≡ true)
found-at test [] e = absurd (true≢false (sym e))
found-at test (s ∷ K) e = ⊎_elim
    (λ (first : test s ≡ true). (0, omega arith, first))
    (λ (later : list_any test K ≡ true). let rest = found-at test K later in (suc rest.0, omega (arith, rest.1), rest.2))
    (or_cases (test s) (list_any test K) e)

pub in_link-face : (K : Complex) → IsComplex K → (s t : List ℕ) → IsSimplex t → in_link K s t ≡ true → (k : ℕ) → 1 < length t → k < length t
    → in_link K s (remove t k) ≡ true
in_link-face K c s t ct e k wide hk =
    let both = and_parts (are_apart s t) (list_any (is_union s t) K) e in
    let y = found-at (is_union s t) K both.1 in
    let cu : IsSimplex (simplex_at K y.0) = c.simplices y.0 y.1 in
    let u_parts = and_parts (lies_in s (simplex_at K y.0)) (lies_in t (simplex_at K y.0) && list_all (λ v. set_of s v || set_of t v) (simplex_at K y.0)) y.2 in
    let t_in_u = (and_parts (lies_in t (simplex_at K y.0)) (list_all (λ v. set_of s v || set_of t v) (simplex_at K y.0)) u_parts.1).0 in
    let j = place-of (simplex_at K y.0) (get_or t k 0) (all-at (set_of (simplex_at K y.0)) t t_in_u (get_or t k 0) (set_of-at t k hk)) in
    let union = is_union-face s t (simplex_at K y.0) k j.0 ct cu hk j.1 j.2 both.0 y.2 in
    let more : 1 < length (simplex_at K y.0) = omega (arith, wide, lies-length t (simplex_at K y.0) ct cu t_in_u) in
    let face : HasFace K y.0 j.0 = c.closed y.0 j.0 y.1 more j.1 in
    and_from (are_apart s (remove t k)) (list_any (is_union s (remove t k)) K)
    (all-from (λ v. not (set_of s v)) (remove t k) (λ v m. all-at (λ w. not (set_of s w)) t both.0 v (removed-in t k v ct.ascending hk m).0))
    (list_any_at (is_union s (remove t k)) K face.id [] (omega (arith, face.earlier, y.1)) (ap (is_union s (remove t k)) face.is ∙ union))

-- the ids of the simplices in the link
abbrev link_ids : Complex → List ℕ → List ℕ
link_ids K s = filter (λ x. in_link K s (simplex_at K x)) (range_with_len 0 (length K))

-- a list of simplices by their ids has those of the ids
map-there : (K : Complex) (xs : List ℕ) (t : List ℕ) → is_there (map (simplex_at K) xs) t ≡ true → (x : ℕ) × (set_of xs x ≡ true) × (simplex_at K x ≡ t)
map-there K [] t e = absurd (true≢false (sym e))
map-there K (x ∷ xs) t e = ⊎_elim
    (λ (first : same_list t (simplex_at K x) ≡ true). (x, or_left (nat_eq x x) (set_of xs x) (nat_eq-self x), sym (same_list-true t (simplex_at K x) first)))
    (λ (later : is_there (map (simplex_at K) xs) t ≡ true).
    let rest = map-there K xs t later in (rest.0, or_right (nat_eq rest.0 x) (set_of xs rest.0) rest.1, rest.2))
    (or_cases (same_list t (simplex_at K x)) (is_there (map (simplex_at K) xs) t) e)

there-map : (K : Complex) (xs : List ℕ) (t : List ℕ) (x : ℕ) → set_of xs x ≡ true → simplex_at K x ≡ t → is_there (map (simplex_at K) xs) t ≡ true
there-map K [] t x m e = absurd (true≢false (sym m))
there-map K (y ∷ xs) t x m e = ⊎_elim
    (λ (same : nat_eq x y ≡ true). or_left (same_list t (simplex_at K y)) (is_there (map (simplex_at K) xs) t) (same_list-same t (simplex_at K y) (sym e ∙ ap (simplex_at K) (eqb-true x y same))))
    (λ (later : set_of xs x ≡ true). or_right (same_list t (simplex_at K y)) (is_there (map (simplex_at K) xs) t) (there-map K xs t x later e))
    (or_cases (nat_eq x y) (set_of xs x) m)

pub record InLink (K : Complex) (s t : List ℕ) : Type 0 where
  pub id : ℕ
  pub below : id < length K
  pub is : simplex_at K id ≡ t
  pub linked : in_link K s t ≡ true

pub link-there : (K : Complex) (s t : List ℕ) → is_there (link K s) t ≡ true → InLink K s t
unfolding link
link-there K s t e =
    let x = map-there K (link_ids K s) t (sym (there-ordered (map (simplex_at K) (link_ids K s)) t) ∙ e) in
    let both = and_parts (in_link K s (simplex_at K x.0)) (set_of (range_with_len 0 (length K)) x.0)
    (sym (set_of-filter (λ y. in_link K s (simplex_at K y)) (range_with_len 0 (length K)) x.0) ∙ x.1) in
    record { id = x.0; below = omega (arith, (set_of-range 0 (length K) x.0 both.1).1); is = x.2; linked = ap (in_link K s) (sym x.2) ∙ both.0 }

pub there-link : (K : Complex) (s t : List ℕ) (x : ℕ) → x < length K → simplex_at K x ≡ t → in_link K s t ≡ true → is_there (link K s) t ≡ true
unfolding link
there-link K s t x h e linked =
    there-ordered (map (simplex_at K) (link_ids K s)) t
    ∙ there-map K (link_ids K s) t x
    (set_of-filter (λ y. in_link K s (simplex_at K y)) (range_with_len 0 (length K)) x
    ∙ and_from (in_link K s (simplex_at K x)) (set_of (range_with_len 0 (length K)) x) (ap (in_link K s) e ∙ linked) (set_of-range_holds 0 (length K) x (omega arith) (omega (arith, h))))
    e

-- simplices of a run of ids are distinct
distinct-run : (K : Complex) → IsComplex K → (p : ℕ → Bool) (a n : ℕ) → a + n ≤ length K → Distinct (map (simplex_at K) (filter p (range_with_len a n)))
distinct-run K c p a zero h = tt
distinct-run K c p a (suc n) h = by (p a) (distinct-run K c p (a + 1) n (omega (arith, h)))
  where
    none : is_there (map (simplex_at K) (filter p (range_with_len (a + 1) n))) (simplex_at K a) ≡ false
    none = false_from_ne_true (is_there (map (simplex_at K) (filter p (range_with_len (a + 1) n))) (simplex_at K a)) (λ e.
        let x = map-there K (filter p (range_with_len (a + 1) n)) (simplex_at K a) e in
        let both = and_parts (p x.0) (set_of (range_with_len (a + 1) n) x.0) (sym (set_of-filter p (range_with_len (a + 1) n) x.0) ∙ x.1) in
        let at = set_of-range (a + 1) n x.0 both.1 in
        omega (arith, at.0, c.distinct x.0 a (omega (arith, at.1, h)) (omega (arith, h)) x.2))

    by : (b : Bool) → Distinct (map (simplex_at K) (filter p (range_with_len (a + 1) n)))
        → Distinct (map (simplex_at K) (cond b (a ∷ filter p (range_with_len (a + 1) n)) (filter p (range_with_len (a + 1) n))))
    by true rest = (none, rest)
    by false rest = rest

-- the simplices of a link are simplices, each once, with no fewer vertices than those before
link-simplices : (K : Complex) → IsComplex K → (s t : List ℕ) → is_there (link K s) t ≡ true → IsSimplex t
link-simplices K c s t e = let x = link-there K s t e in subst IsSimplex x.is (c.simplices x.id x.below)

link-distinct : (K : Complex) → IsComplex K → (s : List ℕ) → Distinct (link K s)
unfolding link
link-distinct K c s = distinct-ordered (map (simplex_at K) (link_ids K s)) (distinct-run K c (λ x. in_link K s (simplex_at K x)) 0 (length K) (omega arith))

link-growing : (K : Complex) → IsComplex K → (s : List ℕ) → Growing 1 (link K s)
unfolding link
link-growing K c s = growing-ordered (map (simplex_at K) (link_ids K s))
    (λ u h. link-simplices K c s u (there-ordered (map (simplex_at K) (link_ids K s)) u ∙ h))

link-faces : (K : Complex) → IsComplex K → (s t : List ℕ) → is_there (link K s) t ≡ true → HasFaces (link K s) t
link-faces K c s t e k wide hk =
    let x = link-there K s t e in
    let face : HasFace K x.id k = c.closed x.id k x.below (subst (λ (l : List ℕ). 1 < length l) (sym x.is) wide) (subst (λ (l : List ℕ). k < length l) (sym x.is) hk) in
    there-link K s (remove t k) face.id (omega (arith, face.earlier, x.below)) (face.is ∙ ap (λ l. remove l k) x.is)
    (in_link-face K c s t (link-simplices K c s t e) x.linked k wide hk)

pub link-grows : (K : Complex) → IsComplex K → (s : List ℕ) → Grows [] (link K s)
link-grows K c s = grows-ordered 1 [] (link K s) (link-faces K c s) (link-simplices K c s) (λ t h. refl) (link-distinct K c s) (link-growing K c s)

pub link-complex : (K : Complex) → IsComplex K → (s : List ℕ) → IsComplex (link K s)
link-complex K c s = IsComplex-grows [] (link K s) IsComplex-empty (link-grows K c s)

-- a list that is there has an id
pub there-id : (K : Complex) (t : List ℕ) → is_there K t ≡ true → (x : ℕ) × (x < length K) × (simplex_at K x ≡ t)
there-id K t e = let x = found-at (same_list t) K e in (x.0, x.1, sym (same_list-true t (simplex_at K x.0) x.2))

pub link-members : (K : Complex) (s t : List ℕ) → is_there (link K s) t ≡ (is_there K t && in_link K s t)
link-members K s t = tests-same (is_there (link K s) t) (is_there K t && in_link K s t)
    (λ e. let x = link-there K s t e in
    and_from (is_there K t) (in_link K s t) (list_any_at (same_list t) K x.id [] x.below (same_list-same t (simplex_at K x.id) (sym x.is))) x.linked)
    (λ e. let both = and_parts (is_there K t) (in_link K s t) e in
    let x = there-id K t both.0 in
    there-link K s t x.0 x.1 x.2 both.1)
