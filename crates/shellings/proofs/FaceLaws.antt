-- Faces of a simplex of a complex, with and without one of its vertices.
--     face-found                a list of some of its vertices is a simplex
--     with_vertex t v y         the face of t with the vertices of y and v
--     with_without, without_with     one after the other
--     length-without            a vertex less
--     delta-at                  the sum over the faces of s, where only that without v counts
--     some-fails                a test fails at some vertex, or holds at all
use Rattle.std.proofs.Common.{◌≡◌, ℕ, ◌+◌, ◌<◌, Bool, true, false, cond, ◌&&◌, ◌||◌, not, List, [], ◌∷◌, length, nat_eq, refl, sym, ap, ◌∙◌, subst, arith, eqb-true, eq-eqb, ⊎_elim, inl, inr, ◌⊎◌}
use Rattle.std.specs.List.{filter}
use Rattle.std.specs.List.Sorted.{IsStrictlyIncreasing}
use Rattle.std.proofs.lemmas.Bool.{true≢false, and_parts, and_from, or_cases, or_left, or_right, cases_Bool, cases_eq}
use Rattle.homology.specs.Parity.{xor}
use Rattle.homology.specs.Sets.{Ids, set_of}
use Rattle.homology.specs.Complexes.{Complex, IsComplex, simplex_at}
use Rattle.homology.proofs.ParityLaws.{xor-false, nat_eq-self, nat_eq-apart}
use Rattle.homology.proofs.SetLaws.{same_members}
use Rattle.homology.proofs.KindLaws.{set_of-filter}
use Rattle.homology.proofs.ListSetLaws.{Rises, Rises-ascending, ascending-Rises, same_ascending}
use Rattle.homology.proofs.FaceLists.{Picks, Picks-self, Picks-skip}
use Rattle.cohomology.proofs.Searching.{filter-rises}
use Rattle.products.proofs.SplittingLaws.{delta}
use Rattle.products.proofs.ValueLaws.{Found, picks-found}
use Rattle.manifolds.specs.Closed.{lies_in}
use Rattle.manifolds.proofs.LinkLaws.{all-at, all-from}
use Rattle.manifolds.proofs.LyingLaws.{lies-picks}
use Rattle.shellings.proofs.ShellingFacts.{without, without-in, without-has}

pub lying-picks : (s t : List ℕ) → IsStrictlyIncreasing s → IsStrictlyIncreasing t → lies_in s t ≡ true → Picks s t
lying-picks s t up vp e = lies-picks 0 0 s t (Rises-ascending s up) (Rises-ascending t vp) e

pub face-found : (L : Complex) → IsComplex L → (t y : List ℕ) → Found L t → IsStrictlyIncreasing y → lies_in y t ≡ true → 0 < length y → Found L y
face-found L c t y found up e some =
    let vp : IsStrictlyIncreasing (simplex_at L found.id) = (c.simplices found.id found.within).ascending in
    picks-found L c found.id y found.within (lying-picks y (simplex_at L found.id) up vp (ap (lies_in y) found.is ∙ e)) some

pub filter-ascends : (c : Ids) (s : List ℕ) → IsStrictlyIncreasing s → IsStrictlyIncreasing (filter c s)
filter-ascends c s up = ascending-Rises 0 (filter c s) (filter-rises c s (Rises-ascending s up))

abbrev pub with_vertex : List ℕ → ℕ → List ℕ → List ℕ
with_vertex t v y = filter (λ q. nat_eq q v || set_of y q) t

pub with_vertex-at : (t : List ℕ) (v : ℕ) (y : List ℕ) (q : ℕ) → set_of (with_vertex t v y) q ≡ ((nat_eq q v || set_of y q) && set_of t q)
with_vertex-at t v y q = set_of-filter (λ w. nat_eq w v || set_of y w) t q

pub with_vertex-lies : (t : List ℕ) (v : ℕ) (y : List ℕ) → lies_in (with_vertex t v y) t ≡ true
with_vertex-lies t v y = all-from (set_of t) (with_vertex t v y) (λ q m.
    (and_parts (nat_eq q v || set_of y q) (set_of t q) (sym (with_vertex-at t v y q) ∙ m)).1)

pub without-lies : (w : ℕ) (s : List ℕ) → lies_in (without w s) s ≡ true
without-lies w s = all-from (set_of s) (without w s) (λ q m. (without-in w s q m).0)

either_way : (a b : Bool) → (a ≡ true → b ≡ true) → (b ≡ true → a ≡ true) → a ≡ b
either_way true b f g = sym (f refl)
either_way false true f g = g refl
either_way false false f g = refl

pub with_without : (t s : List ℕ) (v : ℕ) → IsStrictlyIncreasing t → IsStrictlyIncreasing s → lies_in s t ≡ true → set_of s v ≡ true
    → with_vertex t v (without v s) ≡ s
with_without t s v up vp within there = same_ascending (with_vertex t v (without v s)) s (filter-ascends _ t up) vp
    (same_members (set_of (with_vertex t v (without v s))) (set_of s) (λ q. either_way (set_of (with_vertex t v (without v s)) q) (set_of s q)
    (λ m. ⊎_elim
    (λ (same : nat_eq q v ≡ true). ap (set_of s) (eqb-true q v same) ∙ there)
    (λ (other : set_of (without v s) q ≡ true). (without-in v s q other).0)
    (or_cases (nat_eq q v) (set_of (without v s) q)
    (and_parts (nat_eq q v || set_of (without v s) q) (set_of t q) (sym (with_vertex-at t v (without v s) q) ∙ m)).0))
    (λ m.
    with_vertex-at t v (without v s) q
    ∙ and_from (nat_eq q v || set_of (without v s) q) (set_of t q)
    (⊎_elim
    (λ (same : q ≡ v). or_left (nat_eq q v) (set_of (without v s) q) (eq-eqb q v same))
    (λ (other : q ≡ v → ⊥). or_right (nat_eq q v) (set_of (without v s) q) (without-has v s q m other))
    (cases_eq q v))
    (all-at (set_of t) s within q m))))

pub without_with : (t y : List ℕ) (v : ℕ) → IsStrictlyIncreasing t → IsStrictlyIncreasing y → lies_in y t ≡ true → set_of y v ≡ false
    → without v (with_vertex t v y) ≡ y
without_with t y v up vp within out = same_ascending (without v (with_vertex t v y)) y (filter-ascends _ (with_vertex t v y) (filter-ascends _ t up)) vp
    (same_members (set_of (without v (with_vertex t v y))) (set_of y) (λ q. either_way (set_of (without v (with_vertex t v y)) q) (set_of y q)
    (λ m.
    let into = without-in v (with_vertex t v y) q m in
    ⊎_elim
    (λ (same : nat_eq q v ≡ true). absurd (into.1 (eqb-true q v same)))
    (λ (other : set_of y q ≡ true). other)
    (or_cases (nat_eq q v) (set_of y q) (and_parts (nat_eq q v || set_of y q) (set_of t q) (sym (with_vertex-at t v y q) ∙ into.0)).0))
    (λ m. without-has v (with_vertex t v y) q
    (with_vertex-at t v y q
    ∙ and_from (nat_eq q v || set_of y q) (set_of t q) (or_right (nat_eq q v) (set_of y q) m) (all-at (set_of t) y within q m))
    (λ same. true≢false (sym m ∙ ap (set_of y) same ∙ out)))))

-- nothing is left out where v is below all
without-none : (v : ℕ) (s : List ℕ) → Rises (v + 1) s → without v s ≡ s
without-none v [] r = refl
without-none v (x ∷ s) r =
    ap (λ b. cond (not b) (x ∷ without v s) (without v s)) (nat_eq-apart x v (λ e. omega (arith, e, r.0)))
    ∙ ap (λ l. x ∷ l) (without-none v s (rest x s r))
  where
    rest : (x : ℕ) (s : List ℕ) → Rises (v + 1) (x ∷ s) → Rises (v + 1) s
    rest x [] r = tt
    rest x (y ∷ s) r = (omega (arith, r.0, r.1.0), r.1.1)

without-first : (v : ℕ) (s : List ℕ) → Rises (v + 1) s → without v (v ∷ s) ≡ s
without-first v s r = ap (λ b. cond (not b) (v ∷ without v s) (without v s)) (nat_eq-self v) ∙ without-none v s r

without-later : (v x : ℕ) (s : List ℕ) → (x ≡ v → ⊥) → without v (x ∷ s) ≡ x ∷ without v s
without-later v x s other = ap (λ b. cond (not b) (x ∷ without v s) (without v s)) (nat_eq-apart x v other)

member-later : (v x : ℕ) (s : List ℕ) → (x ≡ v → ⊥) → set_of (x ∷ s) v ≡ true → set_of s v ≡ true
member-later v x s other m = ⊎_elim
    (λ (here : nat_eq v x ≡ true). absurd (other (sym (eqb-true v x here))))
    (λ (later : set_of s v ≡ true). later)
    (or_cases (nat_eq v x) (set_of s v) m)

length-rising : (b v : ℕ) (s : List ℕ) → Rises b s → set_of s v ≡ true → length (without v s) + 1 ≡ length s
length-rising b v [] r m = absurd (true≢false (sym m))
length-rising b v (x ∷ s) r m = ⊎_elim
    (λ (same : x ≡ v).
    let cut : without v (x ∷ s) ≡ s = ap (λ z. without v (z ∷ s)) same ∙ without-first v s (subst (λ z. Rises (z + 1) s) same r.1) in
    omega (arith, ap length cut))
    (λ (other : x ≡ v → ⊥).
    omega (arith, ap length (without-later v x s other), length-rising (x + 1) v s r.1 (member-later v x s other m)))
    (cases_eq x v)

pub length-without : (v : ℕ) (s : List ℕ) → IsStrictlyIncreasing s → set_of s v ≡ true → length (without v s) + 1 ≡ length s
length-without v s up m = length-rising 0 v s (Rises-ascending s up) m

-- sums over faces
pub delta-same : (F G : List ℕ → Bool) (s : List ℕ) → ((z : List ℕ) → Picks z s → F z ≡ G z) → delta F s ≡ delta G s
delta-same F G [] e = refl
delta-same F G (x ∷ s) e = λ i. xor
    (e s (Picks-skip s s x (Picks-self s)) i)
    (delta-same (λ z. F (x ∷ z)) (λ z. G (x ∷ z)) s (λ z P. e (x ∷ z) (inl (refl, P))) i)

pub delta-none : (s : List ℕ) → delta (λ z. false) s ≡ false
delta-none [] = refl
delta-none (x ∷ s) = delta-none s

delta-rising : (b v : ℕ) (F : List ℕ → Bool) (s : List ℕ) → Rises b s → set_of s v ≡ true
    → ((z : List ℕ) → Picks z s → set_of z v ≡ true → F z ≡ false) → delta F s ≡ F (without v s)
delta-rising b v F [] r m none = absurd (true≢false (sym m))
delta-rising b v F (x ∷ s) r m none = ⊎_elim
    (λ (same : x ≡ v).
    ap (xor (F s)) (delta-same (λ z. F (x ∷ z)) (λ z. false) s
    (λ z P. none (x ∷ z) (inl (refl, P)) (or_left (nat_eq v x) (set_of z v) (eq-eqb v x (sym same)))) ∙ delta-none s)
    ∙ xor-false (F s)
    ∙ ap F (sym (ap (λ z. without v (z ∷ s)) same ∙ without-first v s (subst (λ z. Rises (z + 1) s) same r.1))))
    (λ (other : x ≡ v → ⊥).
    let later : set_of s v ≡ true = member-later v x s other m in
    (λ i. xor (none s (Picks-skip s s x (Picks-self s)) later i)
    (delta-rising (x + 1) v (λ z. F (x ∷ z)) s r.1 later (λ z P h. none (x ∷ z) (inl (refl, P)) (or_right (nat_eq v x) (set_of z v) h)) i))
    ∙ ap F (sym (without-later v x s other)))
    (cases_eq x v)

pub delta-at : (v : ℕ) (F : List ℕ → Bool) (s : List ℕ) → IsStrictlyIncreasing s → set_of s v ≡ true
    → ((z : List ℕ) → Picks z s → set_of z v ≡ true → F z ≡ false) → delta F s ≡ F (without v s)
delta-at v F s up m none = delta-rising 0 v F s (Rises-ascending s up) m none

pub some-fails : (P : ℕ → Bool) (t : List ℕ) → ((v : ℕ) × (set_of t v ≡ true) × (P v ≡ false)) ⊎ ((v : ℕ) → set_of t v ≡ true → P v ≡ true)
some-fails P [] = inr (λ v m. absurd (true≢false (sym m)))
some-fails P (x ∷ t) = ⊎_elim
    (λ (holds : P x ≡ true). ⊎_elim
    (λ (found : (v : ℕ) × (set_of t v ≡ true) × (P v ≡ false)). inl (found.0, or_right (nat_eq found.0 x) (set_of t found.0) found.1, found.2))
    (λ (all : (v : ℕ) → set_of t v ≡ true → P v ≡ true). inr (λ v m. ⊎_elim
    (λ (here : nat_eq v x ≡ true). ap P (eqb-true v x here) ∙ holds)
    (λ (later : set_of t v ≡ true). all v later)
    (or_cases (nat_eq v x) (set_of t v) m)))
    (some-fails P t))
    (λ (fails : P x ≡ false). inl (x, or_left (nat_eq x x) (set_of t x) (nat_eq-self x), fails))
    (cases_Bool (P x))
