-- Cofaces that pass a test, counted from the last simplex down.
--     once, faces-once                  what stands once in a list is counted once; so are the faces of a simplex
--     from-none, from-more, from-late   none from the end on; with one simplex more; those of x come after x
--     from-few                          how many there may be
--     counted-none, counted-in, counted-out
--                                       so the counts are made downwards, one simplex after the other
--     some-counted, counted-some        where some are counted there is one, and back
--     every-coface, none-failing        of all cofaces as many are counted as are listed; where none fails each passes
use Rattle.std.proofs.Common.{◌≡◌, ℕ, zero, suc, ◌+◌, ◌-◌, ◌<◌, ◌≤◌, Bool, true, false, not, cond, ◌&&◌, ◌||◌, List, [], ◌∷◌, length, get_or, nat_eq, refl, sym, ap, ◌∙◌, add-one, arith, eqb-true, ⊎_elim}
use Rattle.std.specs.Prelude.{count_by, slice_index_or}
use Rattle.std.specs.List.{range_with_len}
use Rattle.std.proofs.lemmas.Bool.{true≢false, and_parts, and_from, cases_lt, or_cases, false_from_ne_true}
use Rattle.std.proofs.lemmas.List.FromFn.{length-range_with_len}
use Rattle.std.proofs.lemmas.List.Sums.{sum_by-cons, length-filter, count_by-le-length}
use Rattle.homology.specs.Sets.{Ids, set_of}
use Rattle.homology.specs.Complexes.{Complex, IsComplex, incidence, simplex_at}
use Rattle.homology.specs.Chains.{boundary_of}
use Rattle.homology.proofs.ParityLaws.{and-true}
use Rattle.homology.proofs.KindLaws.{set_of-range_holds}
use Rattle.homology.proofs.BoundaryLaws.{incidence-earlier}
use Rattle.complex_store.specs.Cofaces.{cofaces}
use Rattle.complex_store.specs.Located.{AreFaces}
use Rattle.complex_store.proofs.FaceLaws.{faces-narrow, length-faces, remove-apart, found-at, all-found, length-found}
use Rattle.manifolds.proofs.LinkLaws.{place-of}
use Rattle.manifold_links.specs.Counts.{cofaces_from, AreCounted}

-- one more number
count-cons : (q : ℕ → Bool) (x : ℕ) (xs : List ℕ) → count_by q (x ∷ xs) ≡ cond (q x) 1 0 + count_by q xs
count-cons q x xs = sum_by-cons (λ t. cond (q t) 1 0) x xs

-- what stands once is counted once
pub once : (xs : List ℕ) → ((a b : ℕ) → a < b → b < length xs → get_or xs a 0 ≡ get_or xs b 0 → ⊥) → (q : ℕ) → count_by (λ t. nat_eq q t) xs ≡ cond (set_of xs q) 1 0
once [] d q = refl
once (x ∷ xs) d q =
    count-cons (λ t. nat_eq q t) x xs
    ∙ by (nat_eq q x) (set_of xs q) refl refl (once xs (λ a b lt h e. d (suc a) (suc b) (omega (arith, lt)) (omega (arith, h)) e) q)
  where
    by : (b s : Bool) → nat_eq q x ≡ b → set_of xs q ≡ s → count_by (λ t. nat_eq q t) xs ≡ cond s 1 0 → cond b 1 0 + count_by (λ t. nat_eq q t) xs ≡ cond (b || s) 1 0
    by true true e m r = let at = place-of xs q m in absurd (d 0 (suc at.0) (omega arith) (omega (arith, at.1)) (sym (eqb-true q x e) ∙ sym at.2))
    by true false e m r = omega (arith, r)
    by false s e m r = omega (arith, r)

-- the faces of a simplex are listed once
pub faces-once : (K : Complex) → IsComplex K → (i : ℕ) → i < length K → (ids : List ℕ) → AreFaces K (simplex_at K i) ids → set_of ids ≡ boundary_of K i
    → (q : ℕ) → count_by (λ t. nat_eq q t) ids ≡ cond (incidence K q i) 1 0
faces-once K c i h ids F boundary q = once ids apart q ∙ ap {B = ℕ} (λ (p : Ids). cond (p q) 1 0) boundary
  where
    s : List ℕ
    s = simplex_at K i

    apart : (a b : ℕ) → a < b → b < length ids → get_or ids a 0 ≡ get_or ids b 0 → ⊥
    apart a b lt bh e = ⊎_elim
        (λ (wide : 1 < length s).
        let long : length ids ≡ length s = length-found K s ids F ∙ length-faces s wide in
        remove-apart s (length s - 1 - b) (length s - 1 - a) (c.simplices i h).ascending (omega (arith, long, lt, bh)) (omega (arith, long, bh))
        (sym (found-at K s ids (length s) b (all-found K s ids F wide) wide (omega arith) (omega (arith, long, bh)))
        ∙ ap (simplex_at K) (sym e)
        ∙ found-at K s ids (length s) a (all-found K s ids F wide) wide (omega arith) (omega (arith, long, lt, bh))))
        (λ (narrow : length s ≤ 1). omega (arith, bh, length-found K s ids F, ap length (faces-narrow s narrow)))
        (cases_lt 1 (length s))

-- from the end on there are none
pub from-none : (K : Complex) (p : ℕ → Bool) (i x : ℕ) → length K ≤ i → cofaces_from K p i x ≡ 0
from-none K p i x le = let none : length K - i ≡ 0 = omega (arith, le) in ap (λ n. count_by (λ t. incidence K x t && p t) (range_with_len i n)) none

-- one simplex more
pub from-more : (K : Complex) (p : ℕ → Bool) (i x : ℕ) → i < length K → cofaces_from K p i x ≡ cond (incidence K x i && p i) 1 0 + cofaces_from K p (i + 1) x
from-more K p i x h =
    let more : length K - i ≡ suc (length K - (i + 1)) = omega (arith, h) in
    ap (λ n. count_by (λ t. incidence K x t && p t) (range_with_len i n)) more
    ∙ count-cons (λ t. incidence K x t && p t) i (range_with_len (i + 1) (length K - (i + 1)))

-- the cofaces of x come after x
pub from-late : (K : Complex) → IsComplex K → (p : ℕ → Bool) (x : ℕ) → x < length K → (i : ℕ) → i ≤ x + 1 → cofaces_from K p i x ≡ cofaces_from K p 0 x
from-late K c p x h zero le = refl
from-late K c p x h (suc i) le =
    let none : incidence K x i ≡ false = false_from_ne_true (incidence K x i) (λ e. omega (arith, incidence-earlier K c x i (omega (arith, le, h)) e, le)) in
    omega (
      arith,
      from-more K p i x (omega (arith, le, h)),
      ap {B = ℕ} (λ b. cond (b && p i) 1 0) none,
      ap (λ j. cofaces_from K p j x) (add-one i),
      from-late K c p x h i (omega (arith, le)),
    )

pub from-few : (K : Complex) (p : ℕ → Bool) (i x : ℕ) → cofaces_from K p i x ≤ length K - i
from-few K p i x = omega (
  arith,
  count_by-le-length (λ t. incidence K x t && p t) (range_with_len i (length K - i)),
  length-range_with_len i (length K - i),
)

-- nothing is counted yet
pub counted-none : (K : Complex) (p : ℕ → Bool) (n : ℕ) (counts : List ℕ) → length K ≤ n → ((q : ℕ) → slice_index_or counts q 0 ≡ 0) → AreCounted K p n counts
counted-none K p n counts le z = λ x h. z x ∙ sym (from-none K p n x le)

-- one simplex more is counted at its faces
pub counted-in : (K : Complex) (p : ℕ → Bool) (i : ℕ) (old new ids : List ℕ) → i < length K → p i ≡ true → AreCounted K p (i + 1) old
    → ((q : ℕ) → slice_index_or new q 0 ≡ slice_index_or old q 0 + count_by (λ t. nat_eq q t) ids)
    → ((q : ℕ) → count_by (λ t. nat_eq q t) ids ≡ cond (incidence K q i) 1 0) → AreCounted K p i new
counted-in K p i old new ids h e C more one = λ x xh.
    let yes : (incidence K x i && p i) ≡ incidence K x i = ap (λ b. incidence K x i && b) e ∙ and-true (incidence K x i) in
    omega (arith, more x, C x xh, one x, from-more K p i x h, ap {B = ℕ} (λ b. cond b 1 0) yes)

-- and one that does not pass is not
pub counted-out : (K : Complex) (p : ℕ → Bool) (i : ℕ) (counts : List ℕ) → i < length K → p i ≡ false → AreCounted K p (i + 1) counts → AreCounted K p i counts
counted-out K p i counts h e C = λ x xh.
    let no : (incidence K x i && p i) ≡ false = ap (λ b. incidence K x i && b) e ∙ none (incidence K x i) in
    omega (arith, C x xh, from-more K p i x h, ap {B = ℕ} (λ b. cond b 1 0) no)
  where
    none : (b : Bool) → (b && false) ≡ false
    none true = refl
    none false = refl

-- a number of a list that is counted
count-some : (q : ℕ → Bool) (a n : ℕ) → 0 < count_by q (range_with_len a n) → (t : ℕ) × (t < a + n) × (q t ≡ true)
count-some q a zero h = absurd (omega (arith, h))
count-some q a (suc n) h = by (q a) refl (count-some q (a + 1) n)
  where
    by : (b : Bool) → q a ≡ b → (0 < count_by q (range_with_len (a + 1) n) → (t : ℕ) × (t < (a + 1) + n) × (q t ≡ true)) → (t : ℕ) × (t < a + suc n) × (q t ≡ true)
    by true e later = (a, omega arith, e)
    by false e later =
        let rest = later (omega (arith, h, count-cons q a (range_with_len (a + 1) n), ap {B = ℕ} (λ z. cond z 1 0) e)) in
        (rest.0, omega (arith, rest.1), rest.2)

pub record Counted (K : Complex) (p : ℕ → Bool) (x : ℕ) : Type 0 where
  pub id : ℕ
  pub there : id < length K
  pub above : incidence K x id ≡ true
  pub passes : p id ≡ true

pub some-counted : (K : Complex) (p : ℕ → Bool) (x : ℕ) → 0 < cofaces_from K p 0 x → Counted K p x
some-counted K p x h =
    let some = count-some (λ t. incidence K x t && p t) 0 (length K - 0) h in
    let both = and_parts (incidence K x some.0) (p some.0) some.2 in
    record { id = some.0; there = omega (arith, some.1); above = both.0; passes = both.1 }

some-count : (q : ℕ → Bool) (xs : List ℕ) (t : ℕ) → set_of xs t ≡ true → q t ≡ true → 0 < count_by q xs
some-count q [] t m e = absurd (true≢false (sym m))
some-count q (x ∷ xs) t m e = ⊎_elim
    (λ (same : nat_eq t x ≡ true). omega (arith, count-cons q x xs, ap {B = ℕ} (λ z. cond z 1 0) (ap q (sym (eqb-true t x same)) ∙ e)))
    (λ (later : set_of xs t ≡ true). omega (arith, count-cons q x xs, some-count q xs t later e))
    (or_cases (nat_eq t x) (set_of xs t) m)

pub counted-some : (K : Complex) (p : ℕ → Bool) (x t : ℕ) → t < length K → incidence K x t ≡ true → p t ≡ true → 0 < cofaces_from K p 0 x
counted-some K p x t h inc e =
    some-count (λ u. incidence K x u && p u) (range_with_len 0 (length K - 0)) t (set_of-range_holds 0 (length K - 0) t (omega arith) (omega (arith, h)))
    (and_from (incidence K x t) (p t) inc e)

-- all cofaces are counted
pub every-coface : (K : Complex) (x : ℕ) → cofaces_from K (λ t. true) 0 x ≡ length (cofaces K x)
every-coface K x =
    let all : length K - 0 ≡ length K = omega arith in
    ap (λ n. count_by (λ t. incidence K x t && true) (range_with_len 0 n)) all
    ∙ ap (λ (p : ℕ → Bool). count_by p (range_with_len 0 (length K))) (λ i t. and-true (incidence K x t) i)
    ∙ sym (length-filter (incidence K x) (range_with_len 0 (length K)))

-- where none fails, each passes
pub none-failing : (K : Complex) (p : ℕ → Bool) (x : ℕ) → cofaces_from K (λ t. not (p t)) 0 x ≡ 0 → (t : ℕ) → t < length K → incidence K x t ≡ true → p t ≡ true
none-failing K p x none t h inc = by (p t) refl
  where
    by : (b : Bool) → p t ≡ b → p t ≡ true
    by true e = e
    by false e = absurd (omega (arith, none, counted-some K (λ u. not (p u)) x t h inc (ap not e)))
