-- The places of held versions, and what a session keeps as they change.
--     held_so                    what a session with these fields holds
--     places-few                 places below a number that all are taken are at most one more than the names
--     kept-put, held-put         a root comes to a free place, or behind all
--     root-put                   it is there
--     kept-fewer                 some of the names
--     kept-used                  another version in use
use Rattle.std.proofs.Common.{◌≡◌, ◌≢◌, ◌⊎◌, inl, inr, ℕ, zero, suc, ◌+◌, ◌<◌, ◌≤◌, Bool, true, false, cond, eqb, List, [], ◌∷◌, ◌++◌, length, map, refl, sym, ap, ◌∙◌, subst, arith, eqb-true, eq-eqb, lt-ltb, le-ltb, length-append}
use Rattle.std.specs.Prelude.{slice_set, Vec, ◌||◌, ◌==◌, not}
use Rattle.std.specs.List.{All, filter, list_any}
use Rattle.std.specs.Vec.{vec_capacity}
use Rattle.std.specs.declared.alloc.Global.{Global}
use Rattle.std.proofs.lemmas.Bool.{true≢false, false≢true, cases_lt}
use Rattle.std.proofs.lemmas.Bool.Decides.{eqb_tells}
use Rattle.std.proofs.lemmas.List.{get_or_append_left, get_or_push, get_or-set_same, get_or-set_other, length-map, length-set}
use Rattle.std.proofs.lemmas.List.Elements.{All-filter}
use Rattle.std.proofs.lemmas.List.Sums.{count_by-le-length, length-filter}
use Rattle.std.proofs.lemmas.Map.Views.{any-filter_same}
use Rattle.homology.specs.Complexes.{Complex}
use Rattle.lines.specs.Lines.{Line, cuts, version}
use Rattle.lines.specs.Callers.{name_capacity}
use Rattle.session_core.specs.declared.kept.Named.{Named}
use Rattle.session_core.specs.Holdings.{Holding}
use Rattle.session_core.specs.Places.{IsKept, held_by, root_at, root_capacity, stands_for, with_root}

-- what a session with these fields holds
abbrev pub held_so : ℕ → Vec Named Global → Vec Line Global → ℕ → Holding
held_so seen names roots used = record { seen = seen; names = held_by roots.items names.items; in_use = root_at roots.items used }

-- numbers without one that is there are fewer
length-without : (m : ℕ) (xs : List ℕ) → length (filter (λ q. not (q == m)) xs) ≤ length xs
length-without m [] = omega arith
length-without m (x ∷ xs) = at (length-without m xs) (not (x == m))
  where
    at : length (filter (λ q. not (q == m)) xs) ≤ length xs → (b : Bool) → length (cond b (x ∷ filter (λ q. not (q == m)) xs) (filter (λ q. not (q == m)) xs)) ≤ length (x ∷ xs)
    at rest true = omega (arith, rest)
    at rest false = omega (arith, rest)

fewer-without : (m : ℕ) (xs : List ℕ) → list_any (λ q. q == m) xs ≡ true → length (filter (λ q. not (q == m)) xs) + 1 ≤ length xs
fewer-without m [] there = absurd (false≢true there)
fewer-without m (x ∷ xs) there = at (fewer-without m xs) (x == m) there
  where
    at : (list_any (λ q. q == m) xs ≡ true → length (filter (λ q. not (q == m)) xs) + 1 ≤ length xs) → (b : Bool) → (b || list_any (λ q. q == m) xs) ≡ true → length (cond (not b) (x ∷ filter (λ q. not (q == m)) xs) (filter (λ q. not (q == m)) xs)) + 1 ≤ length (x ∷ xs)
    at rest true q = omega (arith, length-without m xs)
    at rest false q = omega (arith, rest q)

-- a list in which all numbers below m stand has at least m
numbers-few : (m : ℕ) (xs : List ℕ) → ((p : ℕ) → p < m → list_any (λ q. q == p) xs ≡ true) → m ≤ length xs
numbers-few zero xs each = omega arith
numbers-few (suc m) xs each =
    let rest = numbers-few m (filter (λ q. not (q == m)) xs) (λ p below.
    any-filter_same (λ q. q == p) (λ q. not (q == m)) true (λ k is. apart k p is below (eqb_tells k m)) xs ∙ each p (omega (arith, below))) in
    omega (arith, rest, fewer-without m xs (each m (omega arith)))
  where
    apart : (k p : ℕ) → (k == p) ≡ true → p < m → ((eqb k m ≡ true) × (k ≡ m)) ⊎ ((eqb k m ≡ false) × (k ≢ m)) → not (k == m) ≡ true
    apart k p is below (inl same) = absurd (omega (arith, eqb-true k p is, same.1, below))
    apart k p is below (inr other) = ap not other.0

any-mapped : (p : ℕ) (names : List Named) → list_any (λ q. q == p) (map (λ n. n.place) names) ≡ list_any (λ n. n.place == p) names
any-mapped p [] = refl
any-mapped p (n ∷ names) = ap (λ (b : Bool). n.place == p || b) (any-mapped p names)

pub places-few : (names : List Named) (kept m : ℕ) → ((p : ℕ) → p < m → stands_for names kept p ≡ true) → m ≤ length names + 1
places-few names kept m each =
    let few = numbers-few m (kept ∷ map (λ n. n.place) names) (λ p below. ap (λ (b : Bool). kept == p || b) (any-mapped p names) ∙ each p below) in
    omega (arith, few, length-map names (λ (n : Named). n.place))

-- no name stands for a free place
free-kept : (names : List Named) (kept p : ℕ) → stands_for names kept p ≡ false → kept ≢ p
free-kept names kept p free same = at (kept == p) (eq-eqb kept p same) free
  where
    at : (b : Bool) → b ≡ true → (b || list_any (λ n. n.place == p) names) ≡ false → ⊥
    at true is q = true≢false q
    at false is q = false≢true is

unnamed : (names : List Named) (kept p : ℕ) → stands_for names kept p ≡ false → list_any (λ n. n.place == p) names ≡ false
unnamed names kept p free = at (kept == p) free
  where
    at : (b : Bool) → (b || list_any (λ n. n.place == p) names) ≡ false → list_any (λ n. n.place == p) names ≡ false
    at true q = absurd (true≢false q)
    at false q = q

held-at-others : (roots : List Line) (L : Line) (p : ℕ) (names : List Named) → list_any (λ n. n.place == p) names ≡ false
    → held_by (slice_set roots p L) names ≡ held_by roots names
held-at-others roots L p [] none = refl
held-at-others roots L p (n ∷ names) none = at (held-at-others roots L p names) (n.place == p) refl none
  where
    at : (list_any (λ n. n.place == p) names ≡ false → held_by (slice_set roots p L) names ≡ held_by roots names) → (b : Bool) → (n.place == p) ≡ b → (b || list_any (λ n. n.place == p) names) ≡ false → held_by (slice_set roots p L) (n ∷ names) ≡ held_by roots (n ∷ names)
    at others true is q = absurd (true≢false q)
    at others false is q =
        let other : n.place ≢ p = λ same. false≢true (sym is ∙ eq-eqb n.place p same) in
        let here : root_at (slice_set roots p L) n.place ≡ root_at roots n.place = get_or-set_other roots p n.place L [] other in
        let rest = others q in
        λ i. (n.name, here i) ∷ rest i

held-set : (roots : List Line) (L : Line) (names : List Named) (kept p : ℕ) → stands_for names kept p ≡ false
    → held_by (slice_set roots p L) names ≡ held_by roots names
held-set roots L names kept p free = held-at-others roots L p names (unnamed names kept p free)

held-push : (roots : List Line) (L : Line) (names : List Named) → All (λ n. n.place < length roots) names
    → held_by (roots ++ L ∷ []) names ≡ held_by roots names
held-push roots L [] within = refl
held-push roots L (n ∷ names) within =
    let here : root_at (roots ++ L ∷ []) n.place ≡ root_at roots n.place = get_or_append_left roots (L ∷ []) [] n.place (within 0 n (omega arith)) in
    let rest = held-push roots L names (λ k d below. within (suc k) d (omega (arith, below))) in
    λ i. (n.name, here i) ∷ rest i

kept-set : (names : Vec Named Global) (roots more : Vec Line Global) (used cached p : ℕ) (cache : Complex) (L : Line)
    → IsKept names roots used cached cache → p < length roots.items → stands_for names.items cached p ≡ false
    → more.items ≡ slice_set roots.items p L → root_capacity ≤ vec_capacity more → IsKept names more p cached cache
kept-set names roots more used cached p cache L K there free is room =
    let long : length more.items ≡ length roots.items = ap length is ∙ length-set roots.items p L in
    let same : root_at more.items cached ≡ root_at roots.items cached = ap (λ (rs : List Line). root_at rs cached) is ∙ get_or-set_other roots.items p cached L [] (free-kept names.items cached p free) in
    record {
      few = K.few;
      room = K.room;
      room_for_roots = room;
      places = λ k d below. omega (arith, K.places k d below, long);
      used = omega (arith, there, long);
      cached_there = omega (arith, K.cached_there, long);
      found = K.found ∙ ap (λ (M : Line). version M (cuts M)) (sym same);
    }

kept-push : (names : Vec Named Global) (roots more : Vec Line Global) (used cached : ℕ) (cache : Complex) (L : Line)
    → IsKept names roots used cached cache → more.items ≡ roots.items ++ L ∷ [] → root_capacity ≤ vec_capacity more
    → IsKept names more (length roots.items) cached cache
kept-push names roots more used cached cache L K is room =
    let long : length more.items ≡ length roots.items + 1 = ap length is ∙ length-append roots.items (L ∷ []) in
    let same : root_at more.items cached ≡ root_at roots.items cached = ap (λ (rs : List Line). root_at rs cached) is ∙ get_or_append_left roots.items (L ∷ []) [] cached K.cached_there in
    record {
      few = K.few;
      room = K.room;
      room_for_roots = room;
      places = λ k d below. omega (arith, K.places k d below, long);
      used = omega (arith, long);
      cached_there = omega (arith, K.cached_there, long);
      found = K.found ∙ ap (λ (M : Line). version M (cuts M)) (sym same);
    }

-- what is so at a place there is, and behind all
put-cases : (roots : List Line) (p : ℕ) (L : Line) (P : List Line → Type 0) → p ≤ length roots → (p < length roots → P (slice_set roots p L)) → (p ≡ length roots → P (roots ++ L ∷ []))
    → P (with_root roots p L)
put-cases roots p L P within there behind = at (cases_lt p (length roots))
  where
    at : (p < length roots) ⊎ (length roots ≤ p) → P (with_root roots p L)
    at (inl below) = subst (λ (b : Bool). P (cond b (slice_set roots p L) (roots ++ L ∷ []))) (sym (lt-ltb p (length roots) below)) (there below)
    at (inr past) = subst (λ (b : Bool). P (cond b (slice_set roots p L) (roots ++ L ∷ []))) (sym (le-ltb p (length roots) past)) (behind (omega (arith, within, past)))

pub held-put : (roots : List Line) (L : Line) (names : List Named) (kept p : ℕ) → All (λ n. n.place < length roots) names → p ≤ length roots
    → (p < length roots → stands_for names kept p ≡ false) → held_by (with_root roots p L) names ≡ held_by roots names
held-put roots L names kept p all within free =
    put-cases roots p L (λ rs. held_by rs names ≡ held_by roots names) within (λ below. held-set roots L names kept p (free below)) (λ _. held-push roots L names all)

pub root-put : (roots : List Line) (L : Line) (p : ℕ) → p ≤ length roots → root_at (with_root roots p L) p ≡ L
root-put roots L p within =
    put-cases roots p L (λ rs. root_at rs p ≡ L) within (λ below. get_or-set_same roots p L [] below) (λ end. get_or_push roots L [] p (sym end))

pub kept-put : (names : Vec Named Global) (roots more : Vec Line Global) (used cached p : ℕ) (cache : Complex) (L : Line)
    → IsKept names roots used cached cache → p ≤ length roots.items → (p < length roots.items → stands_for names.items cached p ≡ false)
    → more.items ≡ with_root roots.items p L → root_capacity ≤ vec_capacity more → IsKept names more p cached cache
kept-put names roots more used cached p cache L K within free is room =
    put-cases roots.items p L (λ rs. more.items ≡ rs → IsKept names more p cached cache) within
    (λ below e. kept-set names roots more used cached p cache L K below (free below) e room)
    (λ end e. subst (λ (q : ℕ). IsKept names more q cached cache) (sym end) (kept-push names roots more used cached cache L K e room)) is

-- fewer names
pub kept-fewer : (names more : Vec Named Global) (roots : Vec Line Global) (used cached : ℕ) (cache : Complex) (p : Named → Bool)
    → IsKept names roots used cached cache → more.items ≡ filter p names.items → name_capacity ≤ vec_capacity more → IsKept more roots used cached cache
kept-fewer names more roots used cached cache p K is room = record {
  few = omega (arith, K.few, ap length is, length-filter p names.items, count_by-le-length p names.items);
  room = room;
  room_for_roots = K.room_for_roots;
  places = subst (All (λ (m : Named). m.place < length roots.items)) (sym is) (All-filter p (λ (m : Named). m.place < length roots.items) names.items K.places);
  used = K.used;
  cached_there = K.cached_there;
  found = K.found;
}

pub kept-used : (names : Vec Named Global) (roots : Vec Line Global) (used cached place : ℕ) (cache : Complex)
    → IsKept names roots used cached cache → place < length roots.items → IsKept names roots place cached cache
kept-used names roots used cached place cache K there = record {
  few = K.few;
  room = K.room;
  room_for_roots = K.room_for_roots;
  places = K.places;
  used = there;
  cached_there = K.cached_there;
  found = K.found;
}
