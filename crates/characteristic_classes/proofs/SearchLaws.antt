-- Searches through lists of lists.
--     all-member, all-holds      a test that all pass
--     map-source, map-member     the members of a mapped list
--     filter-none, filter-one    a filter that nothing passes, and one that one element alone passes
--     filter-misses              what fails where nothing is kept
--     filter-begins              what a filtered list begins with
--     flat-none, flat-first, flat-each, flat-begins      the first of lists that are joined over a run of numbers
--     listed-sublist, sublist-listed         the sublists of the numbers below n are the ascending lists of these
use Rattle.std.proofs.Common.{◌≡◌, ℕ, zero, suc, ◌+◌, ◌<◌, ◌≤◌, Bool, true, false, cond, List, [], ◌∷◌, ◌++◌, map, length, refl, sym, ap, ◌∙◌, subst, arith, ⊎_elim}
use Rattle.std.specs.Prelude.{slice_index_or}
use Rattle.std.specs.List.{All, Contains, filter, flat_map, list_all, range_with_len}
use Rattle.std.specs.List.Sorted.{IsStrictlyIncreasing}
use Rattle.std.proofs.lemmas.Bool.{true≢false, true_from_ne_false, and_from, cases_eq}
use Rattle.std.proofs.lemmas.List.{length-map, get_or-map}
use Rattle.std.proofs.lemmas.List.Folds.{list_all_at}
use Rattle.std.proofs.lemmas.List.Elements.{filter-append}
use Rattle.std.proofs.lemmas.Map.Views.{Contains-from_any}
use Rattle.homology.specs.Sets.{set_of}
use Rattle.homology.specs.Simplices.{same_list}
use Rattle.homology.specs.Kinds.{sublists}
use Rattle.homology.proofs.BoundaryLaws.{same_list-true, same_list-same}
use Rattle.homology.proofs.KindLaws.{set_of-range, sublists-filter}
use Rattle.homology.proofs.ListSetLaws.{ascending-Rises, set_of-All, Contains-set_of, same_ascending}
use Rattle.cohomology.proofs.Searching.{Each, Sublist, sublists-each, rises-range}
use Rattle.characteristic_classes.proofs.WordLaws.{listed, listed-ascending, listed-is}

pub all-member : {A : Type 0} (test : A → Bool) (cs : List A) (c : A) → list_all test cs ≡ true → Contains cs c → test c ≡ true
all-member test cs c e m =
    true_from_ne_false (test c) (λ f. true≢false (sym e ∙ list_all_at test cs m.0 c m.1 (ap test m.2 ∙ f)))

pub here : {A : Type 0} (c : A) (cs : List A) → Contains (c ∷ cs) c
here c cs = (0, omega arith, refl)

pub later : {A : Type 0} (d : A) (cs : List A) (c : A) → Contains cs c → Contains (d ∷ cs) c
later d cs c m = (suc m.0, omega (arith, m.1), m.2)

pub all-holds : {A : Type 0} (test : A → Bool) (cs : List A) → ((c : A) → Contains cs c → test c ≡ true) → list_all test cs ≡ true
all-holds test [] each = refl
all-holds test (c ∷ cs) each = and_from (test c) (list_all test cs) (each c (here c cs)) (all-holds test cs (λ d m. each d (later c cs d m)))

-- what a member of a mapped list comes from
pub record From {A B : Type 0} (f : A → B) (xs : List A) (z : B) : Type 0 where
  pub source : A
  pub there : Contains xs source
  pub is : z ≡ f source

pub map-source : {A B : Type 0} (f : A → B) (xs : List A) (z : B) → Contains (map f xs) z → From f xs z
map-source f [] z m = absurd (omega (arith, m.1))
map-source f (x ∷ xs) z m = at (λ rest. map-source f xs z rest) m.0 m.1 m.2
  where
    at : (Contains (map f xs) z → From f xs z) → (k : ℕ) → k < length (map f (x ∷ xs)) → slice_index_or (map f (x ∷ xs)) k z ≡ z → From f (x ∷ xs) z
    at after zero lt e = record { source = x; there = here x xs; is = sym e }
    at after (suc k) lt e =
        let r = after (k, omega (arith, lt), e) in
        record { source = r.source; there = later x xs r.source r.there; is = r.is }

pub map-member : {A B : Type 0} (f : A → B) (xs : List A) (x : A) → Contains xs x → Contains (map f xs) (f x)
map-member f xs x m = (m.0, subst (λ n. m.0 < n) (sym (length-map xs f)) m.1, get_or-map f xs m.0 x (f x) m.1 ∙ ap f m.2)

pub filter-none : {A : Type 0} (test : A → Bool) (cs : List A) → ((c : A) → Contains cs c → test c ≡ false) → filter test cs ≡ []
filter-none test [] each = refl
filter-none test (c ∷ cs) each =
    ap (λ b. cond b (c ∷ filter test cs) (filter test cs)) (each c (here c cs)) ∙ filter-none test cs (λ d m. each d (later c cs d m))

pub filter-misses : {A : Type 0} (test : A → Bool) (cs : List A) (c : A) → filter test cs ≡ [] → Contains cs c → test c ≡ false
filter-misses test [] c none m = absurd (omega (arith, m.1))
filter-misses test (d ∷ cs) c none m = by (λ rest there. filter-misses test cs c rest there) (test d) refl m.0 m.1 m.2
  where
    by : (filter test cs ≡ [] → Contains cs c → test c ≡ false) → (b : Bool) → test d ≡ b → (k : ℕ) → k < length (d ∷ cs) → slice_index_or (d ∷ cs) k c ≡ c → test c ≡ false
    by after true e k lt is =
        let more : d ∷ filter test cs ≡ [] = sym (ap (λ b. cond b (d ∷ filter test cs) (filter test cs)) e) ∙ none in
        absurd (cc)
    by after false e zero lt is = ap test (sym is) ∙ e
    by after false e (suc k) lt is =
        after (sym (ap (λ b. cond b (d ∷ filter test cs) (filter test cs)) e) ∙ none) (k, omega (arith, lt), is)

-- a list with this first element
abbrev pub Begins : {A : Type 0} → List A → A → Type 0
Begins {A} xs x = (rest : List A) × (xs ≡ x ∷ rest)

-- where one element alone passes
pub filter-one : {A : Type 0} (test : A → Bool) (c : A) (cs : List A) → Contains cs c → test c ≡ true
    → ((d : A) → Contains cs d → test d ≡ true → d ≡ c) → Begins (filter test cs) c
filter-one test c [] m passes one = absurd (omega (arith, m.1))
filter-one test c (d ∷ cs) m passes one = by (λ there. filter-one test c cs there passes (λ x in_cs. one x (later d cs x in_cs))) (test d) refl
  where
    tail : test d ≡ false → (k : ℕ) → k < length (d ∷ cs) → slice_index_or (d ∷ cs) k c ≡ c → Contains cs c
    tail e zero lt is = absurd (true≢false (sym passes ∙ ap test (sym is) ∙ e))
    tail e (suc k) lt is = (k, omega (arith, lt), is)

    by : (Contains cs c → Begins (filter test cs) c) → (b : Bool) → test d ≡ b → Begins (filter test (d ∷ cs)) c
    by after true e =
        (filter test cs, ap (λ b. cond b (d ∷ filter test cs) (filter test cs)) e ∙ ap (λ z. z ∷ filter test cs) (one d (here d cs) e))
    by after false e =
        let r = after (tail e m.0 m.1 m.2) in
        (r.0, ap (λ b. cond b (d ∷ filter test cs) (filter test cs)) e ∙ r.1)

-- what a filtered list begins with
pub filter-begins : {A : Type 0} (test : A → Bool) (cs : List A) (x : A) → Begins (filter test cs) x → Contains cs x × (test x ≡ true)
filter-begins test [] x first = absurd (none first.1)
  where
    none : {A : Type 0} {x : A} {ys : List A} → [] ≡ x ∷ ys → ⊥
    none e = cc
filter-begins {A} test (c ∷ cs) x first = by (λ rest. filter-begins test cs x rest) (test c) refl first
  where
    by : (Begins (filter test cs) x → Contains cs x × (test x ≡ true)) → (b : Bool) → test c ≡ b
        → Begins (cond b (c ∷ filter test cs) (filter test cs)) x → Contains (c ∷ cs) x × (test x ≡ true)
    by after true e rest =
        let same : c ≡ x = same_head rest.1 in
        (subst (Contains (c ∷ cs)) same (here c cs), ap test (sym same) ∙ e)
      where
        same_head : {ys zs : List A} → c ∷ ys ≡ x ∷ zs → c ≡ x
        same_head e = cc
    by after false e rest = let r = after rest in (later c cs x r.0, r.1)

-- a filter goes into joined lists
pub filter-flat : {A : Type 0} (test : A → Bool) (F : ℕ → List A) (xs : List ℕ) → filter test (flat_map F xs) ≡ flat_map (λ x. filter test (F x)) xs
filter-flat test F [] = refl
filter-flat test F (x ∷ xs) = filter-append test (F x) (flat_map F xs) ∙ ap (λ l. filter test (F x) ++ l) (filter-flat test F xs)

module _ {A : Type 0} (F : ℕ → List A) where
  pub flat-none : (b m : ℕ) → ((p : ℕ) → b ≤ p → p < b + m → F p ≡ []) → flat_map F (range_with_len b m) ≡ []
  flat-none b zero none = refl
  flat-none b (suc m) none =
      ap (λ l. l ++ flat_map F (range_with_len (b + 1) m)) (none b (omega arith) (omega arith))
      ∙ flat-none (b + 1) m (λ p le lt. none p (omega arith) (omega arith))

  pub flat-first : (b m p : ℕ) (x : A) → b ≤ p → p < b + m → ((q : ℕ) → b ≤ q → q < p → F q ≡ []) → Begins (F p) x
      → Begins (flat_map F (range_with_len b m)) x
  flat-first b zero p x le lt none first = absurd (omega arith)
  flat-first b (suc m) p x le lt none first = ⊎_elim
      (λ (same : b ≡ p). (first.0 ++ rest, ap (λ l. l ++ rest) (ap F same ∙ first.1)))
      (λ (other : b ≡ p → ⊥).
      let r = flat-first (b + 1) m p x (omega (arith, other)) (omega arith) (λ q low high. none q (omega arith) high) first in
      (r.0, ap (λ l. l ++ rest) (none b (omega arith) (omega (arith, other))) ∙ r.1))
      (cases_eq b p)
    where
      rest : List A
      rest = flat_map F (range_with_len (b + 1) m)

  -- where the joined lists begin
  pub record FirstOf (b m : ℕ) (x : A) : Type 0 where
    pub at : ℕ
    pub low : b ≤ at
    pub high : at < b + m
    pub before : (q : ℕ) → b ≤ q → q < at → F q ≡ []
    pub begins : Begins (F at) x

  pub flat-begins : (b m : ℕ) (x : A) → Begins (flat_map F (range_with_len b m)) x → FirstOf b m x
  flat-begins b zero x first = absurd (none first.1)
    where
      none : {ys : List A} → [] ≡ x ∷ ys → ⊥
      none e = cc
  flat-begins b (suc m) x first = by (λ rest. flat-begins (b + 1) m x rest) (F b) refl first
    where
      by : (Begins (flat_map F (range_with_len (b + 1) m)) x → FirstOf (b + 1) m x) → (l : List A) → F b ≡ l
          → Begins (l ++ flat_map F (range_with_len (b + 1) m)) x → FirstOf b (suc m) x
      by after [] e rest =
          let s = after rest in
          record {
            at = s.at;
            low = omega (arith, s.low);
            high = omega (arith, s.high);
            before = λ q le lt. ⊎_elim
                (λ (same : q ≡ b). ap F same ∙ e)
                (λ (other : q ≡ b → ⊥). s.before q (omega (arith, other)) lt)
                (cases_eq q b);
            begins = s.begins;
          }
      by after (y ∷ l) e rest = record {
        at = b;
        low = omega arith;
        high = omega arith;
        before = λ q le lt. absurd (omega arith);
        begins = (l, e ∙ ap (λ z. z ∷ l) (same_head rest.1));
      }
        where
          same_head : {ys zs : List A} → y ∷ ys ≡ x ∷ zs → y ≡ x
          same_head e = cc

  append-none : (xs ys : List A) → xs ++ ys ≡ [] → (xs ≡ []) × (ys ≡ [])
  append-none [] ys e = (refl, e)
  append-none (x ∷ xs) ys e = absurd (cc)

  pub flat-each : (b m : ℕ) → flat_map F (range_with_len b m) ≡ [] → (p : ℕ) → b ≤ p → p < b + m → F p ≡ []
  flat-each b zero none p le lt = absurd (omega arith)
  flat-each b (suc m) none p le lt =
      let both = append-none (F b) (flat_map F (range_with_len (b + 1) m)) none in
      ⊎_elim
      (λ (same : b ≡ p). ap F (sym same) ∙ both.0)
      (λ (other : b ≡ p → ⊥). flat-each (b + 1) m both.1 p (omega (arith, other)) (omega arith))
      (cases_eq b p)

-- what holds of each of some lists holds of a member
each-member : (P : List ℕ → Type 0) (cs : List (List ℕ)) (c : List ℕ) → Each P cs → Contains cs c → P c
each-member P [] c all m = absurd (omega (arith, m.1))
each-member P (d ∷ cs) c all m = at (λ there. each-member P cs c all.1 there) m.0 m.1 m.2
  where
    at : (Contains cs c → P c) → (k : ℕ) → k < length (d ∷ cs) → slice_index_or (d ∷ cs) k c ≡ c → P c
    at after zero lt e = subst P e all.0
    at after (suc k) lt e = after (k, omega (arith, lt), e)

pub listed-sublist : (n : ℕ) (u : List ℕ) → Contains (sublists (range_with_len 0 n)) u → IsStrictlyIncreasing u × All (λ k. k < n) u
listed-sublist n u m =
    let s = each-member (Sublist 0 (range_with_len 0 n)) (sublists (range_with_len 0 n)) u (sublists-each 0 (range_with_len 0 n) (rises-range 0 n)) m in
    (ascending-Rises 0 u s.rises, set_of-All (λ k. k < n) u (λ k h. omega (arith, (set_of-range 0 n k (s.within k h)).1)))

pub sublist-listed : (n : ℕ) (u : List ℕ) → IsStrictlyIncreasing u → All (λ k. k < n) u → Contains (sublists (range_with_len 0 n)) u
sublist-listed n u up below = Contains-from_any {eq = same_list} same_list-true u (sublists (range_with_len 0 n))
    (sublists-filter (range_with_len 0 n) (same_list u) (set_of u) (same_list-same u (listed n (set_of u)) (sym kept)))
  where
    within : (k : ℕ) → set_of u k ≡ true → k < n
    within k h = let c = Contains-set_of u k h in subst (λ x. x < n) c.2 (below c.0 k c.1)

    kept : listed n (set_of u) ≡ u
    kept = same_ascending (listed n (set_of u)) u (listed-ascending n (set_of u)) up (listed-is n (set_of u) within)
