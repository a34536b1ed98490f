-- Laws of sets as marks.
--     below-lt, below-ge        the members below n
--     below-none, below-all     none are below 0, and all are below n where none is at n or above
--     below-in, below-out       one place more
--     listed-in, listed-out     the list of the members so far, with one place more
--     grown-in, sum-more        a set and a sum so far, with one step more
--     given-back, given-set     what was lent whole is what was given back
--     first-read                the first id of an ascending list is its least member
--     if_ok-map                 what follows from what holds of an answer
use Rattle.std.proofs.Common.{◌≡◌, ◌≢◌, ℕ, suc, ◌+◌, ◌<◌, ◌≤◌, Bool, true, false, not, ◌&&◌, ◌||◌, nat_eq, List, [], ◌∷◌, ◌++◌, length, take, drop, Option, Result, Ok, Err, subst, refl, sym, ap, ◌∙◌, ⊎_elim, arith, lt-ltb, le-ltb}
use Rattle.std.specs.Prelude.{slice_get, slice_index, IfOk, MatchOption}
use Rattle.std.specs.List.{All}
use Rattle.std.specs.List.Sorted.{IsStrictlyIncreasing}
use Rattle.std.proofs.Math.Seq.{take-append_seam}
use Rattle.std.proofs.lemmas.List.Elements.{All-push}
use Rattle.std.proofs.lemmas.Bool.{cases_lt, cases_eq}
use Rattle.homology.specs.Parity.{xor}
use Rattle.homology.specs.Sets.{Ids, empty, single, plus, set_of}
use Rattle.homology.specs.ListSums.{odd_over, sum_over}
use Rattle.homology.proofs.ListSetLaws.{Rises, Rises-ascending, ascending-Rises, Rises-raise, set_of-below, set_of-push}
use Rattle.homology.proofs.ListSumLaws.{All-first, odd_over-take_more, sum_over-take_more}
use Rattle.homology.proofs.ParityLaws.{xor-false, nat_eq-self, nat_eq-apart}
use Rattle.homology.proofs.SetLaws.{same_members, plus-assoc}
use Rattle.f2_chains.proofs.Orders.{ascending-push}
use Rattle.cochain_values.specs.Cochains.{IsFirst}
use Rattle.cochain_values.specs.Marks.{below, marked, IsListed}

pub below-lt : (n : ℕ) (a : Ids) (q : ℕ) → q < n → below n a q ≡ a q
below-lt n a q h = ap (λ b. b && a q) (lt-ltb q n h)

pub below-ge : (n : ℕ) (a : Ids) (q : ℕ) → n ≤ q → below n a q ≡ false
below-ge n a q h = ap (λ b. b && a q) (le-ltb q n h)

-- no member is below 0
pub below-none : (a : Ids) → empty ≡ below 0 a
below-none a = same_members _ _ (λ q. sym (below-ge 0 a q (omega arith)))

-- all members are below n, where none is at n or above
pub below-all : (n : ℕ) (a : Ids) → ((q : ℕ) → n ≤ q → a q ≡ false) → below n a ≡ a
below-all n a none = same_members _ _ (λ q. ⊎_elim (below-lt n a q) (λ (h : n ≤ q). below-ge n a q h ∙ sym (none q h)) (cases_lt q n))

-- one place more, at which there is a member
pub below-in : (n : ℕ) (a : Ids) → a n ≡ true → plus (below n a) (single n) ≡ below (n + 1) a
below-in n a m = same_members _ _ (λ q. ⊎_elim (less q) (λ (h : n ≤ q). ⊎_elim (same q) (more q h) (cases_eq q n)) (cases_lt q n))
  where
    less : (q : ℕ) → q < n → xor (below n a q) (nat_eq q n) ≡ below (n + 1) a q
    less q h =
        (λ i. xor (below-lt n a q h i) (nat_eq-apart q n (λ e. omega arith) i))
        ∙ xor-false (a q)
        ∙ sym (below-lt (n + 1) a q (omega arith))

    same : (q : ℕ) → q ≡ n → xor (below n a q) (nat_eq q n) ≡ below (n + 1) a q
    same q e =
        (λ i. xor (below-ge n a q (omega arith) i) ((ap (λ x. nat_eq x n) e ∙ nat_eq-self n) i))
        ∙ sym (below-lt (n + 1) a q (omega arith) ∙ ap a e ∙ m)

    more : (q : ℕ) → n ≤ q → q ≢ n → xor (below n a q) (nat_eq q n) ≡ below (n + 1) a q
    more q h ne = (λ i. xor (below-ge n a q h i) (nat_eq-apart q n ne i)) ∙ sym (below-ge (n + 1) a q (omega arith))

-- one place more, at which there is none
pub below-out : (n : ℕ) (a : Ids) → a n ≡ false → below n a ≡ below (n + 1) a
below-out n a m = same_members _ _ (λ q. ⊎_elim (less q) (λ (h : n ≤ q). ⊎_elim (same q) (more q h) (cases_eq q n)) (cases_lt q n))
  where
    less : (q : ℕ) → q < n → below n a q ≡ below (n + 1) a q
    less q h = below-lt n a q h ∙ sym (below-lt (n + 1) a q (omega arith))

    same : (q : ℕ) → q ≡ n → below n a q ≡ below (n + 1) a q
    same q e = below-ge n a q (omega arith) ∙ sym (below-lt (n + 1) a q (omega arith) ∙ ap a e ∙ m)

    more : (q : ℕ) → n ≤ q → q ≢ n → below n a q ≡ below (n + 1) a q
    more q h ne = below-ge n a q h ∙ sym (below-ge (n + 1) a q (omega arith))

-- the set so far, with one place more at which there is a member
pub grown-in : (n : ℕ) (a c d : Ids) → c ≡ below n a → d ≡ plus c (single n) → a n ≡ true → d ≡ below (n + 1) a
grown-in n a c d e step m = step ∙ ap (λ z. plus z (single n)) e ∙ below-in n a m

-- one place more, listed where it is a member
pub listed-in : (n : ℕ) (a : Ids) (xs ys : List ℕ) → IsListed a n xs → ys ≡ xs ++ n ∷ [] → a n ≡ true → IsListed a (n + 1) ys
listed-in n a xs ys l is m =
    let up : IsStrictlyIncreasing (xs ++ n ∷ []) = ascending-push xs n l.ascending l.less in
    let more : All (λ t. t < n + 1) (xs ++ n ∷ []) =
    All-push (λ t. t < n + 1) xs n (λ k d h. omega (arith, l.less k d h)) (omega arith) in
    record {
      set = ap set_of is ∙ grown-in n a (set_of xs) (set_of (xs ++ n ∷ [])) l.set (set_of-push xs n up) m;
      ascending = subst IsStrictlyIncreasing (sym is) up;
      less = subst (All (λ t. t < n + 1)) (sym is) more;
    }

pub listed-out : (n : ℕ) (a : Ids) (xs ys : List ℕ) → IsListed a n xs → ys ≡ xs → a n ≡ false → IsListed a (n + 1) ys
listed-out n a xs ys l is m = record {
  set = ap set_of is ∙ l.set ∙ below-out n a m;
  ascending = subst IsStrictlyIncreasing (sym is) l.ascending;
  less = λ k d h. omega (arith, subst (All (λ t. t < n)) (sym is) l.less k d h);
}

-- the sum so far, with one term more
pub sum-more : (ids : List ℕ) (k : ℕ) (φ : ℕ → Ids) (a c d : Ids) → k < length ids → c ≡ plus a (sum_over (take k ids) φ) → d ≡ plus c (φ (slice_index ids k)) → d ≡ plus a (sum_over (take (k + 1) ids) φ)
sum-more ids k φ a c d h e step =
    step
    ∙ ap (λ z. plus z (φ (slice_index ids k))) e
    ∙ plus-assoc a (sum_over (take k ids) φ) (φ (slice_index ids k))
    ∙ ap (plus a) (sym (sum_over-take_more ids k φ h))

-- what was lent whole is what was given back
pub given-back : (n : ℕ) (marks rest : List Bool) → n ≡ length marks → take n (marks ++ rest) ≡ marks
given-back n marks rest e = ap (λ m. take m (marks ++ rest)) e ∙ take-append_seam marks rest

-- marks that were lent empty hold what was put in
pub given-set : (n : ℕ) (items lent new shown : List Bool) (c : Ids) → lent ≡ items → n ≡ length items → marked items ≡ empty → length new ≡ length lent → marked new ≡ plus (marked lent) c
    → shown ≡ take n (new ++ drop (length new) items) → marked shown ≡ c
given-set n items lent new shown c same count none fits set is =
    ap marked (is ∙ given-back n new (drop (length new) items) (omega (arith, count, fits, ap length same)))
    ∙ set
    ∙ ap (λ z. plus (marked z) c) same
    ∙ ap (λ z. plus z c) none

-- the first id of an ascending list is its least member; where there is none, the set is empty
pub first-read : (n : ℕ) (b : Ids) (xs : List ℕ) (r : Option ℕ) (N : Type 0) → IsStrictlyIncreasing xs → set_of xs ≡ b → ((x : ℕ) → b x ≡ true → x < n) → (b ≡ empty → N) → r ≡ slice_get xs 0
    → MatchOption r N (IsFirst n b)
first-read n b [] r N up e within none at =
    let P : Option ℕ → Type 0 = λ o. MatchOption o N (IsFirst n b) in
    subst P (sym at) (none (sym e))
first-read n b (x ∷ xs) r N up e within none at =
    let P : Option ℕ → Type 0 = λ o. MatchOption o N (IsFirst n b) in
    subst P (sym at) (record { below = within x here; member = here; least = less })
  where
    here : b x ≡ true
    here = sym (ap (λ z. z x) e) ∙ ap (λ c. c || set_of xs x) (nat_eq-self x)

    less : (y : ℕ) → y < x → b y ≡ false
    less y h = sym (ap (λ z. z y) e) ∙ set_of-below x (x ∷ xs) y (Rises-raise 0 x (x ∷ xs) (Rises-ascending (x ∷ xs) up) (λ _. omega arith)) h

-- what follows from what holds of an answer holds of it too
pub if_ok-map : {A E : Type 0} (P Q : A → Type 0) (r : Result A E) → ((d : A) → P d → Q d) → IfOk r P → IfOk r Q
if_ok-map P Q (Ok d) f h = f d h
if_ok-map P Q (Err e) f h = tt
