-- Words, their sums and their greatest numbers.
--     word-below                the numbers of a word are below n
--     words-same                words with the same numbers are one
--     sum-word, sum-at          a sum is a word, and has the numbers of exactly one of its terms
--     sum-assoc, sum-none, sum-empty, sum-twice     sums of sums; of equal words; with the empty word
--     word-top                  a word is empty, or has a greatest number
--     greatest-is               and it is the one of the definition
--     words_to-any              a word with the greatest number k that passes a test is found
--     words_to-each             what is listed are words with this greatest number
use Rattle.std.proofs.Common.{◌≡◌, ℕ, zero, suc, ◌+◌, ◌-◌, ◌<◌, ◌≤◌, Bool, true, false, ◌&&◌, ◌||◌, ◌⊎◌, inl, inr, List, [], ◌∷◌, ◌++◌, map, length, nat_eq, get_or, refl, sym, ap, ◌∙◌, subst, arith, eqb-true, eq-eqb, ⊎_elim}
use Rattle.std.specs.List.{All, filter, list_any, range_with_len}
use Rattle.std.specs.List.Sorted.{IsStrictlyIncreasing}
use Rattle.std.proofs.lemmas.Bool.{true≢false, false_from_ne_true, cases_Bool, cases_lt, cases_order, or_cases, or_left, or_right, or_from}
use Rattle.homology.specs.Parity.{xor}
use Rattle.homology.specs.Sets.{Ids, plus, set_of, IsLatest}
use Rattle.homology.specs.Kinds.{sublists}
use Rattle.homology.proofs.ParityLaws.{xor-self, xor-assoc, xor-false, nat_eq-self, nat_eq-apart}
use Rattle.homology.proofs.SetLaws.{same_members}
use Rattle.homology.proofs.ListSetLaws.{ascending-Rises, set_of-All, Contains-set_of, same_ascending, IsLatest-last}
use Rattle.homology.proofs.LatestMembers.{latest-unique}
use Rattle.homology.proofs.KindLaws.{set_of-range, sublists-filter}
use Rattle.cohomology.proofs.Searching.{Each, Sublist, sublists-each, rises-range}
use Rattle.characteristic_classes.specs.Pairings.{words_to}
use Rattle.characteristic_classes.proofs.WordLaws.{listed, listed-ascending, listed-below, listed-at, listed-is, push-ascends, push-below}
use Rattle.operation_spaces.specs.Spaces.{IsWord, sum, greatest}

pub all-member : (n : ℕ) (w : List ℕ) → All (λ k. k < n) w → (k : ℕ) → set_of w k ≡ true → k < n
all-member n w below k m = let c = Contains-set_of w k m in subst (λ x. x < n) c.2 (below c.0 k c.1)

pub word-below : (n : ℕ) (w : List ℕ) → IsWord n w → (k : ℕ) → set_of w k ≡ true → k < n
word-below n w W k m = all-member n w W.numbers k m

word-beyond : (n : ℕ) (w : List ℕ) → IsWord n w → (k : ℕ) → n ≤ k → set_of w k ≡ false
word-beyond n w W k le = false_from_ne_true (set_of w k) (λ m. omega (arith, le, word-below n w W k m))

pub words-same : (n : ℕ) (v w : List ℕ) → IsWord n v → IsWord n w → ((k : ℕ) → k < n → set_of v k ≡ set_of w k) → v ≡ w
words-same n v w V W e = same_ascending v w V.ascending W.ascending (same_members (set_of v) (set_of w) (λ k. ⊎_elim
    (λ (lt : k < n). e k lt)
    (λ (le : n ≤ k). word-beyond n v V k le ∙ sym (word-beyond n w W k le))
    (cases_lt k n)))

pub empty-word : (n : ℕ) → IsWord n []
empty-word n = record { ascending = λ k h. absurd (omega (arith, h)); numbers = λ k d h. absurd (omega (arith, h)) }

pub listed-is_word : (n : ℕ) (c : Ids) → IsWord n (listed n c)
listed-is_word n c = record { ascending = listed-ascending n c; numbers = listed-below n c }

pub sum-word : (n : ℕ) (v w : List ℕ) → IsWord n (sum n v w)
sum-word n v w = listed-is_word n (plus (set_of v) (set_of w))

pub sum-at : (n : ℕ) (v w : List ℕ) → IsWord n v → IsWord n w → (k : ℕ) → set_of (sum n v w) k ≡ xor (set_of v k) (set_of w k)
sum-at n v w V W k = ap (λ z. z k) (listed-is n (plus (set_of v) (set_of w)) (λ q m. within q (set_of v q) (set_of w q) refl refl m))
  where
    within : (q : ℕ) (a b : Bool) → set_of v q ≡ a → set_of w q ≡ b → plus (set_of v) (set_of w) q ≡ true → q < n
    within q true b e f m = word-below n v V q e
    within q false true e f m = word-below n w W q f
    within q false false e f m = absurd (true≢false (sym m ∙ (λ i. xor (e i) (f i))))

pub sum-assoc : (n : ℕ) (u v w : List ℕ) → IsWord n u → IsWord n v → IsWord n w → sum n (sum n u v) w ≡ sum n u (sum n v w)
sum-assoc n u v w U V W = words-same n (sum n (sum n u v) w) (sum n u (sum n v w)) (sum-word n (sum n u v) w) (sum-word n u (sum n v w)) (λ k _.
    sum-at n (sum n u v) w (sum-word n u v) W k
    ∙ ap (λ b. xor b (set_of w k)) (sum-at n u v U V k)
    ∙ xor-assoc (set_of u k) (set_of v k) (set_of w k)
    ∙ sym (sum-at n u (sum n v w) U (sum-word n v w) k ∙ ap (xor (set_of u k)) (sum-at n v w V W k)))

-- words whose sum is empty are equal
pub sum-none : (n : ℕ) (v w : List ℕ) → IsWord n v → IsWord n w → sum n v w ≡ [] → v ≡ w
sum-none n v w V W e = words-same n v w V W (λ k _. by (set_of v k) (set_of w k) (sym (sum-at n v w V W k) ∙ ap (λ z. set_of z k) e))
  where
    by : (a b : Bool) → xor a b ≡ false → a ≡ b
    by true true h = refl
    by true false h = absurd (true≢false h)
    by false b h = sym h

pub sum-self : (n : ℕ) (w : List ℕ) → IsWord n w → sum n w w ≡ []
sum-self n w W = words-same n (sum n w w) [] (sum-word n w w) (empty-word n) (λ k _. sum-at n w w W W k ∙ xor-self (set_of w k))

pub sum-empty : (n : ℕ) (w : List ℕ) → IsWord n w → sum n w [] ≡ w
sum-empty n w W = words-same n (sum n w []) w (sum-word n w []) W (λ k _. sum-at n w [] W (empty-word n) k ∙ xor-false (set_of w k))

-- a term of a sum twice
pub sum-twice : (n : ℕ) (v w : List ℕ) → IsWord n v → IsWord n w → sum n v (sum n v w) ≡ w
sum-twice n v w V W = words-same n (sum n v (sum n v w)) w (sum-word n v (sum n v w)) W (λ k _.
    sum-at n v (sum n v w) V (sum-word n v w) k ∙ ap (xor (set_of v k)) (sum-at n v w V W k) ∙ twice (set_of v k) (set_of w k))
  where
    twice : (a b : Bool) → xor a (xor a b) ≡ b
    twice true true = refl
    twice true false = refl
    twice false b = refl

pub word-top : (n : ℕ) (w : List ℕ) → IsWord n w → (w ≡ []) ⊎ ((k : ℕ) × IsLatest (set_of w) k)
word-top n [] W = inl refl
word-top n (x ∷ w) W = inr (greatest (x ∷ w), IsLatest-last (x ∷ w) (greatest (x ∷ w)) W.ascending (omega arith) refl)

pub greatest-is : (n : ℕ) (w : List ℕ) (k : ℕ) → IsWord n w → IsLatest (set_of w) k → greatest w ≡ k
greatest-is n [] k W L = absurd (true≢false (sym L.member))
greatest-is n (x ∷ w) k W L =
    latest-unique (set_of (x ∷ w)) (greatest (x ∷ w)) k (IsLatest-last (x ∷ w) (greatest (x ∷ w)) W.ascending (omega arith) refl) L

-- one more number at the end
push-at : (u : List ℕ) (k q : ℕ) → set_of (u ++ k ∷ []) q ≡ (set_of u q || nat_eq q k)
push-at [] k q = or-false (nat_eq q k)
  where
    or-false : (b : Bool) → (b || false) ≡ b
    or-false true = refl
    or-false false = refl
push-at (x ∷ u) k q = ap (λ b. nat_eq q x || b) (push-at u k q) ∙ or-assoc (nat_eq q x) (set_of u q) (nat_eq q k)
  where
    or-assoc : (a b c : Bool) → (a || (b || c)) ≡ ((a || b) || c)
    or-assoc true b c = refl
    or-assoc false b c = refl

push-latest : (u : List ℕ) (k : ℕ) → All (λ q. q < k) u → IsLatest (set_of (u ++ k ∷ [])) k
push-latest u k below = record {
  member = push-at u k k ∙ or_right (set_of u k) (nat_eq k k) (nat_eq-self k);
  greatest = λ q m. ⊎_elim
      (λ (front : set_of u q ≡ true). omega (arith, all-member k u below q front))
      (λ (last : nat_eq q k ≡ true). omega (arith, eqb-true q k last))
      (or_cases (set_of u q) (nat_eq q k) (sym (push-at u k q) ∙ m));
}

push-word : (n : ℕ) (u : List ℕ) (k : ℕ) → k < n → IsStrictlyIncreasing u → All (λ q. q < k) u → IsWord n (u ++ k ∷ [])
push-word n u k lt up below = record { ascending = push-ascends u k up below; numbers = push-below n k u lt below }

-- a word ends with its greatest number
latest-push : (n : ℕ) (w : List ℕ) (k : ℕ) → IsWord n w → IsLatest (set_of w) k → listed k (set_of w) ++ k ∷ [] ≡ w
latest-push n w k W L = words-same n (listed k (set_of w) ++ k ∷ []) w
    (push-word n (listed k (set_of w)) k (word-below n w W k L.member) (listed-ascending k (set_of w)) (listed-below k (set_of w))) W
    (λ q _. push-at (listed k (set_of w)) k q ∙ at q (cases_order q k))
  where
    at : (q : ℕ) → (q ≡ k) ⊎ ((q < k) ⊎ (k < q)) → (set_of (listed k (set_of w)) q || nat_eq q k) ≡ set_of w q
    at q (inl same) =
        or_right (set_of (listed k (set_of w)) q) (nat_eq q k) (eq-eqb q k same) ∙ sym (ap (set_of w) same ∙ L.member)
    at q (inr (inl lt)) =
        (λ i. listed-at k (set_of w) q lt i || nat_eq-apart q k (λ e. omega (arith, lt, e)) i) ∙ or-false (set_of w q)
      where
        or-false : (b : Bool) → (b || false) ≡ b
        or-false true = refl
        or-false false = refl
    at q (inr (inr gt)) =
        or_from (set_of (listed k (set_of w)) q) (nat_eq q k)
        (false_from_ne_true (set_of (listed k (set_of w)) q) (λ m. omega (arith, gt, all-member k (listed k (set_of w)) (listed-below k (set_of w)) q m)))
        (nat_eq-apart q k (λ e. omega (arith, gt, e)))
        ∙ sym (false_from_ne_true (set_of w q) (λ m. omega (arith, gt, L.greatest q m)))

list_any-map : (test : List ℕ → Bool) (h : List ℕ → List ℕ) (cs : List (List ℕ)) → list_any test (map h cs) ≡ list_any (λ c. test (h c)) cs
list_any-map test h [] = refl
list_any-map test h (c ∷ cs) = ap (λ b. test (h c) || b) (list_any-map test h cs)

pub words_to-any : (n : ℕ) (test : List ℕ → Bool) (w : List ℕ) (k : ℕ) → IsWord n w → IsLatest (set_of w) k → test w ≡ true
    → list_any test (words_to k) ≡ true
words_to-any n test w k W L e =
    list_any-map test (λ u. u ++ k ∷ []) (sublists (range_with_len 0 k))
    ∙ sublists-filter (range_with_len 0 k) (λ u. test (u ++ k ∷ [])) (set_of w) (ap test (latest-push n w k W L) ∙ e)

-- a word of numbers below n with the greatest number k
pub record Ending (n k : ℕ) (w : List ℕ) : Type 0 where
  pub word : IsWord n w
  pub latest : IsLatest (set_of w) k

each-map : (P Q : List ℕ → Type 0) (h : List ℕ → List ℕ) (cs : List (List ℕ)) → ((c : List ℕ) → P c → Q (h c)) → Each P cs → Each Q (map h cs)
each-map P Q h [] step a = tt
each-map P Q h (c ∷ cs) step a = (step c a.0, each-map P Q h cs step a.1)

pub words_to-each : (n k : ℕ) → k < n → Each (Ending n k) (words_to k)
words_to-each n k lt =
    each-map (Sublist 0 (range_with_len 0 k)) (Ending n k) (λ u. u ++ k ∷ []) (sublists (range_with_len 0 k)) ending
    (sublists-each 0 (range_with_len 0 k) (rises-range 0 k))
  where
    ending : (u : List ℕ) → Sublist 0 (range_with_len 0 k) u → Ending n k (u ++ k ∷ [])
    ending u s =
        let below : All (λ q. q < k) u = set_of-All (λ q. q < k) u (λ q m. omega (arith, (set_of-range 0 k q (s.within q m)).1)) in
        record { word = push-word n u k lt (ascending-Rises 0 u s.rises) below; latest = push-latest u k below }
