-- The basis of a subspace.
--     combination-at, combination-member     the numbers of a combination; one of members is a member
--     basis-found                            the words that are found are a basis
--     basis-one                              there is no other one
use Rattle.std.proofs.Common.{◌≡◌, ℕ, zero, suc, ◌+◌, ◌-◌, ◌<◌, ◌≤◌, Bool, true, false, ◌&&◌, ◌⊎◌, inl, inr, List, [], ◌∷◌, map, length, nat_eq, get_or, refl, sym, ap, ◌∙◌, subst, arith, eqb-true, ⊎_elim}
use Rattle.std.specs.Prelude.{slice_index, slice_index_or}
use Rattle.std.specs.List.{Contains, filter, range_with_len}
use Rattle.std.specs.List.Sorted.{IsStrictlyIncreasing}
use Rattle.std.proofs.lemmas.Bool.{true≢false, and_parts, false_from_ne_true, cases_Bool, cases_eq, cases_lt, cases_order}
use Rattle.std.proofs.lemmas.List.{length-map, get_or-map}
use Rattle.std.proofs.lemmas.List.Folds.{list_any_at}
use Rattle.std.proofs.lemmas.List.Kept.{AllPairs-from_increasing}
use Rattle.std.proofs.lemmas.Grind.{get_or_default_zero}
use Rattle.homology.specs.Parity.{xor, odd}
use Rattle.homology.specs.Sets.{Ids, set_of, IsLatest}
use Rattle.homology.proofs.ParityLaws.{xor-self, and-comm, nat_eq-self, nat_eq-apart, odd-same, odd-none, odd-one}
use Rattle.homology.proofs.SetLaws.{same_members}
use Rattle.homology.proofs.BoundaryLaws.{odd-some}
use Rattle.homology.proofs.LatestMembers.{latest-unique}
use Rattle.homology.proofs.ListSetLaws.{Contains-set_of, same_ascending, ascending-le, IsLatest-last}
use Rattle.characteristic_classes.proofs.WordLaws.{listed, listed-ascending, listed-below, listed-at}
use Rattle.operation_spaces.specs.Spaces.{IsWord, sum, IsSubspace, leads, reduced_to, basis, word_at, combination, greatest, IsBasis}
use Rattle.operation_spaces.proofs.Words.{all-member, word-below, words-same, empty-word, listed-is_word, sum-word, sum-at, sum-none, word-top, greatest-is}
use Rattle.operation_spaces.proofs.LeadLaws.{Leader, leads-from, leads-member, Reduced, reduced-one, reduced_to-is}

-- the sum of the words at the places below m in c
abbrev partial : ℕ → List (List ℕ) → Ids → ℕ → List ℕ
partial n B c m = listed n (λ q. odd m (λ i. c i && set_of (word_at B i) q))

pub combination-at : (n : ℕ) (B : List (List ℕ)) (c : Ids) (k : ℕ) → k < n
    → set_of (combination n B c) k ≡ odd (length B) (λ i. c i && set_of (word_at B i) k)
combination-at n B c k lt = listed-at n (λ q. odd (length B) (λ i. c i && set_of (word_at B i) q)) k lt

pub combination-member : (n : ℕ) (S : List ℕ → Bool) → IsSubspace n S → (B : List (List ℕ)) (c : Ids)
    → ((i : ℕ) → i < length B → IsWord n (word_at B i)) → ((i : ℕ) → i < length B → S (word_at B i) ≡ true) → S (combination n B c) ≡ true
combination-member n S sub B c words members = upto (length B) (omega arith)
  where
    none : partial n B c zero ≡ []
    none = words-same n (partial n B c zero) [] (listed-is_word n (λ q. false)) (empty-word n) (λ k lt. listed-at n (λ q. false) k lt)

    taken : (m : ℕ) → m < length B → c m ≡ true → partial n B c (suc m) ≡ sum n (word_at B m) (partial n B c m)
    taken m lt e = words-same n (partial n B c (suc m)) (sum n (word_at B m) (partial n B c m))
        (listed-is_word n (λ q. odd (suc m) (λ i. c i && set_of (word_at B i) q))) (sum-word n (word_at B m) (partial n B c m)) (λ k below.
        listed-at n (λ q. odd (suc m) (λ i. c i && set_of (word_at B i) q)) k below
        ∙ (λ i. xor (e i && set_of (word_at B m) k) (sym (listed-at n (λ q. odd m (λ i. c i && set_of (word_at B i) q)) k below) i))
        ∙ sym (sum-at n (word_at B m) (partial n B c m) (words m lt) (listed-is_word n (λ q. odd m (λ i. c i && set_of (word_at B i) q))) k))

    left : (m : ℕ) → c m ≡ false → partial n B c (suc m) ≡ partial n B c m
    left m e = λ j. listed n (λ q. xor (e j && set_of (word_at B m) q) (odd m (λ i. c i && set_of (word_at B i) q)))

    step : (m : ℕ) → m < length B → S (partial n B c m) ≡ true → S (partial n B c (suc m)) ≡ true
    step m lt h = ⊎_elim
        (λ (e : c m ≡ true).
        ap S (taken m lt e)
        ∙ sub.sums (word_at B m) (partial n B c m) (words m lt) (listed-is_word n (λ q. odd m (λ i. c i && set_of (word_at B i) q))) (members m lt) h)
        (λ (e : c m ≡ false). ap S (left m e) ∙ h)
        (cases_Bool (c m))

    upto : (m : ℕ) → m ≤ length B → S (partial n B c m) ≡ true
    upto zero le = ap S none ∙ sub.zero
    upto (suc m) le = step m (omega arith) (upto m (omega arith))

module _ (n : ℕ) (S : List ℕ → Bool) (sub : IsSubspace n S) where
  -- the leading numbers in order
  abbrev leaders : List ℕ
  leaders = listed n (leads S)

  abbrev lead : ℕ → ℕ
  lead i = slice_index_or leaders i 0

  abbrev places : ℕ
  places = length leaders

  basis-length : length (basis n S) ≡ places
  basis-length = length-map leaders (reduced_to S)

  basis-at : (i : ℕ) → i < places → word_at (basis n S) i ≡ reduced_to S (lead i)
  basis-at i lt = get_or-map (reduced_to S) leaders i 0 [] lt

  lead-below : (i : ℕ) → i < places → lead i < n
  lead-below i lt = listed-below n (leads S) i 0 lt

  lead-leads : (i : ℕ) → i < places → leads S (lead i) ≡ true
  lead-leads i lt =
      sym (listed-at n (leads S) (lead i) (lead-below i lt))
      ∙ list_any_at (λ t. nat_eq (lead i) t) leaders i 0 lt (nat_eq-self (lead i))

  lead-found : (k : ℕ) → k < n → leads S k ≡ true → (i : ℕ) × (i < places) × (lead i ≡ k)
  lead-found k lt e =
      let c : Contains leaders k = Contains-set_of leaders k (listed-at n (leads S) k lt ∙ e) in
      (c.0, c.1, sym (get_or_default_zero leaders c.0 k c.1) ∙ c.2)

  lead-ascends : (i j : ℕ) → i < j → j < places → lead i < lead j
  lead-ascends i j less lt = grind (arith, AllPairs-from_increasing leaders (listed-ascending n (leads S)) i j 0)

  reduced-at : (i : ℕ) → i < places → Reduced n S sub (lead i) (reduced_to S (lead i))
  reduced-at i lt = reduced_to-is n S sub (lead i) (lead-below i lt) (lead-leads i lt)

  -- at the leading numbers the words found are the unit matrix
  unit : (i j : ℕ) → i < places → j < places → set_of (reduced_to S (lead i)) (lead j) ≡ nat_eq i j
  unit i j i_in j_in = at (cases_order i j)
    where
      at : (i ≡ j) ⊎ ((i < j) ⊎ (j < i)) → set_of (reduced_to S (lead i)) (lead j) ≡ nat_eq i j
      at (inl same) =
          ap (λ m. set_of (reduced_to S (lead i)) (lead m)) (sym same)
          ∙ (reduced-at i i_in).latest.member
          ∙ sym (ap (nat_eq i) (sym same) ∙ nat_eq-self i)
      at (inr (inl less)) =
          false_from_ne_true (set_of (reduced_to S (lead i)) (lead j))
          (λ m. omega (arith, (reduced-at i i_in).latest.greatest (lead j) m, lead-ascends i j less j_in))
          ∙ sym (nat_eq-apart i j (λ e. omega (arith, less, e)))
      at (inr (inr more)) =
          (reduced-at i i_in).reduced (lead j) (lead-ascends j i more i_in) (lead-leads j j_in)
          ∙ sym (nat_eq-apart i j (λ e. omega (arith, more, e)))

  basis-word : (i : ℕ) → i < length (basis n S) → Reduced n S sub (lead i) (word_at (basis n S) i)
  basis-word i lt =
      let within : i < places = omega (arith, lt, basis-length) in
      subst (Reduced n S sub (lead i)) (sym (basis-at i within)) (reduced-at i within)

  -- so a combination has, at a leading number, whether its word is taken
  combination-lead : (c : Ids) (j : ℕ) → j < places → set_of (combination n (basis n S) c) (lead j) ≡ c j
  combination-lead c j lt =
      combination-at n (basis n S) c (lead j) (lead-below j lt)
      ∙ ap (λ m. odd m (λ i. c i && set_of (word_at (basis n S) i) (lead j))) basis-length
      ∙ odd-same places _ _ (λ i i_in.
      (λ k. c i && (ap (λ w. set_of w (lead j)) (basis-at i i_in) ∙ unit i j i_in lt) k) ∙ and-comm (c i) (nat_eq i j))
      ∙ odd-one places j c lt

  basis-spans : (w : List ℕ) → IsWord n w → S w ≡ true → (c : Ids) × (w ≡ combination n (basis n S) c)
  basis-spans w W m = (
    taken,
    sum-none n w whole W whole_word (⊎_elim
        (λ (none : sum n w whole ≡ []). none)
        (λ (some : (k : ℕ) × IsLatest (set_of (sum n w whole)) k). absurd (clash some.0 some.1))
        (word-top n (sum n w whole) (sum-word n w whole))),
  )
    where
      taken : Ids
      taken i = set_of w (lead i)

      whole : List ℕ
      whole = combination n (basis n S) taken

      whole_word : IsWord n whole
      whole_word = listed-is_word n (λ q. odd (length (basis n S)) (λ i. taken i && set_of (word_at (basis n S) i) q))

      rest : S (sum n w whole) ≡ true
      rest = sub.sums w whole W whole_word m
          (combination-member n S sub (basis n S) taken (λ i lt. (basis-word i lt).is_word) (λ i lt. (basis-word i lt).member))

      clash : (k : ℕ) → IsLatest (set_of (sum n w whole)) k → ⊥
      clash k L =
          let below : k < n = word-below n (sum n w whole) (sum-word n w whole) k L.member in
          let found : (i : ℕ) × (i < places) × (lead i ≡ k) = lead-found k below (leads-from n S (sum n w whole) k (sum-word n w whole) rest L) in
          true≢false
          (sym L.member
          ∙ ap (set_of (sum n w whole)) (sym found.2)
          ∙ sum-at n w whole W whole_word (lead found.0)
          ∙ ap (xor (set_of w (lead found.0))) (combination-lead taken found.0 found.1)
          ∙ xor-self (set_of w (lead found.0)))

  greatest-at : (i : ℕ) → i < length (basis n S) → greatest (word_at (basis n S) i) ≡ lead i
  greatest-at i lt = greatest-is n (word_at (basis n S) i) (lead i) (basis-word i lt).is_word (basis-word i lt).latest

  pub basis-found : IsBasis n S (basis n S)
  basis-found = record {
    words = λ i lt. (basis-word i lt).is_word;
    members = λ i lt. (basis-word i lt).member;
    nonzero = λ i lt e. true≢false (sym (basis-word i lt).latest.member ∙ ap (λ w. set_of w (lead i)) e);
    ascending = λ i j less lt.
        omega (arith, greatest-at i (omega (arith, less, lt)), greatest-at j lt, lead-ascends i j less (omega (arith, lt, basis-length)));
    apart = λ i j i_in j_in other.
        ap (set_of (word_at (basis n S) i)) (greatest-at j j_in)
        ∙ ap (λ w. set_of w (lead j)) (basis-at i (omega (arith, i_in, basis-length)))
        ∙ unit i j (omega (arith, i_in, basis-length)) (omega (arith, j_in, basis-length))
        ∙ nat_eq-apart i j other;
    spans = basis-spans;
    independent = λ c d e i lt.
        let within : i < places = omega (arith, lt, basis-length) in
        sym (combination-lead c i within) ∙ ap (λ w. set_of w (lead i)) e ∙ combination-lead d i within;
  }

  -- another basis has the same greatest numbers
  module _ (B : List (List ℕ)) (b : IsBasis n S B) where
    abbrev top : ℕ → ℕ
    top i = greatest (word_at B i)

    top-latest : (i : ℕ) → i < length B → IsLatest (set_of (word_at B i)) (top i)
    top-latest i lt = ⊎_elim
        (λ (none : word_at B i ≡ []). absurd (b.nonzero i lt none))
        (λ (some : (k : ℕ) × IsLatest (set_of (word_at B i)) k).
        subst (IsLatest (set_of (word_at B i))) (sym (greatest-is n (word_at B i) some.0 (b.words i lt) some.1)) some.1)
        (word-top n (word_at B i) (b.words i lt))

    top-below : (i : ℕ) → i < length B → top i < n
    top-below i lt = word-below n (word_at B i) (b.words i lt) (top i) (top-latest i lt).member

    top-leads : (i : ℕ) → i < length B → leads S (top i) ≡ true
    top-leads i lt = leads-from n S (word_at B i) (top i) (b.words i lt) (b.members i lt) (top-latest i lt)

    -- at these numbers its words are the unit matrix too
    top-unit : (i j : ℕ) → i < length B → j < length B → set_of (word_at B i) (top j) ≡ nat_eq i j
    top-unit i j i_in j_in = ⊎_elim
        (λ (same : i ≡ j).
        ap (λ m. set_of (word_at B m) (top j)) same ∙ (top-latest j j_in).member ∙ sym (ap (λ m. nat_eq m j) same ∙ nat_eq-self j))
        (λ (other : i ≡ j → ⊥). b.apart i j i_in j_in other ∙ sym (nat_eq-apart i j other))
        (cases_eq i j)

    top-combination : (c : Ids) (j : ℕ) → j < length B → set_of (combination n B c) (top j) ≡ c j
    top-combination c j lt =
        combination-at n B c (top j) (top-below j lt)
        ∙ odd-same (length B) _ _ (λ i i_in. ap (λ z. c i && z) (top-unit i j i_in lt) ∙ and-comm (c i) (nat_eq i j))
        ∙ odd-one (length B) j c lt

    -- each leading number is one of them
    top-found : (k : ℕ) → k < n → leads S k ≡ true → (i : ℕ) × (i < length B) × (top i ≡ k)
    top-found k lt e = (some.0, some.1, omega (arith, low, high))
      where
        u : Leader n S k
        u = leads-member n S k lt e

        by : (c : Ids) × (u.word ≡ combination n B c)
        by = b.spans u.word u.is_word u.member

        some : (i : ℕ) × (i < length B) × ((by.0 i && set_of (word_at B i) k) ≡ true)
        some = odd-some (length B) (λ i. by.0 i && set_of (word_at B i) k)
            (sym (combination-at n B by.0 k lt) ∙ ap (λ w. set_of w k) (sym by.1) ∙ u.latest.member)

        both : (by.0 some.0 ≡ true) × (set_of (word_at B some.0) k ≡ true)
        both = and_parts (by.0 some.0) (set_of (word_at B some.0) k) some.2

        low : k ≤ top some.0
        low = (top-latest some.0 some.1).greatest k both.1

        high : top some.0 ≤ k
        high = u.latest.greatest (top some.0) (ap (λ w. set_of w (top some.0)) by.1 ∙ top-combination by.0 some.0 some.1 ∙ both.0)

    -- so its words are reduced
    word-reduced : (i : ℕ) → i < length B → Reduced n S sub (top i) (word_at B i)
    word-reduced i lt = record {
      is_word = b.words i lt;
      member = b.members i lt;
      latest = top-latest i lt;
      reduced = λ j less lead_j.
          let found : (m : ℕ) × (m < length B) × (top m ≡ j) = top-found j (omega (arith, less, top-below i lt)) lead_j in
          ap (set_of (word_at B i)) (sym found.2)
          ∙ top-unit i found.0 lt found.1
          ∙ nat_eq-apart i found.0 (λ e. omega (arith, less, found.2, ap top e));
    }

    word-is : (i : ℕ) → i < length B → word_at B i ≡ reduced_to S (top i)
    word-is i lt = reduced-one n S sub (top i) (word_at B i) (reduced_to S (top i)) (word-reduced i lt)
        (reduced_to-is n S sub (top i) (top-below i lt) (top-leads i lt))

same-map : (f : List ℕ → List ℕ) (B : List (List ℕ)) → ((i : ℕ) → i < length B → word_at B i ≡ f (word_at B i)) → B ≡ map f B
same-map f [] h = refl
same-map f (w ∷ B) h = λ j. h 0 (omega arith) j ∷ same-map f B (λ i lt. h (suc i) (omega arith)) j

map-map : (f : ℕ → List ℕ) (g : List ℕ → ℕ) (B : List (List ℕ)) → map f (map g B) ≡ map (λ w. f (g w)) B
map-map f g [] = refl
map-map f g (w ∷ B) = ap (λ r. f (g w) ∷ r) (map-map f g B)

module _ (n : ℕ) (S : List ℕ → Bool) (sub : IsSubspace n S) (B : List (List ℕ)) (b : IsBasis n S B) where
  abbrev tops : List ℕ
  tops = map greatest B

  tops-length : length tops ≡ length B
  tops-length = length-map B greatest

  tops-at : (i d : ℕ) → i < length B → get_or tops i d ≡ greatest (word_at B i)
  tops-at i d lt = get_or-map greatest B i [] d lt

  tops-ascend : IsStrictlyIncreasing tops
  tops-ascend k h =
      let lt : k + 1 < length B = omega (arith, h, tops-length) in
      omega (arith, tops-at k 0 (omega (arith, lt)), tops-at (k + 1) 0 lt, b.ascending k (k + 1) (omega arith) lt)

  tops-leaders : (k : ℕ) → set_of tops k ≡ set_of (leaders n S sub) k
  tops-leaders k = either_way (set_of tops k) (set_of (leaders n S sub) k) into from
    where
      either_way : (x y : Bool) → (x ≡ true → y ≡ true) → (y ≡ true → x ≡ true) → x ≡ y
      either_way true y f g = sym (f refl)
      either_way false true f g = g refl
      either_way false false f g = refl

      into : set_of tops k ≡ true → set_of (leaders n S sub) k ≡ true
      into m =
          let c : Contains tops k = Contains-set_of tops k m in
          let lt : c.0 < length B = omega (arith, c.1, tops-length) in
          let same : greatest (word_at B c.0) ≡ k = sym (tops-at c.0 k lt) ∙ c.2 in
          listed-at n (leads S) k (subst (λ x. x < n) same (top-below n S sub B b c.0 lt)) ∙ ap (leads S) (sym same) ∙ top-leads n S sub B b c.0 lt

      from : set_of (leaders n S sub) k ≡ true → set_of tops k ≡ true
      from m =
          let below : k < n = all-member n (leaders n S sub) (listed-below n (leads S)) k m in
          let found : (i : ℕ) × (i < length B) × (greatest (word_at B i) ≡ k) =
          top-found n S sub B b k below (sym (listed-at n (leads S) k below) ∙ m) in
          list_any_at (λ t. nat_eq k t) tops found.0 0 (omega (arith, found.1, tops-length))
          (ap (nat_eq k) (tops-at found.0 0 found.1 ∙ found.2) ∙ nat_eq-self k)

  pub basis-one : B ≡ basis n S
  basis-one =
      same-map (λ w. reduced_to S (greatest w)) B (λ i lt. word-is n S sub B b i lt)
      ∙ sym (map-map (reduced_to S) greatest B)
      ∙ ap (map (reduced_to S))
      (same_ascending tops (leaders n S sub) tops-ascend (listed-ascending n (leads S)) (same_members (set_of tops) (set_of (leaders n S sub)) tops-leaders))
