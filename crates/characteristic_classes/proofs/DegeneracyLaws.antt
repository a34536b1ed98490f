-- Degenerate classes, and the search for the first.
--     degenerate-row, row-degenerate      a word is degenerate exactly where the sum of its rows is zero
--     degenerate-places, places-degenerate     so where the sum of its rows, as sets of places, is empty
--     degenerate-sum                      the sum of degenerate words is degenerate
--     same-greatest                       there is one with a greatest number, where none has a less greatest number
--     nonzero_word, word-nonzero          the words that the search goes through are those that are not empty
--     none-degenerate, degenerate-none    the search finds nothing exactly where there is none
--     first-found, first-told             and else the first
use Rattle.std.proofs.Common.{◌≡◌, ℕ, zero, suc, ◌+◌, ◌-◌, ◌<◌, ◌≤◌, true, false, not, ◌⊎◌, inl, inr, List, [], ◌∷◌, ◌++◌, map, length, max, Some, None, refl, sym, ap, ◌∙◌, subst, arith, ⊎_elim}
use Rattle.std.specs.Prelude.{slice_index_or}
use Rattle.std.specs.List.{All, Contains, filter, flat_map, fold, range_with_len}
use Rattle.std.specs.List.Sorted.{IsStrictlyIncreasing}
use Rattle.std.proofs.lemmas.Bool.{true≢false, false_from_ne_true, not-true, cases_lt}
use Rattle.homology.specs.Parity.{xor}
use Rattle.homology.specs.Sets.{Ids, empty, single, plus, set_of}
use Rattle.homology.specs.ListSums.{odd_over, sum_over}
use Rattle.homology.specs.Complexes.{Complex, IsComplex, simplex_at, dimensions}
use Rattle.homology.specs.Kinds.{betti, sublists}
use Rattle.homology.proofs.SetLaws.{same_members}
use Rattle.homology.proofs.ListSetLaws.{set_of-push, set_of-All, Contains-set_of}
use Rattle.homology.proofs.ListSumLaws.{odd_over-same, odd_over-none}
use Rattle.homology.proofs.LatestMembers.{plus-source}
use Rattle.cohomology.specs.Classes.{IsClass, classes, essential_at}
use Rattle.cohomology.proofs.Naming.{essential-at}
use Rattle.cohomology.proofs.ClassLaws.{sums-last}
use Rattle.cohomology.proofs.TestLaws.{classes-words}
use Rattle.manifolds.specs.Closed.{top}
use Rattle.characteristic_classes.specs.Pairings.{pair, row, is_degenerate, words_to, nonzero_words, first_of, first_degenerate, IsFirstDegenerate}
use Rattle.characteristic_classes.proofs.PairingLaws.{row-entry, row-beyond, one-word, pair-left, pair-right}
use Rattle.characteristic_classes.proofs.WordLaws.{word_sum, word_sum-class, word_sum-is, odd_over-sum, words-equal, Split, split-last, push-some, front-below, front-ascends, push-ascends, last-below, push-below}
use Rattle.characteristic_classes.proofs.SearchLaws.{all-member, all-holds, From, map-source, map-member, filter-none, filter-misses, Begins, FirstOf, filter-one, filter-begins, filter-flat, flat-begins, flat-none, flat-first, flat-each, listed-sublist, sublist-listed}

-- the sum of the rows of a word is zero
abbrev pub HasZeroRow : Complex → ℕ → List ℕ → Type 0
HasZeroRow K p v = (k : ℕ) → k < betti K (top K - p) → odd_over v (λ j. pair K p (j ∷ []) (k ∷ [])) ≡ false

module _ (K : Complex) (ok : IsComplex K) where
  pub degenerate-row : (p : ℕ) (v : List ℕ) → IsClass K p v → is_degenerate K p v ≡ true → HasZeroRow K p v
  degenerate-row p v V e k lt =
      sym (pair-left K ok p v V (k ∷ []))
      ∙ not-true (pair K p v (k ∷ []))
      (all-member (λ w. not (pair K p v w)) (classes K (top K - p)) (k ∷ []) e
      ((classes-words K (top K - p) (k ∷ [])).1 (one-word K (top K - p) k lt)))

  pub row-degenerate : (p : ℕ) (v : List ℕ) → IsClass K p v → HasZeroRow K p v → is_degenerate K p v ≡ true
  row-degenerate p v V rows =
      all-holds (λ w. not (pair K p v w)) (classes K (top K - p)) (λ w m. ap not (zero_at w ((classes-words K (top K - p) w).0 m)))
    where
      zero_at : (w : List ℕ) → IsClass K (top K - p) w → pair K p v w ≡ false
      zero_at w W =
          pair-right K ok p v w W
          ∙ odd_over-none w (λ k. pair K p v (k ∷ []))
          (λ i d h. pair-left K ok p v V (slice_index_or w i d ∷ []) ∙ rows (slice_index_or w i d) (W.numbers i d h))

  -- the rows as sets of places
  abbrev pub places : ℕ → ℕ → Ids
  places p j = λ q. slice_index_or (row K p j) q false

  pub degenerate-places : (p : ℕ) (v : List ℕ) → IsClass K p v → is_degenerate K p v ≡ true → sum_over v (places p) ≡ empty
  degenerate-places p v V e = same_members (sum_over v (places p)) empty (λ q. ⊎_elim
      (λ (lt : q < betti K (top K - p)).
      odd_over-same v (λ j. places p j q) (λ j. pair K p (j ∷ []) (q ∷ [])) (λ i d _. row-entry K p (slice_index_or v i d) q lt)
      ∙ degenerate-row p v V e q lt)
      (λ (le : betti K (top K - p) ≤ q). odd_over-none v (λ j. places p j q) (λ i d _. row-beyond K p (slice_index_or v i d) q le))
      (cases_lt q (betti K (top K - p))))

  pub places-degenerate : (p : ℕ) (v : List ℕ) → IsClass K p v → sum_over v (places p) ≡ empty → is_degenerate K p v ≡ true
  places-degenerate p v V e = row-degenerate p v V (λ k lt.
      sym (odd_over-same v (λ j. places p j k) (λ j. pair K p (j ∷ []) (k ∷ [])) (λ i d _. row-entry K p (slice_index_or v i d) k lt))
      ∙ ap (λ z. z k) e)

  pub degenerate-sum : (p : ℕ) (v w : List ℕ) → IsClass K p v → IsClass K p w → is_degenerate K p v ≡ true → is_degenerate K p w ≡ true
      → is_degenerate K p (word_sum K p v w) ≡ true
  degenerate-sum p v w V W D E = row-degenerate p (word_sum K p v w) (word_sum-class K p v w) (λ k lt.
      odd_over-sum K p v w V W (λ j. pair K p (j ∷ []) (k ∷ []))
      ∙ (λ i. xor (degenerate-row p v V D k lt i) (degenerate-row p w W E k lt i)))

  -- no word with numbers below g alone is degenerate, but the empty one
  abbrev pub FreeBelow : ℕ → ℕ → Type 0
  FreeBelow p g = (w : List ℕ) → IsClass K p w → All (λ k. k < g) w → is_degenerate K p w ≡ true → w ≡ []

  pub same-greatest : (p g : ℕ) (u v : List ℕ) → IsClass K p (u ++ g ∷ []) → IsClass K p (v ++ g ∷ [])
      → is_degenerate K p (u ++ g ∷ []) ≡ true → is_degenerate K p (v ++ g ∷ []) ≡ true → FreeBelow p g → u ++ g ∷ [] ≡ v ++ g ∷ []
  same-greatest p g u v U V D E free =
      words-equal K p (u ++ g ∷ []) (v ++ g ∷ []) U V
      (free s (word_sum-class K p (u ++ g ∷ []) (v ++ g ∷ [])) (set_of-All (λ k. k < g) s (λ k m. below k (sym (ap (λ z. z k) members) ∙ m)))
      (degenerate-sum p (u ++ g ∷ []) (v ++ g ∷ []) U V D E))
    where
      s : List ℕ
      s = word_sum K p (u ++ g ∷ []) (v ++ g ∷ [])

      -- the greatest number cancels
      members : set_of s ≡ plus (set_of u) (set_of v)
      members =
          word_sum-is K p (u ++ g ∷ []) (v ++ g ∷ []) U V
          ∙ (λ i. plus (set_of-push u g U.ascending i) (set_of-push v g V.ascending i))
          ∙ sums-last (set_of u) (set_of v) (single g)

      within : (w : List ℕ) → IsClass K p (w ++ g ∷ []) → (k : ℕ) → set_of w k ≡ true → k < g
      within w W k m = let c = Contains-set_of w k m in subst (λ x. x < g) c.2 (front-below w g W.ascending c.0 k c.1)

      below : (k : ℕ) → plus (set_of u) (set_of v) k ≡ true → k < g
      below k m = elim (plus-source (set_of u) (set_of v) k m) [
        | inl h ↦ within u U k h
        | inr h ↦ within v V k h
      ]

-- the words that the search goes through
record Listed (g : ℕ) (w : List ℕ) : Type 0 where
  front : List ℕ
  is : w ≡ front ++ g ∷ []
  ascending : IsStrictlyIncreasing front
  below : All (λ k. k < g) front

word-listed : (g : ℕ) (w : List ℕ) → Contains (words_to g) w → Listed g w
word-listed g w m =
    let f : List ℕ → List ℕ = λ u. u ++ g ∷ [] in
    let r : From f (sublists (range_with_len 0 g)) w = map-source f (sublists (range_with_len 0 g)) w m in
    let both = listed-sublist g r.source r.there in
    record { front = r.source; is = r.is; ascending = both.0; below = both.1 }

listed-word : (g : ℕ) (u : List ℕ) → IsStrictlyIncreasing (u ++ g ∷ []) → Contains (words_to g) (u ++ g ∷ [])
listed-word g u up = map-member (λ (v : List ℕ). v ++ g ∷ []) (sublists (range_with_len 0 g)) u (sublist-listed g u (front-ascends u g up) (front-below u g up))

module _ (K : Complex) (p : ℕ) where
  word-class : (g : ℕ) (w : List ℕ) → g < betti K p → Listed g w → IsClass K p w
  word-class g w lt L = subst (IsClass K p) (sym L.is) (record {
    ascending = push-ascends L.front g L.ascending L.below;
    numbers = push-below (betti K p) g L.front lt L.below;
  })

  word-some : (g : ℕ) (w : List ℕ) → Listed g w → w ≡ [] → ⊥
  word-some g w L none = push-some L.front g (sym L.is ∙ none)

  -- the degenerate ones with the greatest number g
  abbrev kept : ℕ → List (List ℕ)
  kept g = filter (is_degenerate K p) (words_to g)

  kept-all : filter (is_degenerate K p) (nonzero_words K p) ≡ flat_map kept (range_with_len 0 (betti K p))
  kept-all = filter-flat (is_degenerate K p) words_to (range_with_len 0 (betti K p))

  kept-none : (g : ℕ) → g < betti K p → ((w : List ℕ) → IsClass K p w → All (λ k. k < g + 1) w → is_degenerate K p w ≡ true → w ≡ []) → kept g ≡ []
  kept-none g lt free = filter-none (is_degenerate K p) (words_to g) (λ w m.
      let L = word-listed g w m in
      false_from_ne_true (is_degenerate K p w) (λ e. word-some g w L (free w (word-class g w lt L) (low w L) e)))
    where
      low : (w : List ℕ) → Listed g w → All (λ k. k < g + 1) w
      low w L = subst (All (λ k. k < g + 1)) (sym L.is) (push-below (g + 1) g L.front (omega arith) L.below)

-- the degenerate words of a degree
abbrev found : Complex → ℕ → List (ℕ × List ℕ)
found K p = map (λ w. (p, w)) (filter (is_degenerate K p) (nonzero_words K p))

-- only the empty word is degenerate
abbrev pub IsFree : Complex → ℕ → Type 0
IsFree K p = (w : List ℕ) → IsClass K p w → is_degenerate K p w ≡ true → w ≡ []

found-none : (K : Complex) (p : ℕ) → IsFree K p → found K p ≡ []
found-none K p free = ap (map (λ w. (p, w)))
    (kept-all K p ∙ flat-none (kept K p) 0 (betti K p) (λ g _ lt. kept-none K p g (omega (arith, lt)) (λ w W _ e. free w W e)))

found-first : (K : Complex) → IsComplex K → (p g : ℕ) (u : List ℕ) → IsClass K p (u ++ g ∷ []) → is_degenerate K p (u ++ g ∷ []) ≡ true
    → g < betti K p → ((w : List ℕ) → IsClass K p w → All (λ k. k < g) w → is_degenerate K p w ≡ true → w ≡ [])
    → Begins (found K p) (p, u ++ g ∷ [])
found-first K ok p g u U D lt free = (map (λ w. (p, w)) first.0, ap (map (λ w. (p, w))) (kept-all K p ∙ first.1))
  where
    alone : (w : List ℕ) → Contains (words_to g) w → is_degenerate K p w ≡ true → w ≡ u ++ g ∷ []
    alone w m e =
        let L = word-listed g w m in
        L.is
        ∙ same-greatest K ok p g L.front u (subst (IsClass K p) L.is (word-class K p g w lt L)) U (sym (ap (is_degenerate K p) L.is) ∙ e) D free

    here : Begins (kept K p g) (u ++ g ∷ [])
    here = filter-one (is_degenerate K p) (u ++ g ∷ []) (words_to g) (listed-word g u U.ascending) D alone

    before : (h : ℕ) → 0 ≤ h → h < g → kept K p h ≡ []
    before h _ less = kept-none K p h (omega (arith, less, lt)) (λ w W low e. free w W (λ k d i. omega (arith, low k d i, less)) e)

    first : Begins (flat_map (kept K p) (range_with_len 0 (betti K p))) (u ++ g ∷ [])
    first = flat-first (kept K p) 0 (betti K p) g (u ++ g ∷ []) (omega arith) (omega (arith, lt)) before here

first-is : (K : Complex) → first_degenerate K ≡ first_of (flat_map (found K) (range_with_len 0 (dimensions K)))
unfolding first_degenerate
first-is K = refl

-- a simplex has no more vertices than the largest
fold-le : (K : Complex) (a : ℕ) → a ≤ fold (λ n s. max n (length s)) a K
fold-le [] a = omega arith
fold-le (s ∷ K) a = omega (arith, fold-le K (max a (length s)))

widest : (K : Complex) (a t : ℕ) → length (simplex_at K t) ≤ fold (λ n s. max n (length s)) a K
widest [] a t = omega arith
widest (s ∷ K) a zero = omega (arith, fold-le K (max a (length s)))
widest (s ∷ K) a (suc t) = widest K (max a (length s)) t

-- a degree with a class is one of those from 0 to the dimension
pub degree-below : (K : Complex) → IsComplex K → (p k : ℕ) → k < betti K p → p < dimensions K
degree-below K ok p k lt =
    let h = essential-at K p k lt in
    omega (arith, h.2, widest K 0 (essential_at K p k), (ok.simplices (essential_at K p k) h.1).nonempty)

pub none-degenerate : (K : Complex) → ((p : ℕ) → p ≤ top K → IsFree K p) → first_degenerate K ≡ None
none-degenerate K free =
    first-is K ∙ ap first_of (flat-none (found K) 0 (dimensions K) (λ p _ lt. found-none K p (free p (omega (arith, lt)))))

pub first-found : (K : Complex) → IsComplex K → (p g : ℕ) (u : List ℕ) → IsClass K p (u ++ g ∷ []) → is_degenerate K p (u ++ g ∷ []) ≡ true
    → ((q : ℕ) → q < p → IsFree K q)
    → ((w : List ℕ) → IsClass K p w → All (λ k. k < g) w → is_degenerate K p w ≡ true → w ≡ [])
    → first_degenerate K ≡ Some (p, u ++ g ∷ [])
first-found K ok p g u U D less free = first-is K ∙ ap first_of first.1
  where
    lt : g < betti K p
    lt = last-below (betti K p) g u U.numbers

    first : Begins (flat_map (found K) (range_with_len 0 (dimensions K))) (p, u ++ g ∷ [])
    first = flat-first (found K) 0 (dimensions K) p (p, u ++ g ∷ []) (omega arith) (omega (arith, degree-below K ok p g lt))
        (λ q _ below. found-none K q (less q below)) (found-first K ok p g u U D lt free)

first_of-none : (l : List (ℕ × List ℕ)) → first_of l ≡ None → l ≡ []
first_of-none [] e = refl
first_of-none (w ∷ l) e = absurd (cc)

map-none : (p : ℕ) (l : List (List ℕ)) → map {B = ℕ × List ℕ} (λ w. (p, w)) l ≡ [] → l ≡ []
map-none p [] e = refl
map-none p (w ∷ l) e = absurd (cc)

-- a degenerate word that is not empty is kept among those with its last number
kept-misses : (K : Complex) (p h : ℕ) (u : List ℕ) → IsStrictlyIncreasing (u ++ h ∷ []) → kept K p h ≡ [] → is_degenerate K p (u ++ h ∷ []) ≡ true → ⊥
kept-misses K p h u up none D =
    true≢false (sym D ∙ filter-misses (is_degenerate K p) (words_to h) (u ++ h ∷ []) none (listed-word h u up))

-- where none of these are kept up to g
pub kept-free : (K : Complex) (p g : ℕ) → ((h : ℕ) → h < g → h < betti K p → kept K p h ≡ [])
    → (w : List ℕ) → IsClass K p w → All (λ k. k < g) w → is_degenerate K p w ≡ true → w ≡ []
kept-free K p g none [] W low D = refl
kept-free K p g none (x ∷ w) W low D = absurd (at (split-last x w))
  where
    at : Split (x ∷ w) → ⊥
    at s = kept-misses K p s.last s.front V.ascending (none s.last less (last-below (betti K p) s.last s.front V.numbers)) (sym (ap (is_degenerate K p) s.is) ∙ D)
      where
        V : IsClass K p (s.front ++ s.last ∷ [])
        V = subst (IsClass K p) s.is W

        less : s.last < g
        less = last-below g s.last s.front (subst (All (λ k. k < g)) s.is low)

-- where none of a degree are found
pub found-free : (K : Complex) (p : ℕ) → found K p ≡ [] → IsFree K p
found-free K p none w W D = kept-free K p (betti K p) each w W W.numbers D
  where
    each : (h : ℕ) → h < betti K p → h < betti K p → kept K p h ≡ []
    each h _ lt = flat-each (kept K p) 0 (betti K p)
        (sym (kept-all K p) ∙ map-none p (filter (is_degenerate K p) (nonzero_words K p)) none)
        h (omega arith) (omega (arith, lt))

pub degenerate-none : (K : Complex) → IsComplex K → first_degenerate K ≡ None → (p : ℕ) → IsFree K p
degenerate-none K ok none p w W D = by (cases_lt p (dimensions K))
  where
    by : (p < dimensions K) ⊎ (dimensions K ≤ p) → w ≡ []
    by (inl lt) = found-free K p
        (flat-each (found K) 0 (dimensions K) (first_of-none (flat_map (found K) (range_with_len 0 (dimensions K))) (sym (first-is K) ∙ none)) p (omega arith) (omega (arith, lt)))
        w W D
    by (inr le) = no-numbers w W
      where
        -- there is no class beyond the dimension
        no-numbers : (w : List ℕ) → IsClass K p w → w ≡ []
        no-numbers [] W = refl
        no-numbers (k ∷ w) W = absurd (omega (arith, le, degree-below K ok p k (W.numbers 0 0 (omega arith))))

-- what the search begins with
first_of-some : (l : List (ℕ × List ℕ)) (x : ℕ × List ℕ) → first_of l ≡ Some x → Begins l x
first_of-some [] x e = absurd (cc)
first_of-some (w ∷ l) x e = let same : w ≡ x = cc in (l, ap (λ z. z ∷ l) same)

map-begins : (q p : ℕ) (w : List ℕ) (l : List (List ℕ)) → Begins (map {B = ℕ × List ℕ} (λ v. (q, v)) l) (p, w) → (q ≡ p) × Begins l w
map-begins q p w [] first = absurd (none first.1)
  where
    none : {ys : List (ℕ × List ℕ)} → [] ≡ (p, w) ∷ ys → ⊥
    none e = cc
map-begins q p w (v ∷ l) first = (ap (λ z. z.0) same, (l, ap (λ z. z.1 ∷ l) same))
  where
    same : ◌≡◌ {A = ℕ × List ℕ} (q, v) (p, w)
    same = same_head first.1
      where
        same_head : {ys zs : List (ℕ × List ℕ)} → (q, v) ∷ ys ≡ (p, w) ∷ zs → ◌≡◌ {A = ℕ × List ℕ} (q, v) (p, w)
        same_head e = cc

pub first-told : (K : Complex) → (p : ℕ) (w : List ℕ) → first_degenerate K ≡ Some (p, w) → IsFirstDegenerate K p w
first-told K p w e = at (flat-begins (found K) 0 (dimensions K) (p, w) (first_of-some (flat_map (found K) (range_with_len 0 (dimensions K))) (p, w) (sym (first-is K) ∙ e)))
  where
    in_degree : ((q : ℕ) → q < p → found K q ≡ []) → Begins (filter (is_degenerate K p) (nonzero_words K p)) w → IsFirstDegenerate K p w
    in_degree less first = with_greatest (flat-begins (kept K p) 0 (betti K p) w (first.0, sym (kept-all K p) ∙ first.1))
      where
        with_greatest : FirstOf (kept K p) 0 (betti K p) w → IsFirstDegenerate K p w
        with_greatest F =
            let listed = filter-begins (is_degenerate K p) (words_to F.at) w F.begins in
            let L = word-listed F.at w listed.0 in
            record {
              class = word-class K p F.at w (omega (arith, F.high)) L;
              degenerate = listed.1;
              front = L.front;
              greatest = F.at;
              is = L.is;
              degrees = λ q lt. found-free K q (less q lt);
              numbers = kept-free K p F.at (λ h lt _. F.before h (omega arith) lt);
            }

    at : FirstOf (found K) 0 (dimensions K) (p, w) → IsFirstDegenerate K p w
    at F =
        let split = map-begins F.at p w (filter (is_degenerate K F.at) (nonzero_words K F.at)) F.begins in
        in_degree (λ q lt. F.before q (omega arith) (omega (arith, split.0, lt)))
        (subst (λ d. Begins (filter (is_degenerate K d) (nonzero_words K d)) w) split.0 split.1)
