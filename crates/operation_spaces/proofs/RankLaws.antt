-- Kernels and images of linear maps.
--     image-finds, image-has            the image, by words
--     kernel-subspace, image-subspace   both are subspaces
--     rank                              their dimensions add up
-- The number k leads in the kernel exactly where the image of the word k is among the images of words of lesser numbers; else it adds one to
-- the dimension of these.
use Rattle.std.proofs.Common.{◌≡◌, ℕ, zero, suc, ◌+◌, ◌<◌, ◌≤◌, Bool, true, false, cond, ◌||◌, ◌⊎◌, inl, inr, List, [], ◌∷◌, length, nat_eq, refl, sym, ap, ◌∙◌, subst, arith, eqb-true, ⊎_elim}
use Rattle.std.specs.List.{All, Contains, range_with_len}
use Rattle.std.proofs.lemmas.Bool.{true≢false, false_from_ne_true, cases_Bool, cases_eq, cases_lt}
use Rattle.std.proofs.lemmas.List.Folds.{list_any_at}
use Rattle.homology.specs.Parity.{xor}
use Rattle.homology.specs.Sets.{set_of, IsLatest}
use Rattle.homology.specs.Simplices.{same_list}
use Rattle.homology.specs.Kinds.{sublists}
use Rattle.homology.proofs.ParityLaws.{nat_eq-self, nat_eq-apart}
use Rattle.homology.proofs.BoundaryLaws.{same_list-true, same_list-same}
use Rattle.homology.proofs.KindLaws.{set_of-range}
use Rattle.homology.proofs.ListSetLaws.{ascending-Rises, set_of-All}
use Rattle.cohomology.specs.Searches.{first}
use Rattle.cohomology.proofs.Searching.{Sublist, sublists-each, rises-range, first-passes}
use Rattle.cohomology_operations.proofs.CountLaws.{one}
use Rattle.characteristic_classes.proofs.SearchLaws.{sublist-listed}
use Rattle.operation_spaces.specs.Spaces.{IsWord, sum, IsSubspace, leads, dimension, IsLinear, kernel_of, image_of}
use Rattle.operation_spaces.proofs.Words.{word-below, words-same, empty-word, sum-word, sum-at, sum-self, sum-none, sum-empty, sum-twice}
use Rattle.operation_spaces.proofs.LeadLaws.{Leader, leads-from, leads-member}
use Rattle.operation_spaces.proofs.DimensionLaws.{tally, dimension-tally, dimension-same, Extends, dimension-more}

pub word-wider : (j n : ℕ) (w : List ℕ) → j ≤ n → IsWord j w → IsWord n w
word-wider j n w le W = record {
  ascending = W.ascending;
  numbers = set_of-All (λ k. k < n) w (λ k m. omega (arith, le, word-below j w W k m));
}

word-narrow : (j n : ℕ) (w : List ℕ) → IsWord n w → ((k : ℕ) → set_of w k ≡ true → k < j) → IsWord j w
word-narrow j n w W below = record { ascending = W.ascending; numbers = set_of-All (λ k. k < j) w below }

-- the word of one number
single-word : (n k : ℕ) → k < n → IsWord n (k ∷ [])
single-word n k lt = record {
  ascending = λ i h. absurd (omega (arith, h));
  numbers = set_of-All (λ q. q < n) (k ∷ []) (λ q m. omega (arith, lt, eqb-true q k (only (nat_eq q k) m)));
}
  where
    only : (b : Bool) → (b || false) ≡ true → b ≡ true
    only true e = refl
    only false e = e

single-at : (k q : ℕ) → set_of (k ∷ []) q ≡ nat_eq q k
single-at k q = only (nat_eq q k)
  where
    only : (b : Bool) → (b || false) ≡ b
    only true = refl
    only false = refl

pub image-finds : (j : ℕ) (f : List ℕ → List ℕ) (w : List ℕ) → image_of j f w ≡ true → (v : List ℕ) × IsWord j v × (f v ≡ w)
image-finds j f w e =
    let xs : List ℕ = range_with_len 0 j in
    let found = first-passes (λ v. same_list (f v) w) (Sublist 0 xs) (sublists xs) (sublists-each 0 xs (rises-range 0 j)) e in
    let v : List ℕ = first (λ v. same_list (f v) w) (sublists xs) in (
      v,
      record {
        ascending = ascending-Rises 0 v found.1.rises;
        numbers = set_of-All (λ k. k < j) v (λ k m. omega (arith, (set_of-range 0 j k (found.1.within k m)).1));
      },
      same_list-true (f v) w found.0,
    )

pub image-has : (j : ℕ) (f : List ℕ → List ℕ) (v w : List ℕ) → IsWord j v → f v ≡ w → image_of j f w ≡ true
image-has j f v w V e =
    let c : Contains (sublists (range_with_len 0 j)) v = sublist-listed j v V.ascending V.numbers in
    list_any_at (λ u. same_list (f u) w) (sublists (range_with_len 0 j)) c.0 v c.1
    (ap (λ u. same_list (f u) w) c.2 ∙ same_list-same (f v) w e)

module _ (n m : ℕ) (f : List ℕ → List ℕ) (L : IsLinear n m f) where
  linear-empty : f [] ≡ []
  linear-empty =
      ap f (sym (sum-self n [] (empty-word n)))
      ∙ L.sums [] [] (empty-word n) (empty-word n)
      ∙ sum-self m (f []) (L.words [] (empty-word n))

  pub kernel-subspace : IsSubspace n (kernel_of f)
  kernel-subspace = record {
    zero = same_list-same (f []) [] linear-empty;
    sums = λ v w V W a b. same_list-same (f (sum n v w)) []
        (L.sums v w V W
        ∙ (λ i. sum m (same_list-true (f v) [] a i) (same_list-true (f w) [] b i))
        ∙ sum-self m [] (empty-word m));
  }

  abbrev U : ℕ → List ℕ → Bool
  U j = image_of j f

  -- the sum of two words of numbers below j is one of them
  sum-below : (j : ℕ) → j ≤ n → (v w : List ℕ) → IsWord j v → IsWord j w → IsWord j (sum n v w)
  sum-below j le v w V W = word-narrow j n (sum n v w) (sum-word n v w) (λ k e.
      at k (set_of v k) (set_of w k) refl refl (sym (sum-at n v w (word-wider j n v le V) (word-wider j n w le W) k) ∙ e))
    where
      at : (k : ℕ) (a b : Bool) → set_of v k ≡ a → set_of w k ≡ b → xor (set_of v k) (set_of w k) ≡ true → k < j
      at k true b e g h = word-below j v V k e
      at k false true e g h = word-below j w W k g
      at k false false e g h = absurd (true≢false (sym h ∙ λ i. xor (e i) (g i)))

  image-below : (j : ℕ) → j ≤ n → IsSubspace m (U j)
  image-below j le = record {
    zero = image-has j f [] [] (empty-word j) linear-empty;
    sums = λ v w V W a b.
        let x = image-finds j f v a in
        let y = image-finds j f w b in
        image-has j f (sum n x.0 y.0) (sum m v w) (sum-below j le x.0 y.0 x.1 y.1)
        (L.sums x.0 y.0 (word-wider j n x.0 le x.1) (word-wider j n y.0 le y.1) ∙ λ i. sum m (x.2 i) (y.2 i));
  }

  pub image-subspace : IsSubspace m (image_of n f)
  image-subspace = image-below n (omega arith)

  -- one more number j
  module _ (j : ℕ) (lt : j < n) where
    abbrev unit : List ℕ
    unit = j ∷ []

    unit-word : IsWord n unit
    unit-word = single-word n j lt

    unit-image : IsWord m (f unit)
    unit-image = L.words unit unit-word

    -- a word with j, without it
    rest-at : (v : List ℕ) → IsWord n v → (k : ℕ) → set_of (sum n v unit) k ≡ xor (set_of v k) (nat_eq k j)
    rest-at v V k = sum-at n v unit V unit-word k ∙ ap (xor (set_of v k)) (single-at j k)

    rest-word : (v : List ℕ) → IsWord (suc j) v → set_of v j ≡ true → IsWord j (sum n v unit)
    rest-word v V there = word-narrow j n (sum n v unit) (sum-word n v unit) (λ k e. ⊎_elim
        (λ (same : k ≡ j).
        absurd (true≢false (sym e ∙ rest-at v wide k ∙ λ i. xor ((ap (set_of v) same ∙ there) i) ((ap (λ q. nat_eq q j) same ∙ nat_eq-self j) i))))
        (λ (other : k ≡ j → ⊥).
        let member : set_of v k ≡ true = keep (set_of v k) (sym (rest-at v wide k ∙ ap (xor (set_of v k)) (nat_eq-apart k j other)) ∙ e) in
        omega (arith, word-below (suc j) v V k member, other))
        (cases_eq k j))
      where
        wide : IsWord n v
        wide = word-wider (suc j) n v (omega arith) V

        keep : (b : Bool) → xor b false ≡ true → b ≡ true
        keep true e = refl
        keep false e = e

    less-word : (v : List ℕ) → IsWord (suc j) v → set_of v j ≡ false → IsWord j v
    less-word v V out = word-narrow j (suc j) v V (λ k e.
        omega (arith, word-below (suc j) v V k e, λ (same : k ≡ j). true≢false (sym e ∙ ap (set_of v) same ∙ out)))

    -- an image is one of lesser numbers, or becomes one with that of j
    image-cases : (w : List ℕ) → IsWord m w → U (suc j) w ≡ true → (U j w ≡ true) ⊎ (U j (sum m w (f unit)) ≡ true)
    image-cases w W e =
        let x = image-finds (suc j) f w e in
        ⊎_elim
        (λ (there : set_of x.0 j ≡ true).
        inr (image-has j f (sum n x.0 unit) (sum m w (f unit)) (rest-word x.0 x.1 there)
        (L.sums x.0 unit (word-wider (suc j) n x.0 (omega arith) x.1) unit-word ∙ ap (λ z. sum m z (f unit)) x.2)))
        (λ (out : set_of x.0 j ≡ false). inl (image-has j f x.0 w (less-word x.0 x.1 out) x.2))
        (cases_Bool (set_of x.0 j))

    image-wider : (w : List ℕ) → IsWord m w → U j w ≡ true → U (suc j) w ≡ true
    image-wider w W e = let x = image-finds j f w e in image-has (suc j) f x.0 w (word-wider j (suc j) x.0 (omega arith) x.1) x.2

    unit-there : U (suc j) (f unit) ≡ true
    unit-there = image-has (suc j) f unit (f unit) (single-word (suc j) j (omega arith)) refl

    -- where j leads in the kernel, its image is among those of lesser numbers
    leads-spanned : leads (kernel_of f) j ≡ true → U j (f unit) ≡ true
    leads-spanned e =
        let u : Leader n (kernel_of f) j = leads-member n (kernel_of f) j lt e in
        let narrow : IsWord (suc j) u.word = word-narrow (suc j) n u.word u.is_word (λ k m. omega (arith, u.latest.greatest k m)) in
        image-has j f (sum n u.word unit) (f unit) (rest-word u.word narrow u.latest.member)
        (L.sums u.word unit u.is_word unit-word
        ∙ ap (λ z. sum m z (f unit)) (same_list-true (f u.word) [] u.member)
        ∙ empty-sum)
      where
        empty-sum : sum m [] (f unit) ≡ f unit
        empty-sum = words-same m (sum m [] (f unit)) (f unit) (sum-word m [] (f unit)) unit-image
            (λ k _. sum-at m [] (f unit) (empty-word m) unit-image k)

    -- and where it is among them, j leads
    spanned-leads : U j (f unit) ≡ true → leads (kernel_of f) j ≡ true
    spanned-leads e =
        let x = image-finds j f (f unit) e in
        let wide : IsWord n x.0 = word-wider j n x.0 (omega arith) x.1 in
        leads-from n (kernel_of f) (sum n x.0 unit) j (sum-word n x.0 unit)
        (same_list-same (f (sum n x.0 unit)) []
        (L.sums x.0 unit wide unit-word ∙ ap (λ z. sum m z (f unit)) x.2 ∙ sum-self m (f unit) unit-image))
        (latest x.0 x.1 wide)
      where
        latest : (v : List ℕ) → IsWord j v → IsWord n v → IsLatest (set_of (sum n v unit)) j
        latest v V wide = record {
          member = rest-at v wide j
              ∙ λ i. xor (false_from_ne_true (set_of v j) (λ h. omega (arith, word-below j v V j h)) i) (nat_eq-self j i);
          greatest = λ q h. ⊎_elim
              (λ (gt : j < q). absurd (true≢false (sym h
              ∙ rest-at v wide q
              ∙ λ i. xor (false_from_ne_true (set_of v q) (λ g. omega (arith, gt, word-below j v V q g)) i) (nat_eq-apart q j (λ s. omega (arith, gt, s)) i))))
              (λ (le : q ≤ j). le)
              (cases_lt j q);
        }

    -- the dimension of the images of lesser numbers grows exactly where j does not lead
    grows : dimension m (U (suc j)) + one (leads (kernel_of f) j) ≡ dimension m (U j) + 1
    grows = ⊎_elim
        (λ (lead : leads (kernel_of f) j ≡ true).
        let same : dimension m (U j) ≡ dimension m (U (suc j)) = dimension-same m (U j) (U (suc j)) image-wider (λ w W e. ⊎_elim
        (λ (there : U j w ≡ true). there)
        (λ (with : U j (sum m w (f unit)) ≡ true).
        ap (U j) (sym (turned w W))
        ∙ (image-below j (omega arith)).sums (f unit) (sum m w (f unit)) unit-image (sum-word m w (f unit)) (leads-spanned lead) with)
        (image-cases w W e)) in
        omega (arith, same, ap one lead))
        (λ (none : leads (kernel_of f) j ≡ false).
        omega (
          arith,
          ap one none,
          dimension-more m (U j) (U (suc j)) (f unit) (record {
            smaller = image-below j (omega arith);
            larger = image-below (suc j) (omega arith);
            word = unit-image;
            out = false_from_ne_true (U j (f unit)) (λ e. true≢false (sym (spanned-leads e) ∙ none));
            less = image-wider;
            there = unit-there;
            more = image-cases;
          }),
        ))
        (cases_Bool (leads (kernel_of f) j))
      where
        turned : (w : List ℕ) → IsWord m w → sum m (f unit) (sum m w (f unit)) ≡ w
        turned w W = words-same m (sum m (f unit) (sum m w (f unit))) w (sum-word m (f unit) (sum m w (f unit))) W (λ k _.
            sum-at m (f unit) (sum m w (f unit)) unit-image (sum-word m w (f unit)) k
            ∙ ap (xor (set_of (f unit) k)) (sum-at m w (f unit) W unit-image k)
            ∙ back (set_of (f unit) k) (set_of w k))
          where
            back : (a b : Bool) → xor a (xor b a) ≡ b
            back true true = refl
            back true false = refl
            back false true = refl
            back false false = refl

  nothing : dimension m (U 0) ≡ 0
  nothing = dimension-tally m (U 0) ∙ none m (omega arith)
    where
      no_lead : (k : ℕ) → k < m → leads (U 0) k ≡ false
      no_lead k lt = false_from_ne_true (leads (U 0) k) (λ e.
          let u : Leader m (U 0) k = leads-member m (U 0) k lt e in
          let x = image-finds 0 f u.word u.member in
          let zero : x.0 ≡ [] = words-same 0 x.0 [] x.1 (empty-word 0) (λ q h. absurd (omega arith)) in
          true≢false (sym u.latest.member ∙ ap (λ w. set_of w k) (sym x.2 ∙ ap f zero ∙ linear-empty)))

      none : (j : ℕ) → j ≤ m → tally j (leads (U 0)) ≡ 0
      none zero le = refl
      none (suc j) le = omega (arith, ap one (no_lead j (omega arith)), none j (omega arith))

  rank-below : (j : ℕ) → j ≤ n → tally j (leads (kernel_of f)) + dimension m (U j) ≡ j
  rank-below zero le = omega (arith, nothing)
  rank-below (suc j) le = omega (arith, grows j (omega arith), rank-below j (omega arith))

  pub rank : dimension n (kernel_of f) + dimension m (image_of n f) ≡ n
  rank = ap (λ d. d + dimension m (image_of n f)) (dimension-tally n (kernel_of f)) ∙ rank-below n (omega arith)
