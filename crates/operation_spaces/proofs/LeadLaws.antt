-- Leading numbers of a subspace.
--     leads-from, leads-member     they are the greatest numbers of its members
--     clear                        a word is cleared of the leading numbers below b by a member with numbers below b
--     reduced-one                  there is at most one member with a given greatest number and no lesser leading number
--     reduced_to-is                and the search finds it
--     leads-same                   subspaces with the same members have the same leading numbers
use Rattle.std.proofs.Common.{◌≡◌, ℕ, zero, suc, ◌+◌, ◌<◌, ◌≤◌, Bool, true, false, ◌&&◌, ◌||◌, not, ◌⊎◌, inl, inr, List, [], ◌∷◌, ◌++◌, nat_eq, refl, sym, ap, ◌∙◌, subst, arith, eqb-true, ⊎_elim}
use Rattle.std.specs.List.{list_all, list_any, range_with_len}
use Rattle.std.proofs.lemmas.Bool.{true≢false, and_parts, and_from, false_from_ne_true, not-true, cases_Bool, cases_eq}
use Rattle.homology.specs.Parity.{xor}
use Rattle.homology.specs.Sets.{set_of, IsLatest}
use Rattle.homology.specs.Kinds.{is_empty}
use Rattle.cohomology.specs.Searches.{first}
use Rattle.cohomology.proofs.Searching.{Each, first-passes}
use Rattle.cohomology.proofs.Canonicals.{none-below, is_empty-below}
use Rattle.characteristic_classes.specs.Pairings.{words_to}
use Rattle.operation_spaces.specs.Spaces.{IsWord, sum, IsSubspace, leads, is_reduced, reduced_to}
use Rattle.operation_spaces.proofs.Words.{word-below, words-same, empty-word, sum-word, sum-at, sum-assoc, sum-none, word-top, Ending, words_to-any, words_to-each}

-- a member with the greatest number k
pub record Leader (n : ℕ) (S : List ℕ → Bool) (k : ℕ) : Type 0 where
  pub word : List ℕ
  pub is_word : IsWord n word
  pub member : S word ≡ true
  pub latest : IsLatest (set_of word) k

pub leads-from : (n : ℕ) (S : List ℕ → Bool) (w : List ℕ) (k : ℕ) → IsWord n w → S w ≡ true → IsLatest (set_of w) k → leads S k ≡ true
leads-from n S w k W m L = words_to-any n S w k W L m

pub leads-member : (n : ℕ) (S : List ℕ → Bool) (k : ℕ) → k < n → leads S k ≡ true → Leader n S k
leads-member n S k lt e =
    let found : (S (first S (words_to k)) ≡ true) × Ending n k (first S (words_to k)) =
    first-passes S (Ending n k) (words_to k) (words_to-each n k lt) e in
    record { word = first S (words_to k); is_word = found.1.word; member = found.0; latest = found.1.latest }

-- what x is cleared by
pub record Cleared (n b : ℕ) (S : List ℕ → Bool) (x : List ℕ) : Type 0 where
  pub by : List ℕ
  pub word : IsWord n by
  pub member : S by ≡ true
  pub below : (q : ℕ) → set_of by q ≡ true → q < b
  pub none : (q : ℕ) → q < b → leads S q ≡ true → set_of (sum n x by) q ≡ false

module _ (n : ℕ) (S : List ℕ → Bool) (sub : IsSubspace n S) where
  -- one more number, which is not one of x or no leading number
  clear-on : (b : ℕ) (x : List ℕ) → IsWord n x → (leads S b ≡ true → set_of x b ≡ false) → Cleared n b S x → Cleared n (suc b) S x
  clear-on b x X out c = record {
    by = c.by;
    word = c.word;
    member = c.member;
    below = λ q m. omega (arith, c.below q m);
    none = λ q lt e. ⊎_elim
        (λ (same : q ≡ b).
        sum-at n x c.by X c.word q
        ∙ (λ i. xor (set_of x (same i)) (false_from_ne_true (set_of c.by q) (λ m. omega (arith, same, c.below q m)) i))
        ∙ ap (λ z. xor z false) (out (ap (leads S) (sym same) ∙ e)))
        (λ (other : q ≡ b → ⊥). c.none q (omega (arith, other)) e)
        (cases_eq q b);
  }

  -- or it is: a member with this greatest number is added first
  clear-by : (b : ℕ) (x : List ℕ) → IsWord n x → (u : Leader n S b) → set_of x b ≡ true → Cleared n b S (sum n x u.word) → Cleared n (suc b) S x
  clear-by b x X u there c = record {
    by = sum n u.word c.by;
    word = sum-word n u.word c.by;
    member = sub.sums u.word c.by u.is_word c.word u.member c.member;
    below = λ q m. below q (set_of u.word q) refl m;
    none = λ q lt e. ap (λ w. set_of w q) (sym (sum-assoc n x u.word c.by X u.is_word c.word)) ∙ ⊎_elim
        (λ (same : q ≡ b). here q same)
        (λ (other : q ≡ b → ⊥). c.none q (omega (arith, other)) e)
        (cases_eq q b);
  }
    where
      below : (q : ℕ) (a : Bool) → set_of u.word q ≡ a → set_of (sum n u.word c.by) q ≡ true → q < suc b
      below q true e m = omega (arith, u.latest.greatest q e)
      below q false e m = omega (arith, c.below q (sym (ap (λ z. xor z (set_of c.by q)) e) ∙ sym (sum-at n u.word c.by u.is_word c.word q) ∙ m))

      here : (q : ℕ) → q ≡ b → set_of (sum n (sum n x u.word) c.by) q ≡ false
      here q same =
          sum-at n (sum n x u.word) c.by (sum-word n x u.word) c.word q
          ∙ (λ i. xor (sum-at n x u.word X u.is_word q i) (false_from_ne_true (set_of c.by q) (λ m. omega (arith, same, c.below q m)) i))
          ∙ (λ i. xor (xor ((ap (set_of x) same ∙ there) i) ((ap (set_of u.word) same ∙ u.latest.member) i)) false)

  pub clear : (b : ℕ) → b ≤ n → (x : List ℕ) → IsWord n x → Cleared n b S x
  clear zero le x X = record {
    by = [];
    word = empty-word n;
    member = sub.zero;
    below = λ q m. absurd (true≢false (sym m));
    none = λ q lt e. absurd (omega arith);
  }
  clear (suc b) le x X = ⊎_elim
      (λ (there : set_of x b ≡ true). ⊎_elim
      (λ (lead : leads S b ≡ true).
      let u : Leader n S b = leads-member n S b (omega arith) lead in
      clear-by b x X u there (clear b (omega arith) (sum n x u.word) (sum-word n x u.word)))
      (λ (none : leads S b ≡ false). clear-on b x X (λ e. absurd (true≢false (sym e ∙ none))) (clear b (omega arith) x X))
      (cases_Bool (leads S b)))
      (λ (out : set_of x b ≡ false). clear-on b x X (λ e. out) (clear b (omega arith) x X))
      (cases_Bool (set_of x b))

  -- a member with the greatest number k and no lesser leading number
  pub record Reduced (k : ℕ) (w : List ℕ) : Type 0 where
    pub is_word : IsWord n w
    pub member : S w ≡ true
    pub latest : IsLatest (set_of w) k
    pub reduced : (j : ℕ) → j < k → leads S j ≡ true → set_of w j ≡ false

  reduced-exists : (k : ℕ) → k < n → leads S k ≡ true → (w : List ℕ) × Reduced k w
  reduced-exists k lt e = (
    sum n u.word c.by,
    record {
      is_word = sum-word n u.word c.by;
      member = sub.sums u.word c.by u.is_word c.word u.member c.member;
      latest = record {
        member = sum-at n u.word c.by u.is_word c.word k
            ∙ (λ i. xor (u.latest.member i) (false_from_ne_true (set_of c.by k) (λ m. omega (arith, c.below k m)) i));
        greatest = λ q m. by q (set_of u.word q) refl m;
      };
      reduced = λ j below lead. c.none j below lead;
    },
  )
    where
      u : Leader n S k
      u = leads-member n S k lt e

      c : Cleared n k S u.word
      c = clear k (omega arith) u.word u.is_word

      by : (q : ℕ) (a : Bool) → set_of u.word q ≡ a → set_of (sum n u.word c.by) q ≡ true → q ≤ k
      by q true f m = u.latest.greatest q f
      by q false f m = omega (arith, c.below q (sym (ap (λ z. xor z (set_of c.by q)) f) ∙ sym (sum-at n u.word c.by u.is_word c.word q) ∙ m))

  pub reduced-one : (k : ℕ) (v w : List ℕ) → Reduced k v → Reduced k w → v ≡ w
  reduced-one k v w V W = sum-none n v w V.is_word W.is_word (⊎_elim
      (λ (none : sum n v w ≡ []). none)
      (λ (some : (j : ℕ) × IsLatest (set_of (sum n v w)) j). absurd (clash some.0 some.1))
      (word-top n (sum n v w) (sum-word n v w)))
    where
      top : (j : ℕ) (a b : Bool) → set_of v j ≡ a → set_of w j ≡ b → xor a b ≡ true → j ≤ k
      top j true b e f h = V.latest.greatest j e
      top j false true e f h = W.latest.greatest j f
      top j false false e f h = absurd (true≢false (sym h))

      clash : (j : ℕ) → IsLatest (set_of (sum n v w)) j → ⊥
      clash j L =
          let one : xor (set_of v j) (set_of w j) ≡ true = sym (sum-at n v w V.is_word W.is_word j) ∙ L.member in
          let le : j ≤ k = top j (set_of v j) (set_of w j) refl refl one in
          ⊎_elim
          (λ (same : j ≡ k).
          true≢false (sym one ∙ λ i. xor ((ap (set_of v) same ∙ V.latest.member) i) ((ap (set_of w) same ∙ W.latest.member) i)))
          (λ (other : j ≡ k → ⊥).
          let lead : leads S j ≡ true =
          leads-from n S (sum n v w) j (sum-word n v w) (sub.sums v w V.is_word W.is_word V.member W.member) L in
          true≢false (sym one ∙ λ i. xor (V.reduced j (omega (arith, le, other)) lead i) (W.reduced j (omega (arith, le, other)) lead i)))
          (cases_eq j k)

  -- what the search tests is whether a word has, of the leading numbers below k, none
  abbrev has_lead : List ℕ → ℕ → Bool
  has_lead w j = set_of w j && leads S j

  abbrev passes : ℕ → List ℕ → Bool
  passes k w = S w && is_reduced S k w

  passes-reduced : (k : ℕ) (w : List ℕ) → Ending n k w → passes k w ≡ true → Reduced k w
  passes-reduced k w E e =
      let both : (S w ≡ true) × (is_reduced S k w ≡ true) = and_parts (S w) (is_reduced S k w) e in
      record {
        is_word = E.word;
        member = both.0;
        latest = E.latest;
        reduced = λ j lt lead. false_from_ne_true (set_of w j) (λ m.
            true≢false (sym (and_from (set_of w j) (leads S j) m lead) ∙ none-below k (has_lead w) both.1 j lt));
      }

  reduced-passes : (k : ℕ) (w : List ℕ) → Reduced k w → passes k w ≡ true
  reduced-passes k w R = and_from (S w) (is_reduced S k w) R.member (is_empty-below k (has_lead w) (λ j lt.
      false_from_ne_true (has_lead w j) (λ e.
      let both : (set_of w j ≡ true) × (leads S j ≡ true) = and_parts (set_of w j) (leads S j) e in
      true≢false (sym both.0 ∙ R.reduced j lt both.1))))

  pub reduced_to-is : (k : ℕ) → k < n → leads S k ≡ true → Reduced k (reduced_to S k)
  reduced_to-is k lt e =
      let some : (w : List ℕ) × Reduced k w = reduced-exists k lt e in
      let found = first-passes (passes k) (Ending n k) (words_to k) (words_to-each n k lt)
      (words_to-any n (passes k) some.0 k some.1.is_word some.1.latest (reduced-passes k some.0 some.1)) in
      passes-reduced k (reduced_to S k) found.1 found.0

-- the members decide
pub leads-less : (n : ℕ) (S T : List ℕ → Bool) → ((w : List ℕ) → IsWord n w → S w ≡ true → T w ≡ true) → (k : ℕ) → k < n
    → leads S k ≡ true → leads T k ≡ true
leads-less n S T less k lt e =
    let u : Leader n S k = leads-member n S k lt e in
    leads-from n T u.word k u.is_word (less u.word u.is_word u.member) u.latest
