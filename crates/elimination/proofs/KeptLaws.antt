-- What is kept of given rows tells which rows they express.
--     kept-none             nothing is kept of no rows
--     kept-few              there are at most as many rows as entries
--     kept-room             fewer, where something is left of a row
--     kept-full             where there are as many, nothing is left of any row
--     kept-complete         nothing is left of a row that is a sum of given ones
--     kept-more             what is left of a row is kept, with its terms
--     found, never, full, more       so for the reduction of a row
use Rattle.std.proofs.Common.{◌≡◌, ℕ, zero, suc, ◌+◌, ◌<◌, ◌≤◌, Bool, true, false, ◌&&◌, ◌||◌, List, [], ◌∷◌, ◌++◌, length, nat_eq, refl, sym, ap, ◌∙◌, subst, arith, ⊎_elim, get_or, length-append}
use Rattle.std.specs.List.{All, AllPairs}
use Rattle.std.specs.List.Sorted.{IsStrictlyIncreasing}
use Rattle.std.proofs.lemmas.Bool.{true≢false, cases_lt, cases_Bool, or_from}
use Rattle.std.proofs.lemmas.List.{length-map, map-append, get_or-map}
use Rattle.std.proofs.lemmas.List.Elements.{All-weaker, All-map, All-push, All-nil, All-get_or}
use Rattle.std.proofs.lemmas.List.Quantifiers.{all_pairs_push}
use Rattle.homology.specs.Parity.{xor}
use Rattle.homology.specs.Sets.{Ids, empty, single, plus, image, set_of}
use Rattle.homology.proofs.ParityLaws.{xor-self, nat_eq-apart}
use Rattle.homology.proofs.SetLaws.{plus-cancels, image-plus, image-single, image-same}
use Rattle.homology.proofs.ListSumLaws.{sum_over-none}
use Rattle.homology.proofs.ListSetLaws.{set_of-Contains}
use Rattle.elimination.specs.Rows.{entry, entries_at, IsExpression, AreIndependent}
use Rattle.elimination.specs.Reductions.{givens, after, rest_of, IsKept, AreKept, IsReduction}
use Rattle.elimination.specs.declared.reduction.Kept.{Kept}
use Rattle.elimination.proofs.BitLaws.{entry-past, entry-within}
use Rattle.elimination.proofs.Counts.{Fresh, fresh-le, fresh-all}
use Rattle.elimination.proofs.RestLaws.{rest-sum, rest-push, rest-leads, leads, leads-fresh}
use Rattle.elimination.proofs.RowLaws.{expression, independent-none, independent-more, entries-old, entries-new}

pub kept-none : (n : ℕ) → AreKept n []
kept-none n = record {
  each = All-nil (IsKept n [] 0);
  cleared = λ i j d lt below. absurd (omega arith);
  vanish = All-nil (λ k. rest_of (entry k.given) [] ≡ empty);
  independent = independent-none;
}

module _ (n : ℕ) (ks : List Kept) (A : AreKept n ks) where
  abbrev m : ℕ
  m = length ks

  abbrev rows : List (List Bool)
  rows = givens ks

  rows-count : length rows ≡ m
  rows-count = length-map ks (λ k. k.given)

  ones : All (λ l. entry l.reduced l.lead ≡ true) ks
  ones = All-weaker (IsKept n rows m) (λ l. entry l.reduced l.lead ≡ true) (λ l K. K.leads) ks A.each

  leads-below : All (λ x. x < n) (leads ks)
  leads-below = All-map (λ x. x < n) (λ k. k.lead) ks
      (All-weaker (IsKept n rows m) (λ l. l.lead < n) (λ l K. omega (arith, entry-within l.reduced l.lead K.leads, K.reduced)) ks A.each)

  fresh : Fresh (leads ks)
  fresh = leads-fresh ks A.cleared ones

  leads-count : length (leads ks) ≡ m
  leads-count = length-map ks (λ k. k.lead)

  pub kept-few : length ks ≤ n
  kept-few = omega (arith, fresh-le n (leads ks) fresh leads-below, leads-count)

  pub given-few : length (givens ks) ≤ n
  given-few = omega (arith, kept-few, rows-count)

  -- a place with a one of what is left is no leading place
  new-lead : (v : Ids) (x : ℕ) → rest_of v ks x ≡ true → set_of (leads ks) x ≡ false
  new-lead v x one = ⊎_elim
      (λ (there : set_of (leads ks) x ≡ true). absurd (true≢false (sym one ∙ rest-leads ks v A.cleared ones x there)))
      (λ (out : set_of (leads ks) x ≡ false). out)
      (cases_Bool (set_of (leads ks) x))

  pub kept-room : (v : Ids) (r : List Bool) (x : ℕ) → entry r ≡ rest_of v ks → length r ≡ n → entry r x ≡ true → length ks < n
  kept-room v r x is width one =
      let below : All (λ y. y < n) (x ∷ leads ks) = more (omega (arith, entry-within r x one, width)) in
      omega (arith, fresh-le n (x ∷ leads ks) (new-lead v x (ap (λ z. z x) (sym is) ∙ one), fresh) below, leads-count)
    where
      more : x < n → All (λ y. y < n) (x ∷ leads ks)
      more lt zero d h = lt
      more lt (suc k) d h = leads-below k d (omega arith)

  pub kept-full : (v : Ids) (r : List Bool) → entry r ≡ rest_of v ks → length r ≡ n → length ks ≡ n → entry r ≡ empty
  kept-full v r is width all = λ i q. at q i
    where
      at : (q : ℕ) → entry r q ≡ false
      at q = ⊎_elim
          (λ (lt : q < n).
          ap (λ z. z q) is ∙ rest-leads ks v A.cleared ones q (fresh-all n (leads ks) fresh leads-below (omega (arith, all, leads-count)) q lt))
          (λ (le : n ≤ q). entry-past r q (omega (arith, le, width)))
          (cases_lt q n)

  vanish-at : (j : ℕ) → j < length rows → rest_of (entries_at rows j) ks ≡ empty
  vanish-at j lt =
      All-get_or (λ r. rest_of (entry r) ks ≡ empty) rows j [] lt (All-map (λ r. rest_of (entry r) ks ≡ empty) (λ k. k.given) ks A.vanish)

  pub kept-complete : (numbers : List ℕ) (r : List Bool) → IsExpression rows numbers r → rest_of (entry r) ks ≡ empty
  kept-complete numbers r X =
      ap (λ v. rest_of v ks) (sym X.sum)
      ∙ rest-sum ks (entries_at rows) numbers
      ∙ sum_over-none numbers (λ j. rest_of (entries_at rows j) ks)
      (All-weaker (λ k. k < length rows) (λ j. rest_of (entries_at rows j) ks ≡ empty) vanish-at numbers X.within)

  -- ---- one row more
  module _ (k : Kept) (t : Ids) (given : length k.given ≡ n) (reduced : length k.reduced ≡ n) (terms : length k.terms ≡ n)
      (rest : entry k.reduced ≡ rest_of (entry k.given) ks) (one : entry k.reduced k.lead ≡ true)
      (sum : plus (entry k.given) (image n (entries_at rows) t) ≡ entry k.reduced) (few : (j : ℕ) → m ≤ j → t j ≡ false)
      (with_own : (j : ℕ) → entry k.terms j ≡ (nat_eq j m || t j)) where
    abbrev rows' : List (List Bool)
    rows' = rows ++ k.given ∷ []

    room : m < n
    room = kept-room (entry k.given) k.reduced k.lead rest reduced one

    old-same : (s : Ids) → ((j : ℕ) → m ≤ j → s j ≡ false) → image n (entries_at rows) s ≡ image n (entries_at rows') s
    old-same s out = image-same n (entries_at rows) (entries_at rows') s
        (λ j lt there. ⊎_elim
        (λ (here : j < m). sym (entries-old rows k.given j (omega (arith, here, rows-count))))
        (λ (past : m ≤ j). absurd (true≢false (sym there ∙ out j past)))
        (cases_lt j m))

    terms-plus : entry k.terms ≡ plus (single m) t
    terms-plus = λ i j. at j i
      where
        by : (j : ℕ) (b : Bool) → (b ≡ true → t j ≡ false) → (b || t j) ≡ xor b (t j)
        by j true out = sym (ap (xor true) (out refl))
        by j false out = refl

        at : (j : ℕ) → entry k.terms j ≡ xor (nat_eq j m) (t j)
        at j = with_own j ∙ by j (nat_eq j m) (λ e. few j (grind (arith, e)))

    new-sound : entry k.reduced ≡ image n (entries_at rows') (entry k.terms)
    new-sound =
        sym sum
        ∙ (λ i. plus ((sym (entries-new rows k.given) ∙ ap (entries_at rows') rows-count ∙ sym (image-single n (entries_at rows') m room)) i) (old-same t few i))
        ∙ sym (image-plus n (entries_at rows') (single m) t)
        ∙ ap (image n (entries_at rows')) (sym terms-plus)

    new-kept : IsKept n rows' (m + 1) k
    new-kept = record {
      given = given;
      reduced = reduced;
      terms = terms;
      leads = one;
      sound = new-sound;
      few = λ j le. with_own j ∙ or_from (nat_eq j m) (t j) (nat_eq-apart j m (λ e. omega (arith, le, e))) (few j (omega (arith, le)));
    }

    old-kept : (l : Kept) → IsKept n rows m l → IsKept n rows' (m + 1) l
    old-kept l K = record {
      given = K.given;
      reduced = K.reduced;
      terms = K.terms;
      leads = K.leads;
      sound = K.sound ∙ old-same (entry l.terms) K.few;
      few = λ j le. K.few j (omega (arith, le));
    }

    givens-more : givens (ks ++ k ∷ []) ≡ rows'
    givens-more = map-append (λ l. l.given) ks (k ∷ [])

    count-more : length (ks ++ k ∷ []) ≡ m + 1
    count-more = length-append ks (k ∷ [])

    each : All (IsKept n (givens (ks ++ k ∷ [])) (length (ks ++ k ∷ []))) (ks ++ k ∷ [])
    each =
        subst (λ rs. All (IsKept n rs (length (ks ++ k ∷ []))) (ks ++ k ∷ [])) (sym givens-more)
        (subst (λ c. All (IsKept n rows' c) (ks ++ k ∷ [])) (sym count-more)
        (All-push (IsKept n rows' (m + 1)) ks k (All-weaker (IsKept n rows m) (IsKept n rows' (m + 1)) old-kept ks A.each) new-kept))

    cleared : AllPairs (λ l o. entry o.reduced l.lead ≡ false) (ks ++ k ∷ [])
    cleared = all_pairs_push (λ l o. entry o.reduced l.lead ≡ false) ks k A.cleared
        (λ i d lt.
        ap (λ z. z (get_or ks i d).lead) rest
        ∙ rest-leads ks (entry k.given) A.cleared ones (get_or ks i d).lead
        (set_of-Contains (leads ks) (get_or ks i d).lead
        (i, omega (arith, lt, leads-count), get_or-map (λ l. l.lead) ks i d (get_or ks i d).lead lt)))

    own-vanish : rest_of (entry k.given) (ks ++ k ∷ []) ≡ empty
    own-vanish =
        rest-push ks k (entry k.given)
        ∙ ap (λ z. after z k) (sym rest)
        ∙ (λ i q. (ap (λ b. xor (entry k.reduced q) (b && entry k.reduced q)) one ∙ xor-self (entry k.reduced q)) i)

    old-vanish : (l : Kept) → rest_of (entry l.given) ks ≡ empty → rest_of (entry l.given) (ks ++ k ∷ []) ≡ empty
    old-vanish l none = rest-push ks k (entry l.given) ∙ ap (λ z. after z k) none

    no_expression : (numbers : List ℕ) → IsExpression rows numbers k.given → ⊥
    no_expression numbers X = true≢false (sym one ∙ ap (λ z. z k.lead) (rest ∙ kept-complete numbers k.given X))

    pub kept-more : AreKept n (ks ++ k ∷ [])
    kept-more = record {
      each = each;
      cleared = cleared;
      vanish =
          All-push (λ l. rest_of (entry l.given) (ks ++ k ∷ []) ≡ empty) ks k
          (All-weaker (λ l. rest_of (entry l.given) ks ≡ empty) (λ l. rest_of (entry l.given) (ks ++ k ∷ []) ≡ empty) old-vanish ks A.vanish) own-vanish;
      independent = subst AreIndependent (sym givens-more) (independent-more rows k.given A.independent no_expression);
    }

module _ (n : ℕ) (ks : List Kept) (A : AreKept n ks) (v r t : List Bool) (width : length v ≡ n) (R : IsReduction ks v r t) where
  -- where nothing is left, the row is the sum of the given rows that were added
  pub found : (numbers : List ℕ) → entry r ≡ empty → set_of numbers ≡ entry t → IsStrictlyIncreasing numbers → All (λ q. q < length t) numbers
      → IsExpression (givens ks) numbers v
  found numbers none set up below =
      expression n (length ks) (givens ks) (entry t) numbers v (length-map ks (λ k. k.given)) R.few
      (plus-cancels (entry v) (image (length v) (entries_at (givens ks)) (entry t)) (R.sum ∙ none) ∙ ap (λ m. image m (entries_at (givens ks)) (entry t)) width)
      set up (λ k d lt. omega (arith, below k d lt, R.terms_width, width))

  pub never : (x : ℕ) → entry r x ≡ true → (numbers : List ℕ) → IsExpression (givens ks) numbers v → ⊥
  never x one numbers X = true≢false (sym one ∙ ap (λ z. z x) (R.rest ∙ kept-complete n ks A numbers v X))

  pub full : length ks ≡ n → entry r ≡ empty
  full all = kept-full n ks A (entry v) r R.rest (R.rest_width ∙ width) all

  pub space : (x : ℕ) → entry r x ≡ true → length ks < n
  space x one = kept-room n ks A (entry v) r x R.rest (R.rest_width ∙ width) one

  pub more : (t' : List Bool) (x : ℕ) → entry r x ≡ true → length t' ≡ length t → ((j : ℕ) → entry t' j ≡ (nat_eq j (length ks) || entry t j))
      → AreKept n (ks ++ record { given = v; reduced = r; terms = t'; lead = x } ∷ [])
  more t' x one same own =
      kept-more n ks A (record { given = v; reduced = r; terms = t'; lead = x }) (entry t) width (R.rest_width ∙ width) (same ∙ R.terms_width ∙ width)
      R.rest one (ap (λ m. plus (entry v) (image m (entries_at (givens ks)) (entry t))) (sym width) ∙ R.sum) R.few own
