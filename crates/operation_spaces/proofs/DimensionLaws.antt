-- Dimensions, by counts of leading numbers.
--     tally n p                  at how many numbers below n p holds
--     tally-same, tally-le, tally-one     tests that agree; that imply; that agree but at one number
--     dimension-tally            the dimension is the tally of the leading numbers
--     dimension-le               a subspace of a subspace has no greater dimension
--     dimension-more             one more word, which is no member, adds one
use Rattle.std.proofs.Common.{◌≡◌, ℕ, zero, suc, ◌+◌, ◌<◌, ◌≤◌, Bool, true, false, cond, ◌⊎◌, inl, inr, List, [], ◌∷◌, ◌++◌, map, length, refl, sym, ap, ◌∙◌, subst, arith, ⊎_elim}
use Rattle.std.specs.List.{filter, range_with_len}
use Rattle.std.proofs.lemmas.Bool.{true≢false, false_from_ne_true, cases_Bool, cases_eq, cases_lt}
use Rattle.std.proofs.lemmas.List.{length-map}
use Rattle.std.proofs.lemmas.List.Elements.{filter-append}
use Rattle.homology.specs.Sets.{Ids, plus, set_of, IsLatest}
use Rattle.homology.proofs.SetLaws.{same_members, plus-comm}
use Rattle.homology.proofs.LatestMembers.{latest-plus_earlier}
use Rattle.cohomology_operations.proofs.CountLaws.{one}
use Rattle.operation_spaces.specs.Spaces.{IsWord, sum, IsSubspace, leads, reduced_to, dimension}
use Rattle.operation_spaces.proofs.Words.{word-below, sum-word, sum-at, sum-assoc, sum-none, word-top}
use Rattle.operation_spaces.proofs.LeadLaws.{Leader, leads-from, leads-member, leads-less, Cleared, clear}

abbrev pub tally : ℕ → (ℕ → Bool) → ℕ
tally zero p = 0
tally (suc n) p = one (p n) + tally n p

pub tally-same : (n : ℕ) (p q : ℕ → Bool) → ((k : ℕ) → k < n → p k ≡ q k) → tally n p ≡ tally n q
tally-same zero p q e = refl
tally-same (suc n) p q e = λ i. one (e n (omega arith) i) + tally-same n p q (λ k lt. e k (omega arith)) i

pub tally-le : (n : ℕ) (p q : ℕ → Bool) → ((k : ℕ) → k < n → p k ≡ true → q k ≡ true) → tally n p ≤ tally n q
tally-le zero p q e = omega arith
tally-le (suc n) p q e = omega (arith, less (p n) (q n) (λ h. e n (omega arith) h), tally-le n p q (λ k lt. e k (omega arith)))
  where
    less : (a b : Bool) → (a ≡ true → b ≡ true) → one a ≤ one b
    less true b h = subst (λ c. one true ≤ one c) (sym (h refl)) (omega arith)
    less false b h = omega arith

pub tally-one : (n l : ℕ) (p q : ℕ → Bool) → l < n → p l ≡ false → q l ≡ true → ((k : ℕ) → k < n → (k ≡ l → ⊥) → p k ≡ q k)
    → tally n q ≡ tally n p + 1
tally-one zero l p q lt out there e = absurd (omega arith)
tally-one (suc n) l p q lt out there e = ⊎_elim
    (λ (same : l ≡ n).
    let low : one (p n) ≡ 0 = ap one (ap p (sym same) ∙ out) in
    let high : one (q n) ≡ 1 = ap one (ap q (sym same) ∙ there) in
    let rest : tally n p ≡ tally n q = tally-same n p q (λ k below. e k (omega arith) (λ s. omega (arith, below, s, same))) in
    omega (arith, low, high, rest))
    (λ (other : l ≡ n → ⊥).
    let here : one (p n) ≡ one (q n) = ap one (e n (omega arith) (λ s. other (sym s))) in
    let rest : tally n q ≡ tally n p + 1 = tally-one n l p q (omega (arith, other)) out there (λ k below. e k (omega arith)) in
    omega (arith, here, rest))
    (cases_eq l n)

range-more : (b n : ℕ) → range_with_len b (suc n) ≡ range_with_len b n ++ (b + n) ∷ []
range-more b zero = ap (λ k. k ∷ []) (sum_zero b)
  where
    sum_zero : (b : ℕ) → b ≡ b + 0
    sum_zero b = omega arith
range-more b (suc n) = ap (λ r. b ∷ r) (range-more (b + 1) n ∙ ap (λ k. range_with_len (b + 1) n ++ k ∷ []) (later b n))
  where
    later : (b n : ℕ) → b + 1 + n ≡ b + suc n
    later b n = omega arith

length-more : (xs : List ℕ) (b : Bool) (k : ℕ) → length (xs ++ cond b (k ∷ []) []) ≡ one b + length xs
length-more [] true k = refl
length-more [] false k = refl
length-more (x ∷ xs) b k = omega (arith, length-more xs b k)

filter-tally : (p : ℕ → Bool) (n : ℕ) → length (filter p (range_with_len 0 n)) ≡ tally n p
filter-tally p zero = refl
filter-tally p (suc n) =
    ap (λ xs. length (filter p xs)) (range-more 0 n ∙ ap (λ k. range_with_len 0 n ++ k ∷ []) (nothing n))
    ∙ ap length (filter-append p (range_with_len 0 n) (n ∷ []))
    ∙ length-more (filter p (range_with_len 0 n)) (p n) n
    ∙ ap (λ m. one (p n) + m) (filter-tally p n)
  where
    nothing : (n : ℕ) → 0 + n ≡ n
    nothing n = omega arith

pub dimension-tally : (n : ℕ) (S : List ℕ → Bool) → dimension n S ≡ tally n (leads S)
dimension-tally n S = length-map (filter (leads S) (range_with_len 0 n)) (reduced_to S) ∙ filter-tally (leads S) n

pub dimension-le : (n : ℕ) (S T : List ℕ → Bool) → ((w : List ℕ) → IsWord n w → S w ≡ true → T w ≡ true) → dimension n S ≤ dimension n T
dimension-le n S T less =
    omega (arith, dimension-tally n S, dimension-tally n T, tally-le n (leads S) (leads T) (λ k lt e. leads-less n S T less k lt e))

pub dimension-same : (n : ℕ) (S T : List ℕ → Bool) → ((w : List ℕ) → IsWord n w → S w ≡ true → T w ≡ true)
    → ((w : List ℕ) → IsWord n w → T w ≡ true → S w ≡ true) → dimension n S ≡ dimension n T
dimension-same n S T less more = omega (arith, dimension-le n S T less, dimension-le n T S more)

sum-is : (n : ℕ) (v w : List ℕ) → IsWord n v → IsWord n w → set_of (sum n v w) ≡ plus (set_of v) (set_of w)
sum-is n v w V W = same_members (set_of (sum n v w)) (plus (set_of v) (set_of w)) (sum-at n v w V W)

-- T is S with one more word x, and its sums with the members of S
pub record Extends (n : ℕ) (S T : List ℕ → Bool) (x : List ℕ) : Type 0 where
  pub smaller : IsSubspace n S
  pub larger : IsSubspace n T
  pub word : IsWord n x
  pub out : S x ≡ false
  pub less : (w : List ℕ) → IsWord n w → S w ≡ true → T w ≡ true
  pub there : T x ≡ true
  pub more : (w : List ℕ) → IsWord n w → T w ≡ true → (S w ≡ true) ⊎ (S (sum n w x) ≡ true)

module _ (n : ℕ) (S T : List ℕ → Bool) (x : List ℕ) (E : Extends n S T x) where
  -- x, cleared of all leading numbers of S
  cleared : Cleared n n S x
  cleared = clear n S E.smaller n (omega arith) x E.word

  abbrev fresh : List ℕ
  fresh = sum n x cleared.by

  fresh-word : IsWord n fresh
  fresh-word = sum-word n x cleared.by

  -- it is not empty, since x is no member of S
  fresh-top : (l : ℕ) × IsLatest (set_of fresh) l
  fresh-top = ⊎_elim
      (λ (none : fresh ≡ []).
      absurd (true≢false (sym cleared.member ∙ ap S (sym (sum-none n x cleared.by E.word cleared.word none)) ∙ E.out)))
      (λ (some : (l : ℕ) × IsLatest (set_of fresh) l). some)
      (word-top n fresh fresh-word)

  abbrev new : ℕ
  new = fresh-top.0

  new-below : new < n
  new-below = word-below n fresh fresh-word new fresh-top.1.member

  new-out : leads S new ≡ false
  new-out = false_from_ne_true (leads S new) (λ e. true≢false (sym fresh-top.1.member ∙ cleared.none new new-below e))

  new-there : leads T new ≡ true
  new-there = leads-from n T fresh new fresh-word (E.larger.sums x cleared.by E.word cleared.word E.there (E.less cleared.by cleared.word cleared.member))
      fresh-top.1

  -- a member of T that is none of S is one with `fresh`
  with_fresh : (w : List ℕ) → IsWord n w → S (sum n w x) ≡ true → S (sum n w fresh) ≡ true
  with_fresh w W m =
      ap S (sym (sum-assoc n w x cleared.by W E.word cleared.word))
      ∙ E.smaller.sums (sum n w x) cleared.by (sum-word n w x) cleared.word m cleared.member

  -- its greatest number is that of a member of S, or the new one
  other-leads : (k : ℕ) → (k ≡ new → ⊥) → (u : Leader n T k) → S (sum n u.word fresh) ≡ true → leads S k ≡ true
  other-leads k other u m = ⊎_elim
      (λ (lt : k < new). absurd (true≢false (sym (leads-from n S (sum n u.word fresh) new (sum-word n u.word fresh) m (late lt)) ∙ new-out)))
      (λ (le : new ≤ k). leads-from n S (sum n u.word fresh) k (sum-word n u.word fresh) m (early (omega (arith, le, other))))
      (cases_lt k new)
    where
      late : k < new → IsLatest (set_of (sum n u.word fresh)) new
      late lt = subst (λ c. IsLatest c new) (plus-comm (set_of fresh) (set_of u.word) ∙ sym (sum-is n u.word fresh u.is_word fresh-word))
          (latest-plus_earlier (set_of fresh) (set_of u.word) new fresh-top.1 (λ q h. omega (arith, u.latest.greatest q h, lt)))

      early : new < k → IsLatest (set_of (sum n u.word fresh)) k
      early lt = subst (λ c. IsLatest c k) (sym (sum-is n u.word fresh u.is_word fresh-word))
          (latest-plus_earlier (set_of u.word) (set_of fresh) k u.latest (λ q h. omega (arith, fresh-top.1.greatest q h, lt)))

  leads-other : (k : ℕ) → k < n → (k ≡ new → ⊥) → leads S k ≡ leads T k
  leads-other k lt other = either_way (leads S k) (leads T k) (leads-less n S T E.less k lt) back
    where
      either_way : (a b : Bool) → (a ≡ true → b ≡ true) → (b ≡ true → a ≡ true) → a ≡ b
      either_way true b f g = sym (f refl)
      either_way false true f g = g refl
      either_way false false f g = refl

      back : leads T k ≡ true → leads S k ≡ true
      back e =
          let u : Leader n T k = leads-member n T k lt e in
          ⊎_elim
          (λ (m : S u.word ≡ true). leads-from n S u.word k u.is_word m u.latest)
          (λ (m : S (sum n u.word x) ≡ true). other-leads k other u (with_fresh u.word u.is_word m))
          (E.more u.word u.is_word u.member)

  pub dimension-more : dimension n T ≡ dimension n S + 1
  dimension-more =
      dimension-tally n T
      ∙ tally-one n new (leads S) (leads T) new-below new-out new-there leads-other
      ∙ ap (λ d. d + 1) (sym (dimension-tally n S))
