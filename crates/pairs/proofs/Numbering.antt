-- The members of an ascending list, by their numbers; sets of them, by words of numbers.
--     at k                 the member with the number k
--     at-member, number    members have numbers, and numbers members
--     named w              the members with the numbers of w
--     named-at, named-member     it has a member exactly where w has its number
--     word_of S            the word of the numbers of the members in S
--     word_of-ascending, word_of-numbers, word_of-at     it is one
--     words-one            words with the same numbers are one
use Rattle.std.proofs.Common.{map, ◌≡◌, ℕ, ◌+◌, ◌<◌, true, false, ◌||◌, ◌&&◌, ◌⊎◌, inl, inr, List, [], ◌∷◌, length, nat_eq, refl, sym, ap, ◌∙◌, subst, arith, eqb-true, eq-eqb}
use Rattle.std.specs.Prelude.{slice_index_or}
use Rattle.std.specs.List.{All, Contains, filter, range_with_len}
use Rattle.std.specs.List.Sorted.{IsStrictlyIncreasing}
use Rattle.std.proofs.lemmas.Bool.{true≢false, cases_Bool, and_parts, or_cases, cases_order}
use Rattle.std.proofs.lemmas.List.Folds.{list_any_at}
use Rattle.std.proofs.lemmas.Grind.{get_or_default_zero}
use Rattle.std.proofs.lemmas.List.Elements.{All-tail}
use Rattle.homology.specs.Sets.{Ids, set_of}
use Rattle.homology.proofs.ParityLaws.{and-true, nat_eq-self, nat_eq-apart}
use Rattle.homology.proofs.SetLaws.{same_members}
use Rattle.homology.proofs.KindLaws.{set_of-filter, set_of-range, set_of-range_holds}
use Rattle.homology.proofs.ListSetLaws.{ascending-Rises, ascending-le, Contains-set_of, set_of-All, same_ascending}
use Rattle.homology.proofs.ListSumLaws.{All-first}
use Rattle.cohomology.proofs.Searching.{filter-rises, rises-range}

module _ (E : List ℕ) (up : IsStrictlyIncreasing E) (m : ℕ) (len : length E ≡ m) where
  abbrev pub at : ℕ → ℕ
  at k = slice_index_or E k 0

  pub at-member : (k : ℕ) → k < m → set_of E (at k) ≡ true
  at-member k lt = list_any_at (λ t. nat_eq (at k) t) E k 0 (omega (arith, lt, len)) (nat_eq-self (at k))

  pub record Number (h : ℕ) : Type 0 where
    pub number : ℕ
    pub below : number < m
    pub is : at number ≡ h

  pub number : (h : ℕ) → set_of E h ≡ true → Number h
  number h e = by (Contains-set_of E h e)
    where
      by : Contains E h → Number h
      by c = record { number = c.0; below = omega (arith, c.1, len); is = sym (get_or_default_zero E c.0 h c.1) ∙ c.2 }

  at-before : (j k : ℕ) → j < k → k < m → at j < at k
  at-before j k before lt =
      omega (arith, up j (omega (arith, before, lt, len)), ascending-le E up (j + 1) k (omega (arith, before)) (omega (arith, lt, len)))

  at-one : (j k : ℕ) → j < m → k < m → nat_eq (at j) (at k) ≡ nat_eq j k
  at-one j k lj lk = by (cases_order j k)
    where
      by : (j ≡ k) ⊎ ((j < k) ⊎ (k < j)) → nat_eq (at j) (at k) ≡ nat_eq j k
      by (inl same) = eq-eqb _ _ (ap at same) ∙ sym (eq-eqb j k same)
      by (inr (inl before)) = nat_eq-apart _ _ (λ e. omega (arith, e, at-before j k before lk)) ∙ sym (nat_eq-apart j k (λ e. omega (arith, e, before)))
      by (inr (inr after)) = nat_eq-apart _ _ (λ e. omega (arith, e, at-before k j after lj)) ∙ sym (nat_eq-apart j k (λ e. omega (arith, e, after)))

  abbrev pub named : List ℕ → Ids
  named w = set_of (map at w)

  pub named-at : (w : List ℕ) → All (λ k. k < m) w → (k : ℕ) → k < m → named w (at k) ≡ set_of w k
  named-at [] numbers k lt = refl
  named-at (j ∷ w) numbers k lt = λ i.
      at-one k j lt (All-first (λ k. k < m) j w numbers) i || named-at w (All-tail (λ k. k < m) j w numbers) k lt i

  pub named-member : (w : List ℕ) → All (λ k. k < m) w → (t : ℕ) → named w t ≡ true → set_of E t ≡ true
  named-member [] numbers t e = absurd (true≢false (sym e))
  named-member (j ∷ w) numbers t e =
      by (named-member w (All-tail (λ k. k < m) j w numbers) t) (or_cases (nat_eq t (at j)) (named w t) e)
    where
      by : (named w t ≡ true → set_of E t ≡ true) → (nat_eq t (at j) ≡ true) ⊎ (named w t ≡ true) → set_of E t ≡ true
      by rest (inl here) = ap (set_of E) (eqb-true t (at j) here) ∙ at-member j (All-first (λ k. k < m) j w numbers)
      by rest (inr there) = rest there

  abbrev pub word_of : Ids → List ℕ
  word_of S = filter (λ k. S (at k)) (range_with_len 0 m)

  pub word_of-ascending : (S : Ids) → IsStrictlyIncreasing (word_of S)
  word_of-ascending S = ascending-Rises 0 (word_of S) (filter-rises (λ k. S (at k)) (range_with_len 0 m) (rises-range 0 m))

  pub word_of-numbers : (S : Ids) → All (λ k. k < m) (word_of S)
  word_of-numbers S = set_of-All (λ k. k < m) (word_of S) (λ k e.
      let both = and_parts (S (at k)) (set_of (range_with_len 0 m) k) (sym (set_of-filter (λ k. S (at k)) (range_with_len 0 m) k) ∙ e) in
      omega (arith, (set_of-range 0 m k both.1).1))

  pub word_of-at : (S : Ids) (k : ℕ) → k < m → set_of (word_of S) k ≡ S (at k)
  word_of-at S k lt =
      set_of-filter (λ k. S (at k)) (range_with_len 0 m) k
      ∙ ap (λ b. S (at k) && b) (set_of-range_holds 0 m k (omega arith) (omega (arith, lt)))
      ∙ and-true (S (at k))

  word-below : (u : List ℕ) → All (λ k. k < m) u → (k : ℕ) → set_of u k ≡ true → k < m
  word-below u numbers k e = let c = Contains-set_of u k e in subst (λ x. x < m) c.2 (numbers c.0 k c.1)

  pub words-one : (w v : List ℕ) → IsStrictlyIncreasing w → IsStrictlyIncreasing v → All (λ k. k < m) w → All (λ k. k < m) v
      → ((k : ℕ) → k < m → set_of w k ≡ set_of v k) → w ≡ v
  words-one w v W V nw nv same = same_ascending w v W V (same_members _ _ (λ k. by k (cases_Bool (set_of w k)) (cases_Bool (set_of v k))))
    where
      by : (k : ℕ) → (set_of w k ≡ true) ⊎ (set_of w k ≡ false) → (set_of v k ≡ true) ⊎ (set_of v k ≡ false) → set_of w k ≡ set_of v k
      by k (inl e) _ = same k (word-below w nw k e)
      by k (inr _) (inl e) = same k (word-below v nv k e)
      by k (inr e) (inr f) = e ∙ sym f
