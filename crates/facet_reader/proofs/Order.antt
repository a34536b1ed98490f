-- Numbers in ascending order, and numbers of which none stands twice.
--     in_order_rises        distinct numbers in order rise
--     has_in_order          the same numbers stand there
--     distinct_times, no_repeat_distinct     the two ways to say that no number stands twice
--     only_order            a rising list with the same numbers is the list in order
use Rattle.std.proofs.Common.{◌≡◌, ℕ, suc, zero, ◌+◌, ◌<◌, ◌≤◌, Bool, true, false, cond, not, ◌&&◌, ◌||◌, ◌⊎◌, ◌==◌, List, [], ◌∷◌, length, refl, sym, ◌∙◌, ap, arith, leb, inl, inr, add-one, subst}
use Rattle.std.specs.List.Sorted.{IsStrictlyIncreasing, IsPermutation}
use Rattle.std.proofs.lemmas.Bool.Decides.{nat_tests}
use Rattle.std.proofs.lemmas.List.Sorted.{list_any-IsPermutation}
use Rattle.std.proofs.lemmas.List.Sums.{sum_by-cons}
use Rattle.simplex_order.specs.Members.{has}
use Rattle.simplex_order.specs.Numbers.{times, HasNoRepeat}
use Rattle.simplex_order.proofs.Ascending.{same_members, rising_tail}
use Rattle.language.specs.Arguments.{put, in_order, is_distinct, most}

-- a number below the first of a rising list goes in front of it
rising_cons : (x y : ℕ) (xs : List ℕ) → x < y → IsStrictlyIncreasing (y ∷ xs) → IsStrictlyIncreasing (x ∷ y ∷ xs)
rising_cons x y xs l h zero k = l
rising_cons x y xs l h (suc k) m =
    let m' : k + 1 < length (y ∷ xs) = omega arith in
    let e = h k m' in
    rw add-one (rw add-one at e)

-- a test that passes or fails
pub decided : (b : Bool) → (b ≡ true) ⊎ (b ≡ false)
decided true = inl refl
decided false = inr refl

put_yes : (v w : ℕ) (ws : List ℕ) → leb v w ≡ true → put v (w ∷ ws) ≡ v ∷ w ∷ ws
put_yes v w ws e = ap (λ b. cond b (v ∷ w ∷ ws) (w ∷ put v ws)) e

put_no : (v w : ℕ) (ws : List ℕ) → leb v w ≡ false → put v (w ∷ ws) ≡ w ∷ put v ws
put_no v w ws e = ap (λ b. cond b (v ∷ w ∷ ws) (w ∷ put v ws)) e

-- a new number put behind a smaller one leaves the list rising
rising_put : (x v : ℕ) (ws : List ℕ) → x < v → has ws v ≡ false → IsStrictlyIncreasing (x ∷ ws) → IsStrictlyIncreasing (x ∷ put v ws)
rising_put x v [] l n h = rising_cons x v [] l (λ k m. absurd (omega arith))
rising_put x v (w ∷ ws) l n h =
    elim (decided (leb v w)) [
      | inl e ↦ (
          let less : v < w = grind (arith, nat_tests) in
          rw (put_yes v w ws e) (rising_cons x v (w ∷ ws) l (rising_cons v w ws less (rising_tail x (w ∷ ws) h)))
          )
      | inr e ↦ (
          let more : w < v = grind (arith, nat_tests) in
          let apart : has ws v ≡ false = grind (arith, nat_tests) in
          let first : x < w = h 0 (omega arith) in
          rw (put_no v w ws e) (rising_cons x w (put v ws) first (rising_put w v ws more apart (rising_tail x (w ∷ ws) h)))
          )
    ]

put_rises : (v : ℕ) (ws : List ℕ) → has ws v ≡ false → IsStrictlyIncreasing ws → IsStrictlyIncreasing (put v ws)
put_rises v [] n h = λ k m. absurd (omega arith)
put_rises v (w ∷ ws) n h =
    elim (decided (leb v w)) [
      | inl e ↦ (
          let less : v < w = grind (arith, nat_tests) in
          rw (put_yes v w ws e) (rising_cons v w ws less h)
          )
      | inr e ↦ (
          let more : w < v = grind (arith, nat_tests) in
          let apart : has ws v ≡ false = grind (arith, nat_tests) in
          rw (put_no v w ws e) (rising_put w v ws more apart h)
          )
    ]

swap_or : (a b c : Bool) → (a || (b || c)) ≡ (b || (a || c))
swap_or true true c = refl
swap_or true false c = refl
swap_or false b c = refl

has_put : (v : ℕ) (ws : List ℕ) (x : ℕ) → has (put v ws) x ≡ has (v ∷ ws) x
has_put v [] x = refl
has_put v (w ∷ ws) x =
    elim (decided (leb v w)) [
      | inl e ↦ ap (λ s. has s x) (put_yes v w ws e)
      | inr e ↦ ap (λ s. has s x) (put_no v w ws e) ∙ ap (λ b. (w == x) || b) (has_put v ws x) ∙ swap_or (w == x) (v == x) (has ws x)
    ]

pub has_in_order : (vs : List ℕ) (x : ℕ) → has (in_order vs) x ≡ has vs x
has_in_order [] x = refl
has_in_order (v ∷ vs) x = has_put v (in_order vs) x ∙ ap (λ b. (v == x) || b) (has_in_order vs x)

pub in_order_rises : (vs : List ℕ) → is_distinct vs ≡ true → IsStrictlyIncreasing (in_order vs)
in_order_rises [] h = λ k m. absurd (omega arith)
in_order_rises (v ∷ vs) h =
    let apart : has vs v ≡ false = grind (arith, nat_tests) in
    let rest : is_distinct vs ≡ true = grind (arith, nat_tests) in
    put_rises v (in_order vs) (has_in_order vs v ∙ apart) (in_order_rises vs rest)

-- how often a number stands in a list that has it not, and the other way round
times_none : (v : ℕ) (xs : List ℕ) → has xs v ≡ false → times v xs ≡ 0
times_none v [] h = refl
times_none v (x ∷ xs) h =
    let first : (x == v) ≡ false = grind (arith, nat_tests) in
    let rest : has xs v ≡ false = grind (arith, nat_tests) in
    omega (arith, sum_by-cons (λ y. cond (y == v) 1 0) x xs, ap {B = ℕ} (λ b. cond b 1 0) first, times_none v xs rest)

none_times : (v : ℕ) (xs : List ℕ) → times v xs ≡ 0 → has xs v ≡ false
none_times v [] h = refl
none_times v (x ∷ xs) h =
    elim (decided (x == v)) [
      | inl e ↦ absurd (omega (arith, sum_by-cons (λ y. cond (y == v) 1 0) x xs, ap {B = ℕ} (λ b. cond b 1 0) e))
      | inr e ↦ (
          let rest : times v xs ≡ 0 = omega (arith, sum_by-cons (λ y. cond (y == v) 1 0) x xs) in
          ap (λ b. b || has xs v) e ∙ none_times v xs rest
          )
    ]

pub distinct_times : (vs : List ℕ) → is_distinct vs ≡ true → HasNoRepeat vs
distinct_times [] h = λ v. omega arith
distinct_times (x ∷ xs) h = λ v.
    let apart : has xs x ≡ false = grind (arith, nat_tests) in
    let rest : is_distinct xs ≡ true = grind (arith, nat_tests) in
    elim (decided (x == v)) [
      | inl e ↦ (
          let same : x ≡ v = grind (arith, nat_tests) in
          let none : times v xs ≡ 0 = times_none v xs (subst (λ (z : ℕ). has xs z ≡ false) same apart) in
          omega (arith, sum_by-cons (λ y. cond (y == v) 1 0) x xs, ap {B = ℕ} (λ b. cond b 1 0) e)
          )
      | inr e ↦ omega (arith, sum_by-cons (λ y. cond (y == v) 1 0) x xs, ap {B = ℕ} (λ b. cond b 1 0) e, distinct_times xs rest v)
    ]

pub no_repeat_distinct : (vs : List ℕ) → HasNoRepeat vs → is_distinct vs ≡ true
no_repeat_distinct [] h = refl
no_repeat_distinct (x ∷ xs) h =
    let self : (x == x) ≡ true = grind (arith, nat_tests) in
    let none : times x xs ≡ 0 = omega (arith, sum_by-cons (λ y. cond (y == x) 1 0) x xs, ap {B = ℕ} (λ b. cond b 1 0) self, h x) in
    let rest : HasNoRepeat xs = λ v. omega (arith, sum_by-cons (λ y. cond (y == v) 1 0) x xs, h v) in
    ap (λ b. not b && is_distinct xs) (none_times x xs none) ∙ no_repeat_distinct xs rest

pub only_order : (vs s : List ℕ) → is_distinct vs ≡ true → IsStrictlyIncreasing s → IsPermutation vs s → s ≡ in_order vs
only_order vs s d rises moved =
    same_members s (in_order vs) rises (in_order_rises vs d) (λ v. sym (list_any-IsPermutation (λ x. x == v) vs s moved) ∙ sym (has_in_order vs v))

-- what is refused as a simplex, being neither empty nor too long, has a number twice
pub refused_repeats : (vs : List ℕ) → 0 < length vs → length vs ≤ most → ¬ ((0 < length vs) × (length vs ≤ most) × HasNoRepeat vs) → is_distinct vs ≡ false
refused_repeats vs some narrow h =
    elim (decided (is_distinct vs)) [
      | inl e ↦ absurd (h (some, narrow, distinct_times vs e))
      | inr e ↦ e
    ]
