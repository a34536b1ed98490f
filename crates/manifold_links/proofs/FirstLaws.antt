-- The first in simplex order, one simplex after the other.
--     first-there      it is one of the complex
--     first-next       with one simplex more: that one, where it comes before
--     first-in, first-out      of those that pass a test, with one more
--     first-id         of the ids below a number
--     first-down       of the ids from a number on
--     first-skip       one that does not come before
--     either-holds     what holds of both that may be the first
use Rattle.std.proofs.Common.{◌≡◌, ℕ, zero, suc, ◌+◌, ◌-◌, ◌<◌, Bool, true, false, cond, List, [], ◌∷◌, ◌++◌, map, length, Option, Some, None, refl, sym, ap, subst, ◌∙◌, arith, zero-add, ◌⊎◌, ⊎_elim}
use Rattle.std.specs.Prelude.{IfSome}
use Rattle.std.specs.List.{filter, range_with_len}
use Rattle.std.specs.Ordering.{is_lt}
use Rattle.std.specs.Option.{unwrap_or}
use Rattle.std.proofs.lemmas.List.{map-append, append-nil}
use Rattle.std.proofs.lemmas.List.Elements.{filter-append}
use Rattle.homology.specs.Complexes.{Complex, simplex_at}
use Rattle.homology.specs.Order.{simplex_cmp, put_simplex, in_simplex_order}
use Rattle.simplex_order.proofs.SortLaws.{put-comm}
use Rattle.manifolds.specs.Closed.{first_of, head_of, in_order}
use Rattle.manifold_links.specs.Firsts.{IsFirst}

pub first-there : (K : Complex) (xs : List ℕ) (first : Option ℕ) → IsFirst K xs first → IfSome first (λ f. f < length K)
first-there K xs None h = tt
first-there K xs (Some f) h = h.0

-- one more at the end is put in its place
order-more : (ss : List (List ℕ)) (s : List ℕ) → in_simplex_order (ss ++ s ∷ []) ≡ put_simplex s (in_simplex_order ss)
order-more [] s = refl
order-more (t ∷ ss) s = ap (put_simplex t) (order-more ss s) ∙ put-comm t s (in_simplex_order ss)

ordered-more : (K : Complex) (xs : List ℕ) (x : ℕ) → in_order K (xs ++ x ∷ []) ≡ put_simplex (simplex_at K x) (in_order K xs)
ordered-more K xs x = ap in_simplex_order (map-append (simplex_at K) xs (x ∷ [])) ∙ order-more (map (simplex_at K) xs) (simplex_at K x)

-- the head of a list in which s is put into its place
put-none : (s : List ℕ) (l : List (List ℕ)) → head_of l ≡ None → head_of (put_simplex s l) ≡ Some s
put-none s [] e = refl
put-none s (t ∷ l) e = absurd (cc e)

put-some : (s t : List ℕ) (l : List (List ℕ)) (b : Bool) → head_of l ≡ Some t → is_lt (simplex_cmp s t) ≡ b → head_of (put_simplex s l) ≡ cond b (Some s) (Some t)
put-some s t [] b e h = absurd (cc e)
put-some s t (u ∷ l) b e h = by b (ap (λ o. is_lt (simplex_cmp s (unwrap_or o s))) e ∙ h)
  where
    by : (c : Bool) → is_lt (simplex_cmp s u) ≡ c → head_of (put_simplex s (u ∷ l)) ≡ cond c (Some s) (Some t)
    by true q = ap (λ z. head_of (cond z (s ∷ u ∷ l) (u ∷ put_simplex s l))) q
    by false q = ap (λ z. head_of (cond z (s ∷ u ∷ l) (u ∷ put_simplex s l))) q ∙ e

-- whether x comes before the first
abbrev pub precedes : Complex → ℕ → Option ℕ → Bool
precedes K x None = true
precedes K x (Some f) = is_lt (simplex_cmp (simplex_at K x) (simplex_at K f))

pub first-next : (K : Complex) (xs : List ℕ) (x : ℕ) (first : Option ℕ) (b : Bool) → x < length K → b ≡ precedes K x first → IsFirst K xs first
    → IsFirst K (xs ++ x ∷ []) (cond b (Some x) first)
first-next K xs x None b h e F =
    subst (λ (z : Bool). IsFirst K (xs ++ x ∷ []) (cond z (Some x) None)) (sym e)
    (h, ap head_of (ordered-more K xs x) ∙ put-none (simplex_at K x) (in_order K xs) F)
first-next K xs x (Some f) b h e F = by b (sym e)
  where
    by : (c : Bool) → precedes K x (Some f) ≡ c → IsFirst K (xs ++ x ∷ []) (cond c (Some x) (Some f))
    by true q = (h, ap head_of (ordered-more K xs x) ∙ put-some (simplex_at K x) (simplex_at K f) (in_order K xs) true F.1 q)
    by false q = (F.0, ap head_of (ordered-more K xs x) ∙ put-some (simplex_at K x) (simplex_at K f) (in_order K xs) false F.1 q)

-- the passing ones with one more
filter-in : (test : ℕ → Bool) (xs : List ℕ) (x : ℕ) → test x ≡ true → filter test (xs ++ x ∷ []) ≡ filter test xs ++ x ∷ []
filter-in test xs x e = filter-append test xs (x ∷ []) ∙ ap (λ b. filter test xs ++ cond b (x ∷ []) []) e

filter-out : (test : ℕ → Bool) (xs : List ℕ) (x : ℕ) → test x ≡ false → filter test (xs ++ x ∷ []) ≡ filter test xs
filter-out test xs x e = filter-append test xs (x ∷ []) ∙ ap (λ b. filter test xs ++ cond b (x ∷ []) []) e ∙ append-nil (filter test xs)

pub first-in : (K : Complex) (test : ℕ → Bool) (xs : List ℕ) (x : ℕ) (first : Option ℕ) → test x ≡ true
    → IsFirst K (filter test xs ++ x ∷ []) first → IsFirst K (filter test (xs ++ x ∷ [])) first
first-in K test xs x first e F = subst (λ (ys : List ℕ). IsFirst K ys first) (sym (filter-in test xs x e)) F

pub first-out : (K : Complex) (test : ℕ → Bool) (xs : List ℕ) (x : ℕ) (first : Option ℕ) → test x ≡ false
    → IsFirst K (filter test xs) first → IsFirst K (filter test (xs ++ x ∷ [])) first
first-out K test xs x first e F = subst (λ (ys : List ℕ). IsFirst K ys first) (sym (filter-out test xs x e)) F

-- one number more in a run
pub range-more : (a n : ℕ) → range_with_len a (n + 1) ≡ range_with_len a n ++ (a + n) ∷ []
range-more a zero = let same : a ≡ a + 0 = omega arith in ap (λ m. m ∷ []) same
range-more a (suc n) =
    let longer : suc n + 1 ≡ suc (n + 1) = omega arith in
    let last : (a + 1) + n ≡ a + suc n = omega arith in
    ap (range_with_len a) longer
    ∙ ap (λ l. a ∷ l) (range-more (a + 1) n)
    ∙ ap (λ m. a ∷ (range_with_len (a + 1) n ++ m ∷ [])) last

-- with the next id
pub first-id : (K : Complex) (test : ℕ → Bool) (n : ℕ) (first : Option ℕ) → IsFirst K (filter test (range_with_len 0 n ++ n ∷ [])) first
    → IsFirst K (filter test (range_with_len 0 (n + 1))) first
first-id K test n first F = subst (λ (ys : List ℕ). IsFirst K (filter test ys) first) (sym (range-more 0 n ∙ ap (λ m. range_with_len 0 n ++ m ∷ []) (zero-add n))) F

-- of the same simplices in another order
first-same : (K : Complex) (xs ys : List ℕ) (first : Option ℕ) → first_of K xs ≡ first_of K ys → IsFirst K xs first → IsFirst K ys first
first-same K xs ys None e F = sym e ∙ F
first-same K xs ys (Some f) e F = (F.0, sym e ∙ F.1)

-- with the id before
pub first-down : (K : Complex) (test : ℕ → Bool) (i n : ℕ) (first : Option ℕ) → i < n → IsFirst K (filter test (range_with_len (i + 1) (n - (i + 1)) ++ i ∷ [])) first
    → IsFirst K (filter test (range_with_len i (n - i))) first
first-down K test i n first h F =
    let more : n - i ≡ suc (n - (i + 1)) = omega (arith, h) in
    let xs : List ℕ = range_with_len (i + 1) (n - (i + 1)) in
    subst (λ (m : ℕ). IsFirst K (filter test (range_with_len i m)) first) (sym more)
    (first-same K (filter test (xs ++ i ∷ [])) (filter test (i ∷ xs)) first (by (test i) refl) F)
  where
    by : (b : Bool) → test i ≡ b → first_of K (filter test (range_with_len (i + 1) (n - (i + 1)) ++ i ∷ [])) ≡ first_of K (filter test (i ∷ range_with_len (i + 1) (n - (i + 1))))
    by true e =
        let xs : List ℕ = range_with_len (i + 1) (n - (i + 1)) in
        ap (first_of K) (filter-in test xs i e) ∙ ap head_of (ordered-more K (filter test xs) i)
        ∙ ap (λ b. first_of K (cond b (i ∷ filter test xs) (filter test xs))) (sym e)
    by false e =
        let xs : List ℕ = range_with_len (i + 1) (n - (i + 1)) in
        ap (first_of K) (filter-out test xs i e) ∙ ap (λ b. first_of K (cond b (i ∷ filter test xs) (filter test xs))) (sym e)

-- what holds of a first one and of x holds of either
pub either-holds : (P : ℕ → Bool) (first result : Option ℕ) (x : ℕ) → (result ≡ first) ⊎ (result ≡ Some x) → IfSome first (λ y. P y ≡ true) → P x ≡ true
    → IfSome result (λ y. P y ≡ true)
either-holds P first result x e old new = ⊎_elim
    (λ (same : result ≡ first). subst (λ (o : Option ℕ). IfSome o (λ y. P y ≡ true)) (sym same) old)
    (λ (next : result ≡ Some x). subst (λ (o : Option ℕ). IfSome o (λ y. P y ≡ true)) (sym next) new)
    e

-- x does not come before the first, whether it counts or not
pub first-skip : (K : Complex) (test : ℕ → Bool) (xs : List ℕ) (x : ℕ) (first : Option ℕ) → IsFirst K (filter test xs ++ x ∷ []) first
    → IsFirst K (filter test xs) first → IsFirst K (filter test (xs ++ x ∷ [])) first
first-skip K test xs x first with_x without = by (test x) refl
  where
    by : (b : Bool) → test x ≡ b → IsFirst K (filter test (xs ++ x ∷ [])) first
    by true e = first-in K test xs x first e with_x
    by false e = first-out K test xs x first e without
