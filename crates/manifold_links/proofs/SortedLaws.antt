-- Simplices in simplex order.
--     up-ordered      simplices in simplex order are so
--     front-first     of two of as many vertices the one with the lesser first vertex has the lesser id
use Rattle.std.proofs.Common.{◌≡◌, ℕ, zero, suc, ◌-◌, ◌<◌, ◌≤◌, Bool, true, false, cond, List, [], ◌∷◌, length, get_or, refl, sym, ap, ◌∙◌, arith, ⊎_elim}
use Rattle.std.specs.declared.cmp.Ordering.{Ordering}
use Rattle.std.specs.declared.cmp.Ordering.TheVariants.{Less, Equal, Greater}
use Rattle.std.specs.Ordering.{is_lt, nat_cmp, ordering_then, ordering_reverse}
use Rattle.std.specs.Cmp.{nat_cmp_is}
use Rattle.std.specs.Cmp.Lexicographic.{slice_cmp}
use Rattle.std.proofs.lemmas.Bool.{true≢false, or_cases, cases_lt, cases_eq, false_from_ne_true}
use Rattle.std.proofs.lemmas.List.Folds.{list_any_at}
use Rattle.homology.specs.Simplices.{same_list}
use Rattle.homology.specs.Order.{simplex_cmp, put_simplex, in_simplex_order}
use Rattle.homology.specs.Complexes.{Complex, simplex_at}
use Rattle.homology.specs.Growth.{is_there}
use Rattle.homology.proofs.BoundaryLaws.{same_list-same, same_list-true}
use Rattle.simplex_order.proofs.OrderLaws.{simplex_cmp_total}
use Rattle.manifolds.proofs.OrderedLaws.{by-less, there-put}
use Rattle.manifold_links.specs.Hollows.{Up}

is-less : (o : Ordering) → is_lt o ≡ true → o ≡ Less
is-less Less e = refl
is-less Equal e = absurd (cc e)
is-less Greater e = absurd (cc e)

less-trans : (s t u : List ℕ) → is_lt (simplex_cmp s t) ≡ true → is_lt (simplex_cmp t u) ≡ true → is_lt (simplex_cmp s u) ≡ true
less-trans s t u p q = ap is_lt (simplex_cmp_total.trans s t u (is-less _ p) (is-less _ q))

less-asym : (s t : List ℕ) → is_lt (simplex_cmp s t) ≡ true → is_lt (simplex_cmp t s) ≡ false
less-asym s t p = ap is_lt (simplex_cmp_total.antisymm t s ∙ ap ordering_reverse (is-less _ p))

up-put : (s : List ℕ) (L : Complex) → Up L → Up (put_simplex s L)
up-put s [] up = ((λ u h. absurd (true≢false (sym h))), tt)
up-put s (t ∷ L) up = by-less s t (λ b. Up (cond b (s ∷ t ∷ L) (t ∷ put_simplex s L))) (split (up-put s L up.1))
  where
    above : is_lt (simplex_cmp s t) ≡ true → (u : List ℕ) → is_there (t ∷ L) u ≡ true → is_lt (simplex_cmp u s) ≡ false
    above e u h = ⊎_elim
        (λ (same : same_list u t ≡ true). ap (λ l. is_lt (simplex_cmp l s)) (same_list-true u t same) ∙ less-asym s t e)
        (λ (later : is_there L u ≡ true). false_from_ne_true (is_lt (simplex_cmp u s)) (λ less. true≢false (sym (less-trans u s t less e) ∙ up.0 u later)))
        (or_cases (same_list u t) (is_there L u) h)

    behind : is_lt (simplex_cmp s t) ≡ false → (u : List ℕ) → is_there (put_simplex s L) u ≡ true → is_lt (simplex_cmp u t) ≡ false
    behind e u h = ⊎_elim
        (λ (same : same_list u s ≡ true). ap (λ l. is_lt (simplex_cmp l t)) (same_list-true u s same) ∙ e)
        (λ (later : is_there L u ≡ true). up.0 u later)
        (or_cases (same_list u s) (is_there L u) (sym (there-put s u L) ∙ h))

    split : Up (put_simplex s L) → (b : Bool) → is_lt (simplex_cmp s t) ≡ b → Up (cond b (s ∷ t ∷ L) (t ∷ put_simplex s L))
    split rest true e = (above e, up)
    split rest false e = (behind e, rest)

pub up-ordered : (L : Complex) → Up (in_simplex_order L)
up-ordered [] = tt
up-ordered (s ∷ L) = up-put s (in_simplex_order L) (up-ordered L)

up-at : (L : Complex) → Up L → (x y : ℕ) → x < y → y < length L → is_lt (simplex_cmp (simplex_at L y) (simplex_at L x)) ≡ false
up-at [] up x y lt h = absurd (omega (arith, h))
up-at (t ∷ L) up x zero lt h = absurd (omega (arith, lt))
up-at (t ∷ L) up zero (suc y) lt h =
    up.0 (simplex_at L y) (list_any_at (same_list (simplex_at L y)) L y [] (omega (arith, h)) (same_list-same (simplex_at L y) (simplex_at L y) refl))
up-at (t ∷ L) up (suc x) (suc y) lt h = up-at L up.1 x y (omega (arith, lt)) (omega (arith, h))

-- the first vertex decides between simplices of as many vertices
lower : (a b : ℕ) (s t : List ℕ) → length s ≡ length t → a < b → is_lt (simplex_cmp (a ∷ s) (b ∷ t)) ≡ true
lower a b s t long lt =
    let same : Equal ≡ nat_cmp (length (a ∷ s) - 1) (length (b ∷ t) - 1) = nat_cmp_is (length (a ∷ s) - 1) (length (b ∷ t) - 1) Equal (omega (arith, long)) in
    let less : Less ≡ nat_cmp a b = nat_cmp_is a b Less lt in
    (λ i. is_lt (ordering_then (sym same i) (ordering_then (sym less i) (slice_cmp nat_cmp s t))))

pub front-first : (L : Complex) → Up L → (x y a b : ℕ) (s t : List ℕ) → x < length L → simplex_at L x ≡ a ∷ s → simplex_at L y ≡ b ∷ t
    → length s ≡ length t → a < b → x < y
front-first L up x y a b s t h e f long lt = ⊎_elim
    (λ (less : x < y). less)
    (λ (le : y ≤ x). ⊎_elim
    (λ (same : x ≡ y). absurd (omega (arith, lt, ap (λ l. get_or l 0 0) (sym e ∙ ap (simplex_at L) same ∙ f))))
    (λ (other : x ≡ y → ⊥).
    absurd (true≢false (sym (lower a b s t long lt) ∙ (λ i. is_lt (simplex_cmp (sym e i) (sym f i))) ∙ up-at L up y x (omega (arith, le, other)) h)))
    (cases_eq x y))
    (cases_lt x y)
