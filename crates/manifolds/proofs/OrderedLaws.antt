-- Simplices in simplex order.
--     there-ordered         the same ones are there
--     Growing n L           the lists of L have at least n vertices, and no fewer than those before them
--     growing-ordered       simplices in simplex order do
--     distinct-ordered      distinct ones stay so
--     grows-ordered         distinct simplices that grow so, among which each has its faces, may come one after another
use Rattle.std.proofs.Common.{◌≡◌, ℕ, ◌-◌, ◌<◌, ◌≤◌, Bool, true, false, cond, ◌||◌, List, [], ◌∷◌, ◌++◌, length, refl, sym, ap, subst, ◌∙◌, arith, ⊎_elim}
use Rattle.std.specs.List.{remove}
use Rattle.std.specs.declared.cmp.Ordering.{Ordering}
use Rattle.std.specs.declared.cmp.Ordering.TheVariants.{Less, Greater}
use Rattle.std.specs.Ordering.{is_lt, nat_cmp, ordering_then}
use Rattle.std.specs.Cmp.{nat_cmp_is}
use Rattle.std.specs.Cmp.Lexicographic.{slice_cmp}
use Rattle.std.proofs.lemmas.Bool.{true≢false, or_cases, or_from, or_left, or_right, cases_lt, false_from_ne_true}
use Rattle.std.proofs.lemmas.List.{append_assoc}
use Rattle.std.proofs.lemmas.List.Edits.{length-remove}
use Rattle.homology.specs.Simplices.{IsSimplex, same_list}
use Rattle.homology.specs.Order.{simplex_cmp, put_simplex, in_simplex_order}
use Rattle.homology.specs.Complexes.{Complex}
use Rattle.homology.specs.Growth.{is_there}
use Rattle.homology.proofs.BoundaryLaws.{same_list-same, same_list-true}
use Rattle.homology.proofs.FaceLists.{Distinct, there-cases, there-neither, there-first}
use Rattle.homology.proofs.FacetLaws.{HasFaces, Grows}

-- the test of the order, as it is taken apart
pub by-less : (s t : List ℕ) (P : Bool → Type 0) → ((b : Bool) → is_lt (simplex_cmp s t) ≡ b → P b) → P (is_lt (simplex_cmp s t))
by-less s t P f = f (is_lt (simplex_cmp s t)) refl

-- s among them, where it is put
pub there-put : (s u : List ℕ) (L : Complex) → is_there (put_simplex s L) u ≡ (same_list u s || is_there L u)
there-put s u [] = refl
there-put s u (t ∷ L) = split (is_lt (simplex_cmp s t)) (there-put s u L)
  where
    turned : (x y z : Bool) → (x || (y || z)) ≡ (y || (x || z))
    turned true true z = refl
    turned true false z = refl
    turned false y z = refl

    split : (b : Bool) → is_there (put_simplex s L) u ≡ (same_list u s || is_there L u)
        → is_there (cond b (s ∷ t ∷ L) (t ∷ put_simplex s L)) u ≡ (same_list u s || (same_list u t || is_there L u))
    split true rest = refl
    split false rest = ap (λ z. same_list u t || z) rest ∙ turned (same_list u t) (same_list u s) (is_there L u)

pub there-ordered : (L : Complex) (u : List ℕ) → is_there (in_simplex_order L) u ≡ is_there L u
there-ordered [] u = refl
there-ordered (s ∷ L) u = there-put s u (in_simplex_order L) ∙ ap (λ z. same_list u s || z) (there-ordered L u)

-- a simplex that is less has no more vertices, and one that is not has no fewer
less-shorter : (a b : ℕ) (r : Ordering) → is_lt (ordering_then (nat_cmp a b) r) ≡ true → a ≤ b
less-shorter a b r e = ⊎_elim
    (λ (more : b < a). absurd (true≢false (sym e ∙ ap (λ o. is_lt (ordering_then o r)) (sym (nat_cmp_is a b Greater more)))))
    (λ (le : a ≤ b). le)
    (cases_lt b a)

not-less-longer : (a b : ℕ) (r : Ordering) → is_lt (ordering_then (nat_cmp a b) r) ≡ false → b ≤ a
not-less-longer a b r e = ⊎_elim
    (λ (less : a < b). absurd (true≢false (ap (λ o. is_lt (ordering_then o r)) (nat_cmp_is a b Less less) ∙ e)))
    (λ (le : b ≤ a). le)
    (cases_lt a b)

abbrev pub Growing : ℕ → Complex → Type 0
Growing n [] = Unit {0}
Growing n (t ∷ L) = (n ≤ length t) × Growing (length t) L

-- none of them is shorter
growing-least : (n : ℕ) (L : Complex) (u : List ℕ) → Growing n L → is_there L u ≡ true → n ≤ length u
growing-least n [] u g h = absurd (true≢false (sym h))
growing-least n (t ∷ L) u g h = ⊎_elim
    (λ (first : same_list u t ≡ true). omega (arith, g.0, ap length (same_list-true u t first)))
    (λ (later : is_there L u ≡ true). omega (arith, g.0, growing-least (length t) L u g.1 later))
    (or_cases (same_list u t) (is_there L u) h)

growing-put : (n : ℕ) (s : List ℕ) (L : Complex) → 0 < length s → n ≤ length s → 0 < n → Growing n L → Growing n (put_simplex s L)
growing-put n s [] some le pos g = (le, tt)
growing-put n s (t ∷ L) some le pos g =
    by-less s t (λ b. Growing n (cond b (s ∷ t ∷ L) (t ∷ put_simplex s L)))
    (split (λ longer. growing-put (length t) s L some longer (omega (arith, pos, g.0)) g.1))
  where
    split : (length t ≤ length s → Growing (length t) (put_simplex s L)) → (b : Bool) → is_lt (simplex_cmp s t) ≡ b
        → Growing n (cond b (s ∷ t ∷ L) (t ∷ put_simplex s L))
    split rest true e = (le, (omega (arith, some, pos, g.0, less-shorter (length s - 1) (length t - 1) (slice_cmp nat_cmp s t) e), g.1))
    split rest false e = (g.0, rest (omega (arith, some, pos, g.0, not-less-longer (length s - 1) (length t - 1) (slice_cmp nat_cmp s t) e)))

pub growing-ordered : (L : Complex) → ((u : List ℕ) → is_there L u ≡ true → IsSimplex u) → Growing 1 (in_simplex_order L)
growing-ordered [] simplices = tt
growing-ordered (s ∷ L) simplices =
    let some : 0 < length s = (simplices s (there-first s L)).nonempty in
    growing-put 1 s (in_simplex_order L) some (omega (arith, some)) (omega arith)
    (growing-ordered L (λ u h. simplices u (or_right (same_list u s) (is_there L u) h)))

distinct-put : (s : List ℕ) (L : Complex) → is_there L s ≡ false → Distinct L → Distinct (put_simplex s L)
distinct-put s [] h d = (refl, tt)
distinct-put s (t ∷ L) h d = split (is_lt (simplex_cmp s t)) (distinct-put s L later d.1)
  where
    other : same_list t s ≡ false
    other = false_from_ne_true (same_list t s) (λ e.
        true≢false (sym (or_left (same_list s t) (is_there L s) (same_list-same s t (sym (same_list-true t s e)))) ∙ h))

    later : is_there L s ≡ false
    later = false_from_ne_true (is_there L s) (λ e. true≢false (sym (or_right (same_list s t) (is_there L s) e) ∙ h))

    split : (b : Bool) → Distinct (put_simplex s L) → Distinct (cond b (s ∷ t ∷ L) (t ∷ put_simplex s L))
    split true rest = (h, d)
    split false rest = (there-put s t L ∙ or_from (same_list t s) (is_there L t) other d.0, rest)

pub distinct-ordered : (L : Complex) → Distinct L → Distinct (in_simplex_order L)
distinct-ordered [] d = tt
distinct-ordered (s ∷ L) d = distinct-put s (in_simplex_order L) (there-ordered L s ∙ d.0) (distinct-ordered L d.1)

pub grows-ordered : (n : ℕ) (A L : Complex) → ((t : List ℕ) → is_there L t ≡ true → HasFaces (A ++ L) t)
    → ((t : List ℕ) → is_there L t ≡ true → IsSimplex t) → ((t : List ℕ) → is_there L t ≡ true → is_there A t ≡ false)
    → Distinct L → Growing n L → Grows A L
grows-ordered n A [] faces simplices fresh d g = tt
grows-ordered n A (t ∷ L) faces simplices fresh d g = (
  record { simplex = simplices t (there-first t L); fresh = fresh t (there-first t L); faces_there = below },
  grows-ordered (length t) (A ++ t ∷ []) L
      (λ u h. subst (λ (J : Complex). HasFaces J u) (sym (append_assoc A (t ∷ []) L)) (faces u (or_right (same_list u t) (is_there L u) h)))
      (λ u h. simplices u (or_right (same_list u t) (is_there L u) h)) later d.1 g.1,
)
  where
    below : HasFaces A t
    below k wide h = ⊎_elim
        (λ (in_A : is_there A (remove t k) ≡ true). in_A)
        (λ (in_L : is_there (t ∷ L) (remove t k) ≡ true).
        absurd (omega (arith, length-remove t k h, growing-least (length t) (t ∷ L) (remove t k) (omega arith, g.1) in_L)))
        (there-cases A (t ∷ L) (remove t k) (faces t (there-first t L) k wide h))

    later : (u : List ℕ) → is_there L u ≡ true → is_there (A ++ t ∷ []) u ≡ false
    later u h =
        let other : same_list u t ≡ false = false_from_ne_true (same_list u t) (λ e. true≢false (sym h ∙ ap (is_there L) (same_list-true u t e) ∙ d.0)) in
        there-neither A (t ∷ []) u (fresh u (or_right (same_list u t) (is_there L u) h)) (or_from (same_list u t) false other refl)
