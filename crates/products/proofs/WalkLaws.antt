-- Products by pairs of simplices.
--     weigh-walks               the splittings of s that are (p, q): one, where the walk passes, and none where not
--     walks-both, walks-both_none, walks-first, walks-second
--                               the walk at one vertex more
--     cup-pairs, cup-lists      the product as a sum over pairs of members of its factors
--     walks-union, walks-at_union    the walk passes along the union alone
use Rattle.std.proofs.Common.{◌≡◌, ℕ, zero, suc, ◌+◌, ◌<◌, ◌≤◌, Bool, true, false, cond, ◌&&◌, ◌||◌, not, List, [], ◌∷◌, length, nat_eq, refl, sym, ap, ◌∙◌, subst, arith, eqb-true, ⊎_elim}
use Rattle.std.specs.List.{All}
use Rattle.std.specs.List.Sorted.{IsStrictlyIncreasing}
use Rattle.std.proofs.lemmas.Bool.{true≢false, and_parts, false_from_ne_true, cases_lt}
use Rattle.std.proofs.lemmas.List.{get_or_past}
use Rattle.homology.specs.Parity.{xor, odd}
use Rattle.homology.specs.Sets.{Ids, single, set_of, evaluate}
use Rattle.homology.specs.ListSums.{odd_over}
use Rattle.homology.specs.Simplices.{same_list}
use Rattle.homology.specs.Complexes.{Complex, simplex_at, IsComplex}
use Rattle.homology.proofs.ParityLaws.{xor-false, and-comm, and-false, and-assoc, odd-same, odd-and, odd-and_right}
use Rattle.homology.proofs.BoundaryLaws.{same_list-true, same_list-same}
use Rattle.homology.proofs.EvaluationLaws.{evaluate-single}
use Rattle.homology.proofs.FaceLists.{Picks, Picks-rises}
use Rattle.homology.proofs.ListSetLaws.{Rises, Rises-ascending, same_ascending}
use Rattle.homology.proofs.SetLaws.{same_members}
use Rattle.homology.proofs.ListSumLaws.{odd_over-same, sum_over-ascending, evaluate-sum_over}
use Rattle.products.specs.Products.{value_at, cup}
use Rattle.products.specs.Splittings.{begins, after_first, walks}
use Rattle.products.proofs.SplittingLaws.{Test, put, put_both, weigh, lower, weigh-step, weigh-none, weigh-and, weigh-odd}
use Rattle.products.proofs.HalfLaws.{meets}
use Rattle.products.proofs.CoboundaryLaw.{cup-weigh}

-- the test whether two lists are p and q
abbrev pub are : List ℕ → List ℕ → Test
are p q = λ u w. same_list u p && same_list w q

-- a list with v in front is p, where p begins with v and the list is the rest of p
same_list-front : (v : ℕ) (u p : List ℕ) → same_list (v ∷ u) p ≡ (begins v p && same_list u (after_first p))
same_list-front v u [] = refl
same_list-front v u (w ∷ p) = refl

-- no sublist of a list of later vertices begins with v
later : (v : ℕ) (s u p : List ℕ) → Rises (v + 1) s → Picks u s → begins v p ≡ true → same_list u p ≡ false
later v s [] [] r P e = absurd (true≢false (sym e))
later v s (x ∷ u) [] r P e = refl
later v s [] (w ∷ p) r P e = refl
later v s (x ∷ u) (w ∷ p) r P e = false_from_ne_true (same_list (x ∷ u) (w ∷ p)) (λ same.
    let up : Rises (v + 1) (x ∷ u) = Picks-rises (v + 1) (x ∷ u) s r P in
    let first : v ≡ w = eqb-true v w e in
    let equal : x ≡ w = eqb-true x w (and_parts (nat_eq x w) (same_list u p) same).0 in
    omega (arith, up.0, first, equal))

-- the walk at one vertex more, by what p and q begin with
pub walks-both : (k : ℕ) (first : Bool) (p q : List ℕ) (v : ℕ) (s : List ℕ) → begins v p ≡ true → begins v q ≡ true
    → walks (suc k) first p q (v ∷ s) ≡ walks k (not first) (after_first p) (after_first q) s
walks-both k first p q v s e f = λ i. cond (e i)
    (cond (f i) (walks k (not first) (after_first p) (after_first q) s) (first && walks (suc k) first (after_first p) q s))
    (begins v q && (not first && walks (suc k) first p (after_first q) s))

pub walks-both_none : (first : Bool) (p q : List ℕ) (v : ℕ) (s : List ℕ) → begins v p ≡ true → begins v q ≡ true → walks zero first p q (v ∷ s) ≡ false
walks-both_none first p q v s e f = λ i. cond (e i)
    (cond (f i) false (first && walks zero first (after_first p) q s))
    (begins v q && (not first && walks zero first p (after_first q) s))

pub walks-first : (k : ℕ) (first : Bool) (p q : List ℕ) (v : ℕ) (s : List ℕ) → begins v p ≡ true → begins v q ≡ false
    → walks k first p q (v ∷ s) ≡ (first && walks k first (after_first p) q s)
walks-first zero first p q v s e f = λ i. cond (e i)
    (cond (f i) false (first && walks zero first (after_first p) q s))
    (begins v q && (not first && walks zero first p (after_first q) s))
walks-first (suc k) first p q v s e f = λ i. cond (e i)
    (cond (f i) (walks k (not first) (after_first p) (after_first q) s) (first && walks (suc k) first (after_first p) q s))
    (begins v q && (not first && walks (suc k) first p (after_first q) s))

pub walks-second : (k : ℕ) (first : Bool) (p q : List ℕ) (v : ℕ) (s : List ℕ) → begins v p ≡ false
    → walks k first p q (v ∷ s) ≡ (begins v q && (not first && walks k first p (after_first q) s))
walks-second zero first p q v s e = λ i. cond (e i)
    (cond (begins v q) false (first && walks zero first (after_first p) q s))
    (begins v q && (not first && walks zero first p (after_first q) s))
walks-second (suc k) first p q v s e = λ i. cond (e i)
    (cond (begins v q) (walks k (not first) (after_first p) (after_first q) s) (first && walks (suc k) first (after_first p) q s))
    (begins v q && (not first && walks (suc k) first p (after_first q) s))

-- the splittings of v and s that share v, and those that do not
shared-are : (v : ℕ) (p q : List ℕ) → put_both v (are p q) ≡ (λ u w. (begins v p && begins v q) && are (after_first p) (after_first q) u w)
shared-are v p q = λ i u w. at u w i
  where
    regroup : (a b c d : Bool) → ((a && b) && (c && d)) ≡ ((a && c) && (b && d))
    regroup true b true d = refl
    regroup true b false d = and-false b
    regroup false b c d = refl

    at : (u w : List ℕ) → (same_list (v ∷ u) p && same_list (v ∷ w) q) ≡ ((begins v p && begins v q) && are (after_first p) (after_first q) u w)
    at u w =
        (λ i. same_list-front v u p i && same_list-front v w q i)
        ∙ regroup (begins v p) (same_list u (after_first p)) (begins v q) (same_list w (after_first q))

single-first : (v : ℕ) (p q : List ℕ) → put true v (are p q) ≡ (λ u w. begins v p && are (after_first p) q u w)
single-first v p q = λ i u w. at u w i
  where
    at : (u w : List ℕ) → (same_list (v ∷ u) p && same_list w q) ≡ (begins v p && are (after_first p) q u w)
    at u w =
        ap (λ t. t && same_list w q) (same_list-front v u p)
        ∙ and-assoc (begins v p) (same_list u (after_first p)) (same_list w q)

single-second : (v : ℕ) (p q : List ℕ) → put false v (are p q) ≡ (λ u w. begins v q && are p (after_first q) u w)
single-second v p q = λ i u w. at u w i
  where
    turned : (x y z : Bool) → (x && (y && z)) ≡ (y && (x && z))
    turned x y z = sym (and-assoc x y z) ∙ ap (λ b. b && z) (and-comm x y) ∙ and-assoc y x z

    at : (u w : List ℕ) → (same_list u p && same_list (v ∷ w) q) ≡ (begins v q && are p (after_first q) u w)
    at u w =
        ap (λ t. same_list u p && t) (same_list-front v w q)
        ∙ turned (same_list u p) (begins v q) (same_list w (after_first q))

lower-and : (k : ℕ) (first : Bool) (s : List ℕ) (t : Bool) (W : Test) → lower k first s (λ u w. t && W u w) ≡ (t && lower k first s W)
lower-and zero first s t W = sym (and-false t)
lower-and (suc k) first s t W = weigh-and k first s t W

weigh-shared : (k : ℕ) (first : Bool) (v : ℕ) (s p q : List ℕ)
    → lower k (not first) s (put_both v (are p q)) ≡ ((begins v p && begins v q) && lower k (not first) s (are (after_first p) (after_first q)))
weigh-shared k first v s p q =
    ap (lower k (not first) s) (shared-are v p q)
    ∙ lower-and k (not first) s (begins v p && begins v q) (are (after_first p) (after_first q))

weigh-single : (k : ℕ) (first : Bool) (v : ℕ) (s p q : List ℕ) → weigh k first s (put first v (are p q))
    ≡ cond first (begins v p && weigh k first s (are (after_first p) q)) (begins v q && weigh k first s (are p (after_first q)))
weigh-single k true v s p q = ap (weigh k true s) (single-first v p q) ∙ weigh-and k true s (begins v p) (are (after_first p) q)
weigh-single k false v s p q = ap (weigh k false s) (single-second v p q) ∙ weigh-and k false s (begins v q) (are p (after_first q))

-- where q begins with an earlier vertex than all of s, no splitting of s has it; likewise p
weigh-late_second : (k : ℕ) (first : Bool) (v : ℕ) (s p q : List ℕ) → Rises (v + 1) s → begins v q ≡ true → weigh k first s (are p q) ≡ false
weigh-late_second k first v s p q r e = weigh-none k first s (are p q)
    (λ u w P Q. ap (λ t. same_list u p && t) (later v s w q r Q e) ∙ and-false (same_list u p))

weigh-late_first : (k : ℕ) (first : Bool) (v : ℕ) (s p q : List ℕ) → Rises (v + 1) s → begins v p ≡ true → weigh k first s (are p q) ≡ false
weigh-late_first k first v s p q r e = weigh-none k first s (are p q) (λ u w P Q. ap (λ t. t && same_list w q) (later v s u p r P e))

-- one vertex more: what both begin with is shared
are-both : (k : ℕ) (first : Bool) (v : ℕ) (s p q : List ℕ) → Rises (v + 1) s → begins v p ≡ true → begins v q ≡ true
    → weigh k first (v ∷ s) (are p q) ≡ lower k (not first) s (are (after_first p) (after_first q))
are-both k first v s p q r e f =
    weigh-step k first v s (are p q)
    ∙ (λ i. xor
    ((weigh-shared k first v s p q ∙ (λ j. (e j && f j) && lower k (not first) s (are (after_first p) (after_first q)))) i)
    ((weigh-single k first v s p q ∙ none first) i))
    ∙ xor-false (lower k (not first) s (are (after_first p) (after_first q)))
  where
    none : (side : Bool) → cond side (begins v p && weigh k first s (are (after_first p) q)) (begins v q && weigh k first s (are p (after_first q))) ≡ false
    none true = ap (λ t. begins v p && t) (weigh-late_second k first v s (after_first p) q r f) ∙ and-false (begins v p)
    none false = ap (λ t. begins v q && t) (weigh-late_first k first v s p (after_first q) r e) ∙ and-false (begins v q)

-- otherwise it is single, on the side of the bit
are-single : (k : ℕ) (first : Bool) (v : ℕ) (s p q : List ℕ) → (begins v p && begins v q) ≡ false
    → weigh k first (v ∷ s) (are p q)
    ≡ cond first (begins v p && weigh k first s (are (after_first p) q)) (begins v q && weigh k first s (are p (after_first q)))
are-single k first v s p q e =
    weigh-step k first v s (are p q)
    ∙ (λ i. xor
    ((weigh-shared k first v s p q ∙ (λ j. e j && lower k (not first) s (are (after_first p) (after_first q)))) i)
    (weigh-single k first v s p q i))

-- one vertex more, where all is known of the others
weigh-walks_more : (k : ℕ) (first : Bool) (v : ℕ) (s p q : List ℕ) → Rises (v + 1) s
    → ((k : ℕ) (first : Bool) (p q : List ℕ) → weigh k first s (are p q) ≡ walks k first p q s)
    → weigh k first (v ∷ s) (are p q) ≡ walks k first p q (v ∷ s)
weigh-walks_more k first v s p q r rest = by (begins v p) (begins v q) refl refl
  where
    both : (k : ℕ) → begins v p ≡ true → begins v q ≡ true → weigh k first (v ∷ s) (are p q) ≡ walks k first p q (v ∷ s)
    both zero e f = are-both zero first v s p q r e f ∙ sym (walks-both_none first p q v s e f)
    both (suc k) e f =
        are-both (suc k) first v s p q r e f
        ∙ rest k (not first) (after_first p) (after_first q)
        ∙ sym (walks-both k first p q v s e f)

    only_first : (side : Bool) → begins v p ≡ true → begins v q ≡ false
        → cond side (begins v p && weigh k first s (are (after_first p) q)) (begins v q && weigh k first s (are p (after_first q)))
        ≡ (side && walks k first (after_first p) q s)
    only_first true e f = ap (λ t. t && weigh k first s (are (after_first p) q)) e ∙ rest k first (after_first p) q
    only_first false e f = ap (λ t. t && weigh k first s (are p (after_first q))) f

    without_first : (side : Bool) → begins v p ≡ false
        → cond side (begins v p && weigh k first s (are (after_first p) q)) (begins v q && weigh k first s (are p (after_first q)))
        ≡ (begins v q && (not side && walks k first p (after_first q) s))
    without_first true e = ap (λ t. t && weigh k first s (are (after_first p) q)) e ∙ sym (and-false (begins v q))
    without_first false e = ap (λ t. begins v q && t) (rest k first p (after_first q))

    by : (x y : Bool) → begins v p ≡ x → begins v q ≡ y → weigh k first (v ∷ s) (are p q) ≡ walks k first p q (v ∷ s)
    by true true e f = both k e f
    by true false e f =
        are-single k first v s p q (λ i. e i && f i)
        ∙ only_first first e f
        ∙ sym (walks-first k first p q v s e f)
    by false y e f =
        are-single k first v s p q (ap (λ t. t && begins v q) e)
        ∙ without_first first e
        ∙ sym (walks-second k first p q v s e)

-- the splittings of an ascending s that are (p, q)
pub weigh-walks : (k : ℕ) (first : Bool) (b : ℕ) (s p q : List ℕ) → Rises b s → weigh k first s (are p q) ≡ walks k first p q s
weigh-walks zero first b [] p q r = refl
weigh-walks (suc k) first b [] p q r = refl
weigh-walks k first b (v ∷ s) p q r = weigh-walks_more k first v s p q r.1 (λ k' side p' q'. weigh-walks k' side (v + 1) s p' q' r.1)

-- a product of two sums, term by term
meets-pairs : (K : Complex) (a b : Ids) (u w : List ℕ)
    → meets (value_at K a) (value_at K b) u w
    ≡ odd (length K) (λ y. odd (length K) (λ z. (a y && b z) && are (simplex_at K y) (simplex_at K z) u w))
unfolding value_at
meets-pairs K a b u w =
    sym (odd-and_right (length K) (λ y. a y && same_list u (simplex_at K y)) (odd (length K) (λ z. b z && same_list w (simplex_at K z))))
    ∙ odd-same (length K) _ _ (λ y _.
    sym (odd-and (length K) (a y && same_list u (simplex_at K y)) (λ z. b z && same_list w (simplex_at K z)))
    ∙ odd-same (length K) _ _ (λ z _. regroup (a y) (same_list u (simplex_at K y)) (b z) (same_list w (simplex_at K z))))
  where
    regroup : (a b c d : Bool) → ((a && b) && (c && d)) ≡ ((a && c) && (b && d))
    regroup true b true d = refl
    regroup true b false d = and-false b
    regroup false b c d = refl

-- the vertices of a simplex, and of no simplex, ascend
simplex-rises : (K : Complex) → IsComplex K → (x : ℕ) → Rises 0 (simplex_at K x)
simplex-rises K c x = ⊎_elim
    (λ (lt : x < length K). Rises-ascending (simplex_at K x) (c.simplices x lt).ascending)
    (λ (le : length K ≤ x). subst (Rises 0) (sym (get_or_past K x [] le)) tt)
    (cases_lt x (length K))

-- the product as a sum over pairs
pub cup-pairs : (K : Complex) → IsComplex K → (i : ℕ) (a b : Ids) (x : ℕ)
    → cup K i a b x
    ≡ odd (length K) (λ y. odd (length K) (λ z. (a y && b z) && walks (suc i) true (simplex_at K y) (simplex_at K z) (simplex_at K x)))
cup-pairs K c i a b x =
    cup-weigh K i a b x
    ∙ ap (weigh (suc i) true (simplex_at K x)) (λ j u w. meets-pairs K a b u w j)
    ∙ weigh-odd (suc i) true (simplex_at K x) (length K) (λ y u w. odd (length K) (λ z. (a y && b z) && are (simplex_at K y) (simplex_at K z) u w))
    ∙ odd-same (length K) _ _ (λ y _.
    weigh-odd (suc i) true (simplex_at K x) (length K) (λ z u w. (a y && b z) && are (simplex_at K y) (simplex_at K z) u w)
    ∙ odd-same (length K) _ _ (λ z _.
    weigh-and (suc i) true (simplex_at K x) (a y && b z) (are (simplex_at K y) (simplex_at K z))
    ∙ ap (λ t. (a y && b z) && t) (weigh-walks (suc i) true 0 (simplex_at K x) (simplex_at K y) (simplex_at K z) (simplex-rises K c x))))

-- a sum over the members of an ascending list
odd-listed : (n : ℕ) (ys : List ℕ) (p : ℕ → Bool) → IsStrictlyIncreasing ys → All (λ y. y < n) ys → odd n (λ y. set_of ys y && p y) ≡ odd_over ys p
odd-listed n ys p up within =
    odd-same n _ _ (λ y _. and-comm (set_of ys y) (p y))
    ∙ ap (evaluate n p) (sym (sum_over-ascending ys up))
    ∙ evaluate-sum_over n p ys single
    ∙ odd_over-same ys _ _ (λ k d lt. evaluate-single n p _ (within k d lt))

-- the product of two lists of ids
pub cup-lists : (K : Complex) → IsComplex K → (i : ℕ) (ys zs : List ℕ)
    → IsStrictlyIncreasing ys → All (λ y. y < length K) ys → IsStrictlyIncreasing zs → All (λ z. z < length K) zs → (x : ℕ)
    → cup K i (set_of ys) (set_of zs) x
    ≡ odd_over ys (λ y. odd_over zs (λ z. walks (suc i) true (simplex_at K y) (simplex_at K z) (simplex_at K x)))
cup-lists K c i ys zs up within vp inside x =
    cup-pairs K c i (set_of ys) (set_of zs) x
    ∙ odd-same (length K) _ _ (λ y _.
    odd-same (length K) _ _ (λ z _. and-assoc (set_of ys y) (set_of zs z) (passes y z))
    ∙ odd-and (length K) (set_of ys y) (λ z. set_of zs z && passes y z)
    ∙ ap (λ t. set_of ys y && t) (odd-listed (length K) zs (passes y) vp inside))
    ∙ odd-listed (length K) ys (λ y. odd_over zs (passes y)) up within
  where
    passes : ℕ → ℕ → Bool
    passes y z = walks (suc i) true (simplex_at K y) (simplex_at K z) (simplex_at K x)

-- the first vertex of a list, as a member
begins-set : (v : ℕ) (p : List ℕ) → begins v p ≡ true → (u : ℕ) → set_of p u ≡ (nat_eq u v || set_of (after_first p) u)
begins-set v [] e u = absurd (true≢false (sym e))
begins-set v (w ∷ p) e u = ap (λ x. nat_eq u x || set_of p u) (sym (eqb-true v w e))

-- no vertex at all
empty-set : (p : List ℕ) → same_list [] p ≡ true → (u : ℕ) → set_of p u ≡ false
empty-set p e u = ap (λ z. set_of z u) (sym (same_list-true [] p e))

-- one vertex more, where all is known of the others
walks-union_more : (k : ℕ) (first : Bool) (p q : List ℕ) (v : ℕ) (s : List ℕ) → walks k first p q (v ∷ s) ≡ true → (u : ℕ)
    → ((k : ℕ) (first : Bool) (p q : List ℕ) → walks k first p q s ≡ true → set_of s u ≡ (set_of p u || set_of q u))
    → (nat_eq u v || set_of s u) ≡ (set_of p u || set_of q u)
walks-union_more k first p q v s e u rest = by (begins v p) (begins v q) refl refl
  where
    share : (a b c : Bool) → (a || (b || c)) ≡ ((a || b) || (a || c))
    share true b c = refl
    share false b c = refl

    front : (a b c : Bool) → (a || (b || c)) ≡ ((a || b) || c)
    front true b c = refl
    front false b c = refl

    behind : (a b c : Bool) → (a || (b || c)) ≡ (b || (a || c))
    behind true true c = refl
    behind true false c = refl
    behind false b c = refl

    both : (k : ℕ) → walks k first p q (v ∷ s) ≡ true → begins v p ≡ true → begins v q ≡ true
        → (nat_eq u v || set_of s u) ≡ (set_of p u || set_of q u)
    both zero e f g = absurd (true≢false (sym e ∙ walks-both_none first p q v s f g))
    both (suc k) e f g =
        ap (λ t. nat_eq u v || t) (rest k (not first) (after_first p) (after_first q) (sym (walks-both k first p q v s f g) ∙ e))
        ∙ share (nat_eq u v) (set_of (after_first p) u) (set_of (after_first q) u)
        ∙ sym (λ i. begins-set v p f u i || begins-set v q g u i)

    by : (x y : Bool) → begins v p ≡ x → begins v q ≡ y → (nat_eq u v || set_of s u) ≡ (set_of p u || set_of q u)
    by true true f g = both k e f g
    by true false f g =
        let onward : (first ≡ true) × (walks k first (after_first p) q s ≡ true) =
        and_parts first (walks k first (after_first p) q s) (sym (walks-first k first p q v s f g) ∙ e) in
        ap (λ t. nat_eq u v || t) (rest k first (after_first p) q onward.1)
        ∙ front (nat_eq u v) (set_of (after_first p) u) (set_of q u)
        ∙ ap (λ t. t || set_of q u) (sym (begins-set v p f u))
    by false y f g =
        let here : (begins v q ≡ true) × ((not first && walks k first p (after_first q) s) ≡ true) =
        and_parts (begins v q) (not first && walks k first p (after_first q) s) (sym (walks-second k first p q v s f) ∙ e) in
        let onward : (not first ≡ true) × (walks k first p (after_first q) s ≡ true) =
        and_parts (not first) (walks k first p (after_first q) s) here.1 in
        ap (λ t. nat_eq u v || t) (rest k first p (after_first q) onward.1)
        ∙ behind (nat_eq u v) (set_of p u) (set_of (after_first q) u)
        ∙ ap (λ t. set_of p u || t) (sym (begins-set v q here.0 u))

-- where the walk passes, s has the vertices of p and q
pub walks-union : (k : ℕ) (first : Bool) (p q s : List ℕ) → walks k first p q s ≡ true → (u : ℕ) → set_of s u ≡ (set_of p u || set_of q u)
walks-union zero first p q [] e u =
    let ends : (same_list [] p ≡ true) × (same_list [] q ≡ true) = and_parts (same_list [] p) (same_list [] q) e in
    sym (λ i. empty-set p ends.0 u i || empty-set q ends.1 u i)
walks-union (suc k) first p q [] e u = absurd (true≢false (sym e))
walks-union k first p q (v ∷ s) e u = walks-union_more k first p q v s e u (λ k' side p' q' h. walks-union k' side p' q' s h u)

-- of all ascending lists, the walk can pass along the union alone
pub walks-at_union : (k : ℕ) (first : Bool) (p q u s : List ℕ) → IsStrictlyIncreasing u → IsStrictlyIncreasing s
    → ((v : ℕ) → set_of u v ≡ (set_of p v || set_of q v))
    → walks k first p q s ≡ (same_list s u && walks k first p q u)
walks-at_union k first p q u s up vp union = by (same_list s u) refl
  where
    same : walks k first p q s ≡ true → s ≡ u
    same e = same_ascending s u vp up (same_members (set_of s) (set_of u) (λ v. walks-union k first p q s e v ∙ sym (union v)))

    by : (b : Bool) → same_list s u ≡ b → walks k first p q s ≡ (b && walks k first p q u)
    by true e = ap (walks k first p q) (same_list-true s u e)
    by false e = false_from_ne_true (walks k first p q s) (λ passes. true≢false (sym (same_list-same s u (same passes)) ∙ e))
