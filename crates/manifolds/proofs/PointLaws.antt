-- The Betti numbers of points alone.
--     no-boundary       no chain has a boundary
--     point-essential   so each point is essential
--     points-betti      and their number is the one Betti number
use Rattle.std.proofs.Common.{◌≡◌, ℕ, zero, suc, ◌+◌, ◌-◌, ◌<◌, ◌≤◌, max, Bool, true, false, cond, not, [], ◌∷◌, map, length, nat_eq, refl, sym, ap, ◌∙◌, arith, eqb-true}
use Rattle.std.specs.Prelude.{count_by}
use Rattle.std.specs.List.{filter, fold, list_all, range_with_len}
use Rattle.std.proofs.lemmas.Bool.{true≢false, and_parts, and_from, false_from_ne_true}
use Rattle.std.proofs.lemmas.List.Sums.{sum_by-cons}
use Rattle.homology.specs.Sets.{Ids, empty, single}
use Rattle.homology.specs.Complexes.{Complex, IsComplex, dim, dimensions, simplex_at}
use Rattle.homology.specs.Chains.{boundary, boundary_of}
use Rattle.homology.specs.Kinds.{betti, is_positive, is_bounding, is_essential}
use Rattle.homology.proofs.ParityLaws.{nat_eq-self}
use Rattle.homology.proofs.SetLaws.{same_members, image-source}
use Rattle.homology.proofs.BoundaryLaws.{boundary_of-vertex}
use Rattle.homology.proofs.KindLaws.{is_positive-holds, is_bounding-true}

-- whether there are points alone
abbrev pub are_points : Complex → Bool
are_points L = list_all (λ s. nat_eq (length s) 1) L

point-at : (L : Complex) → are_points L ≡ true → (t : ℕ) → t < length L → length (simplex_at L t) ≡ 1
point-at [] e t h = absurd (omega (arith, h))
point-at (s ∷ L) e zero h = eqb-true (length s) 1 (and_parts (nat_eq (length s) 1) (are_points L) e).0
point-at (s ∷ L) e (suc t) h = point-at L (and_parts (nat_eq (length s) 1) (are_points L) e).1 t (omega (arith, h))

pub no-boundary : (L : Complex) → IsComplex L → are_points L ≡ true → (c : Ids) → boundary L c ≡ empty
no-boundary L ok e c = same_members (boundary L c) empty (λ q. false_from_ne_true (boundary L c q) (λ m.
    let s = image-source (length L) (boundary_of L) c q m in
    true≢false (sym s.gives ∙ ap (λ z. z q) (boundary_of-vertex L ok s.at s.below (omega (arith, point-at L e s.at s.below))))))

pub point-essential : (L : Complex) → IsComplex L → are_points L ≡ true → (t : ℕ) → t < length L → is_essential L t ≡ true
point-essential L ok e t h = and_from (is_positive L t) (not (is_bounding L t)) positive (ap not bounding)
  where
    same : (q : ℕ) → single t q ≡ true → q ≡ t
    same q m = eqb-true q t m

    positive : is_positive L t ≡ true
    positive = is_positive-holds L ok t (record {
      cycle = single t;
      is_cycle = record {
        chain = record { there = λ q m. omega (arith, same q m, h); degree = λ q m. ap (dim L) (same q m) };
        closed = no-boundary L ok e (single t);
      };
      latest = record { member = nat_eq-self t; greatest = λ q m. omega (arith, same q m) };
    })

    bounding : is_bounding L t ≡ false
    bounding = false_from_ne_true (is_bounding L t) (λ m.
        let b = (is_bounding-true L ok t m).0 in
        true≢false (sym b.latest.member ∙ ap (λ z. z t) (b.is_boundary.is ∙ no-boundary L ok e b.is_boundary.filling)))

-- all of a run of numbers count
count-all : (test in_run : ℕ → Bool) (n a : ℕ) → ((t : ℕ) → a ≤ t → t < a + n → in_run t ≡ true) → ((t : ℕ) → a ≤ t → t < a + n → test t ≡ true)
    → count_by test (filter in_run (range_with_len a n)) ≡ n
count-all test in_run zero a all pass = refl
count-all test in_run (suc n) a all pass =
    ap (λ b. count_by test (cond b (a ∷ filter in_run (range_with_len (a + 1) n)) (filter in_run (range_with_len (a + 1) n)))) (all a (omega arith) (omega arith))
    ∙ sum_by-cons (λ y. cond (test y) 1 0) a (filter in_run (range_with_len (a + 1) n))
    ∙ omega (arith, one, count-all test in_run n (a + 1) (λ t le lt. all t (omega (arith, le)) (omega (arith, lt))) (λ t le lt. pass t (omega (arith, le)) (omega (arith, lt))))
  where
    one : ◌≡◌ {A = ℕ} (cond (test a) 1 0) 1
    one = ap (λ b. cond b 1 0) (pass a (omega arith) (omega arith))

-- points have one dimension
dimension-more : (L : Complex) → are_points L ≡ true → fold (λ n s. max n (length s)) 1 L ≡ 1
dimension-more [] e = refl
dimension-more (s ∷ L) e =
    let both = and_parts (nat_eq (length s) 1) (are_points L) e in
    ap (λ m. fold (λ n u. max n (length u)) (max 1 m) L) (eqb-true (length s) 1 both.0) ∙ dimension-more L both.1

dimension-one : (L : Complex) → are_points L ≡ true → 0 < length L → dimensions L ≡ 1
dimension-one [] e h = absurd (omega (arith, h))
dimension-one (s ∷ L) e h =
    let both = and_parts (nat_eq (length s) 1) (are_points L) e in
    ap (λ m. fold (λ n u. max n (length u)) (max 0 m) L) (eqb-true (length s) 1 both.0) ∙ dimension-more L both.1

pub points-betti : (L : Complex) → IsComplex L → are_points L ≡ true → 0 < length L → map (betti L) (range_with_len 0 (dimensions L)) ≡ length L ∷ []
points-betti L ok e h =
    ap (λ d. map (betti L) (range_with_len 0 d)) (dimension-one L e h)
    ∙ ap (λ n. n ∷ []) (count-all (is_essential L) (λ t. nat_eq (dim L t) 0) (length L) 0
    (λ t le lt. ap (λ m. nat_eq (m - 1) 0) (point-at L e t (omega (arith, lt))))
    (λ t le lt. point-essential L ok e t (omega (arith, lt))))
