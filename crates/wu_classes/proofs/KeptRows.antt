-- Rows and values by kept cocycles. K is a complex.
--     row-kept           the values of the cocycles of the complementary degree at a cap product are the row of a class
--     top-kept           the values of cocycles of the greatest degree
--     points-pair        the pairing of a class of degree 0 by the first vertices
--     points-row         so its row
--     cocycle-within     the simplices of a canonical cocycle
--     entries-more       a row with one entry more
use Rattle.std.proofs.Common.{◌≡◌, ℕ, ◌-◌, ◌<◌, Bool, true, false, ◌+◌, ◌≤◌, ◌&&◌, ◌||◌, List, [], ◌∷◌, length, nat_eq, take, refl, sym, ap, ◌∙◌, subst, arith, ⊎_elim}
use Rattle.std.specs.List.{All}
use Rattle.std.specs.List.Sorted.{IsStrictlyIncreasing}
use Rattle.std.proofs.lemmas.Bool.{cases_eq}
use Rattle.std.proofs.lemmas.List.FromFn.{fill_by_all}
use Rattle.homology.specs.Sets.{Ids, set_of, evaluate}
use Rattle.homology.specs.ListSums.{odd_over}
use Rattle.homology.specs.Complexes.{Complex, IsComplex, simplex_at}
use Rattle.homology.specs.Chains.{IsChain}
use Rattle.homology.specs.Kinds.{betti, ids}
use Rattle.homology.proofs.ParityLaws.{and-false, and-true, nat_eq-apart, nat_eq-self, odd-same}
use Rattle.homology.proofs.KindLaws.{set_of-ids, set_of-ids_holds}
use Rattle.homology.proofs.ListSetLaws.{set_of-All}
use Rattle.products.specs.Products.{cup, value_at}
use Rattle.products.specs.Caps.{cap}
use Rattle.products.proofs.CapLaws.{cup-zero, evaluate-cap}
use Rattle.products.proofs.ValueLaws.{value_at-there}
use Rattle.manifolds.specs.Closed.{top}
use Rattle.cohomology_operations.specs.Squares.{square}
use Rattle.cohomology_operations.proofs.SquareLaws.{square-zero}
use Rattle.class_solver.proofs.ClassSums.{own-chain}
use Rattle.characteristic_classes.specs.Pairings.{cocycle, on_top, pair, row}
use Rattle.characteristic_classes.proofs.TopLaws.{odd_over-value, on_top-value}
use Rattle.elimination.specs.Rows.{entry}

pub row-kept : (K : Complex) → IsComplex K → (p j : ℕ) (z : List ℕ) (r : List Bool) → j < betti K p
    → set_of z ≡ cap K p (cocycle K p (j ∷ [])) (set_of (ids K (top K))) → IsStrictlyIncreasing z → All (λ t. t < length K) z
    → length r ≡ betti K (top K - p) → ((k : ℕ) → k < betti K (top K - p) → entry r k ≡ odd_over z (cocycle K (top K - p) (k ∷ []))) → r ≡ row K p j
row-kept K ok p j z r lt is up within wide read =
    fill_by_all (λ k. pair K p (j ∷ []) (k ∷ [])) r (betti K (top K - p)) false wide (λ k below.
    let a = cocycle K p (j ∷ []) in
    let b = cocycle K (top K - p) (k ∷ []) in
    read k below
    ∙ odd_over-value (length K) z b up within
    ∙ ap (evaluate (length K) b) is
    ∙ evaluate-cap K ok p a (own-chain K ok p j lt) b (set_of (ids K (top K)))
    ∙ sym (on_top-value K (cup K 0 a b)))

pub top-kept : (K : Complex) → IsComplex K → (n : ℕ) → top K ≡ n → (w : List ℕ) → set_of w ≡ set_of (ids K n) → IsStrictlyIncreasing w → (l : ℕ) → l < betti K n
    → odd_over w (cocycle K n (l ∷ [])) ≡ on_top K (square K 0 n (cocycle K n (l ∷ [])))
top-kept K ok n top_is w is up l lt =
    odd_over-value (length K) w a up (set_of-All (λ t. t < length K) w (λ t m. (set_of-ids K n t (sym (ap (λ z. z t) is) ∙ m)).0))
    ∙ ap (evaluate (length K) a) (is ∙ ap (λ m. set_of (ids K m)) (sym top_is))
    ∙ sym (on_top-value K a)
    ∙ ap (on_top K) (sym (square-zero K ok n a (own-chain K ok n l lt)))
  where
    a : Ids
    a = cocycle K n (l ∷ [])

pub points-pair : (K : Complex) → IsComplex K → (n : ℕ) → top K ≡ n → (j k : ℕ) → j < betti K 0 → k < betti K n → (a b : List ℕ)
    → set_of a ≡ cocycle K 0 (j ∷ []) → set_of b ≡ cocycle K n (k ∷ []) → IsStrictlyIncreasing b
    → odd_over b (λ x. value_at K (set_of a) (take 1 (simplex_at K x))) ≡ pair K 0 (j ∷ []) (k ∷ [])
points-pair K ok n top_is j k lj lk a b is_a is_b up =
    ap (λ z. odd_over b (λ x. value_at K z (take 1 (simplex_at K x)))) is_a
    ∙ odd_over-value (length K) b F up (set_of-All (λ t. t < length K) b (λ t m. C.there t (sym (ap (λ z. z t) b_is) ∙ m)))
    ∙ ap (evaluate (length K) F) b_is
    ∙ odd-same (length K) (λ t. F t && B t) (λ t. cup K 0 A B t && M t) (λ t lt. at t lt (B t) refl)
    ∙ sym (on_top-value K (cup K 0 A B))
  where
    A : Ids
    A = cocycle K 0 (j ∷ [])

    B : Ids
    B = cocycle K (top K - 0) (k ∷ [])

    M : Ids
    M = set_of (ids K (top K))

    F : Ids
    F x = value_at K A (take 1 (simplex_at K x))

    degree : n ≡ top K - 0
    degree = omega (arith, top_is)

    b_is : set_of b ≡ B
    b_is = is_b ∙ ap (λ m. cocycle K m (k ∷ [])) degree

    C : IsChain K (top K - 0) B
    C = own-chain K ok (top K - 0) k (omega (arith, lk, ap (betti K) degree))

    product : (t : ℕ) → t < length K → cup K 0 A B t ≡ (F t && B t)
    product t lt = cup-zero K ok 0 A (own-chain K ok 0 j lj) B t ∙ ap (λ z. F t && z) (value_at-there K ok B t lt)

    at : (t : ℕ) → t < length K → (c : Bool) → B t ≡ c → (F t && B t) ≡ (cup K 0 A B t && M t)
    at t lt true e =
        sym (product t lt)
        ∙ sym (and-true (cup K 0 A B t))
        ∙ ap (λ z. cup K 0 A B t && z) (sym (set_of-ids_holds K (top K) t lt (omega (arith, C.degree t e))))
    at t lt false e =
        let none : (F t && B t) ≡ false = ap (λ z. F t && z) e ∙ and-false (F t) in
        none ∙ ap (λ z. z && M t) (sym (product t lt ∙ none))

pub points-row : (K : Complex) (n : ℕ) → top K ≡ n → (j : ℕ) (r : List Bool) → length r ≡ betti K n
    → ((k : ℕ) → k < betti K n → entry r k ≡ pair K 0 (j ∷ []) (k ∷ [])) → r ≡ row K 0 j
points-row K n top_is j r wide read =
    let width : betti K n ≡ betti K (top K - 0) = ap (betti K) (omega (arith, top_is)) in
    fill_by_all (λ k. pair K 0 (j ∷ []) (k ∷ [])) r (betti K (top K - 0)) false (wide ∙ width) (λ k below. read k (omega (arith, below, width)))

pub cocycle-within : (K : Complex) → IsComplex K → (n k : ℕ) → k < betti K n → (seen : Complex) → seen ≡ K → (b xs : List ℕ) → set_of b ≡ cocycle K n (k ∷ []) → xs ≡ b
    → All (λ x. x < length seen) xs × All (λ x. length (simplex_at seen x) ≡ n + 1) xs
cocycle-within K ok n k lt seen same b xs is listed = (
  subst (λ (L : Complex). All (λ x. x < length L) xs) (sym same) (set_of-All (λ x. x < length K) xs (λ t m. C.there t (member t m))),
  subst (λ (L : Complex). All (λ x. length (simplex_at L x) ≡ n + 1) xs) (sym same)
      (set_of-All (λ x. length (simplex_at K x) ≡ n + 1) xs (λ t m.
      omega (arith, C.degree t (member t m), (ok.simplices t (C.there t (member t m))).nonempty))),
)
  where
    C : IsChain K n (cocycle K n (k ∷ []))
    C = own-chain K ok n k lt

    member : (t : ℕ) → set_of xs t ≡ true → cocycle K n (k ∷ []) t ≡ true
    member t m = sym (ap (λ l. set_of l t) listed ∙ ap (λ z. z t) is) ∙ m

pub record MoreEntries (P : ℕ → Bool) (r : List Bool) (k : ℕ) : Type 0 where
  pub done : (i : ℕ) → i < k → entry r i ≡ P i
  pub rest : (i : ℕ) → k ≤ i → entry r i ≡ false

pub entries-more : (P : ℕ → Bool) (old new : List Bool) (k : ℕ) → MoreEntries P old k → ((q : ℕ) → entry new q ≡ ((P k && nat_eq q k) || entry old q))
    → MoreEntries P new (k + 1)
entries-more P old new k M is = record {
  done = λ i lt. ⊎_elim
      (λ (same : i ≡ k).
      is i
      ∙ (λ s. (P k && nat_eq (same s) k) || entry old i)
      ∙ (λ s. (P k && nat_eq-self k s) || M.rest i (omega (arith, same)) s)
      ∙ alone (P k)
      ∙ ap P (sym same))
      (λ (other : i ≡ k → ⊥). apart i other ∙ M.done i (omega (arith, lt, other)))
      (cases_eq i k);
  rest = λ i le. apart i (λ e. omega (arith, le, e)) ∙ M.rest i (omega (arith, le));
}
  where
    alone : (b : Bool) → ((b && true) || false) ≡ b
    alone true = refl
    alone false = refl

    apart : (i : ℕ) → (i ≡ k → ⊥) → entry new i ≡ entry old i
    apart i other = is i ∙ (λ s. (P k && nat_eq-apart i k other s) || entry old i) ∙ ap (λ b. b || entry old i) (and-false (P k))
