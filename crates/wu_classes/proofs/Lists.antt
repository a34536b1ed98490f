-- Lists that grow with a loop.
--     map-more           a list of values, with one more
--     pairings-more      pairings, with one more
--     square-rows        a pairing has as many rows as entries
--     essentials-le      the essential simplices are no more than all
--     ids-chain          all simplices of a dimension are a chain
--     sum-range          a sum over the numbers below n, with one more
--     square-past        the value of Sq^k above the degree
--     product-more, sum-more     a product and a sum of degrees, with one more in front
use Rattle.std.proofs.Common.{◌≡◌, ℕ, ◌+◌, ◌-◌, ◌<◌, ◌≤◌, List, [], ◌∷◌, ◌++◌, map, length, drop, refl, sym, ap, ◌∙◌, subst, arith, ⊎_elim, zero-add, length-append, length-drop, get_or, add-one, false}
use Rattle.std.specs.Prelude.{slice_index, slice_index_or, sum}
use Rattle.std.specs.List.{range_with_len}
use Rattle.std.proofs.Math.Seq.{drop-cons}
use Rattle.std.proofs.lemmas.Bool.{cases_lt}
use Rattle.std.proofs.lemmas.List.{map-append, get_or_append_left, get_or-append-add, length-map}
use Rattle.std.proofs.lemmas.List.Elements.{All-filter}
use Rattle.std.proofs.lemmas.List.FromFn.{map-range_with_len_more, length-range_with_len}
use Rattle.std.proofs.lemmas.List.Sums.{sum_by-drop_more}
use Rattle.homology.specs.Sets.{Ids, plus, set_of}
use Rattle.homology.specs.ListSums.{sum_over}
use Rattle.homology.specs.Complexes.{Complex}
use Rattle.homology.specs.Chains.{IsChain}
use Rattle.homology.specs.Kinds.{betti, ids, is_essential}
use Rattle.homology.proofs.KindLaws.{set_of-ids}
use Rattle.homology.proofs.ListSetLaws.{length-ascending-le}
use Rattle.homology.proofs.ListSumLaws.{sum_over-push}
use Rattle.cohomology.specs.Classes.{essentials}
use Rattle.cohomology.proofs.Naming.{essentials-ascending}
use Rattle.products.specs.Products.{cup}
use Rattle.manifolds.specs.Closed.{top}
use Rattle.cohomology_operations.specs.Squares.{square}
use Rattle.cohomology_operations.proofs.SquareLaws.{square-beyond}
use Rattle.characteristic_classes.specs.Pairings.{cocycle, on_top, pairing, row}
use Rattle.characteristic_classes.specs.WuClasses.{product, whitney_class}
use Rattle.characteristic_classes.proofs.TopLaws.{ids-below, on_top-empty}
use Rattle.elimination.specs.Rows.{Given}
use Rattle.elimination.proofs.BitLaws.{range-more}
use Rattle.wu_classes.specs.Duals.{IsPairing}

pub map-more : {A B : Type 0} (f : A → B) (g : ℕ → B) (xs ys : List A) (x : A) (n : ℕ) → ys ≡ xs ++ x ∷ [] → map f xs ≡ map g (range_with_len 0 n) → f x ≡ g n
    → map f ys ≡ map g (range_with_len 0 (n + 1))
map-more f g xs ys x n is so_far own =
    ap (map f) is ∙ map-append f xs (x ∷ []) ∙ (λ i. so_far i ++ own i ∷ []) ∙ sym (map-range_with_len_more g 0 n n (zero-add n))

-- one pairing more
pub pairings-more : (K : Complex) (xs ys : List Given) (x : Given) (p : ℕ) → ys ≡ xs ++ x ∷ [] → length xs ≡ p
    → ((q : ℕ) (g : Given) → q < p → IsPairing K q (slice_index_or xs q g)) → IsPairing K p x
    → (q : ℕ) (g : Given) → q < p + 1 → IsPairing K q (slice_index_or ys q g)
pairings-more K xs ys x p is count each own q g lt = subst (λ l. IsPairing K q (slice_index_or l q g)) (sym is) (⊎_elim
    (λ (before : q < p). subst (IsPairing K q) (sym (get_or_append_left xs (x ∷ []) g q (omega (arith, before, count)))) (each q g before))
    (λ (le : p ≤ q).
    let same : q ≡ length xs + 0 = omega (arith, le, lt, count) in
    let here : slice_index_or (xs ++ x ∷ []) q g ≡ x = ap (λ k. get_or (xs ++ x ∷ []) k g) same ∙ get_or-append-add xs (x ∷ []) 0 g in
    let degree : p ≡ q = omega (arith, le, lt) in
    subst (IsPairing K q) (sym here) (subst (λ k. IsPairing K k x) degree own))
    (cases_lt q p))

pub count-more : (xs ys : List Given) (x : Given) (p : ℕ) → ys ≡ xs ++ x ∷ [] → length xs ≡ p → length ys ≡ p + 1
count-more xs ys x p is count = ap length is ∙ length-append xs (x ∷ []) ∙ ap (λ k. k + 1) count

pub pairing-count : (K : Complex) (p : ℕ) → length (pairing K p) ≡ betti K p
pairing-count K p = length-map (range_with_len 0 (betti K p)) (row K p) ∙ length-range_with_len 0 (betti K p)

pub square-rows : (K : Complex) (k : ℕ) (g h : Given) → k ≤ top K → IsPairing K k g → IsPairing K (top K - k) h → length g.rows ≡ g.width
square-rows K k g h le P Q =
    let turned : top K - (top K - k) ≡ k = omega (arith, le) in
    omega (arith, ap length P.rows, pairing-count K k, P.width, P.few, Q.few, ap (betti K) turned)

pub essentials-le : (K : Complex) (q : ℕ) → length (essentials K q) ≤ length K
essentials-le K q =
    length-ascending-le (length K) (essentials K q) (essentials-ascending K q) (All-filter (is_essential K) (λ t. t < length K) (ids K q) (ids-below K q))

pub ids-chain : (K : Complex) (n : ℕ) → IsChain K n (set_of (ids K n))
ids-chain K n = record { there = λ t m. (set_of-ids K n t m).0; degree = λ t m. (set_of-ids K n t m).1 }

pub sum-range : (n : ℕ) (φ : ℕ → Ids) → sum_over (range_with_len 0 (n + 1)) φ ≡ plus (sum_over (range_with_len 0 n) φ) (φ n)
sum-range n φ =
    ap (λ l. sum_over l φ) (range-more 0 n ∙ ap (λ k. range_with_len 0 n ++ k ∷ []) (zero-add n)) ∙ sum_over-push (range_with_len 0 n) n φ

abbrev factor : Complex → ℕ → Ids
factor K k = cocycle K k (whitney_class K k)

product-front : (K : Complex) (k : ℕ) (ys : List ℕ) → 0 < length ys → product K (k ∷ ys) ≡ cup K 0 (factor K k) (product K ys)
product-front K k [] some = absurd (omega (arith, some))
product-front K k (j ∷ ys) some = refl

drop-front : (xs : List ℕ) (i k : ℕ) → k ≡ i + 1 → i < length xs → drop i xs ≡ slice_index xs i ∷ drop k xs
drop-front xs i k e lt = drop-cons xs i 0 lt ∙ ap (λ m. slice_index xs i ∷ drop m xs) (sym (add-one i) ∙ sym e)

pub product-more : (K : Complex) (xs : List ℕ) (i k : ℕ) → k ≡ i + 1 → k < length xs
    → product K (drop i xs) ≡ cup K 0 (factor K (slice_index xs i)) (product K (drop k xs))
product-more K xs i k e lt =
    ap (product K) (drop-front xs i k e (omega (arith, e, lt)))
    ∙ product-front K (slice_index xs i) (drop k xs) (omega (arith, length-drop k xs, lt))

pub sum-more : (xs : List ℕ) (i k : ℕ) → k ≡ i + 1 → k < length xs → sum (drop i xs) ≡ slice_index xs i + sum (drop k xs)
sum-more xs i k e lt = sum_by-drop_more (λ x. x) xs i 0 (omega (arith, e, lt)) ∙ ap (λ m. slice_index xs i + sum (drop m xs)) (sym e)

-- Sq^k above the degree has the value 0
pub square-past : (K : Complex) (k p : ℕ) (a : Ids) → p < k → on_top K (square K k p a) ≡ false
square-past K k p a lt = ap (on_top K) (square-beyond K k p a lt) ∙ on_top-empty K
