-- What is kept of a complex. K is a complex, p a degree.
--     none-more                one more place without anything
--     kept-more, kept-set      one more degree of which nothing is kept; another one at its place
--     sum-none, sum-row        no cocycles, and one cocycle more
--     if-some                  what follows for a result that is there
--     kept-cocycle             a cocycle that is there is that of its class
--     kept-sum, kept-stands    the sum of kept cocycles
use Rattle.std.proofs.Common.{get_or-set_other, ◌≡◌, ◌≢◌, ℕ, zero, suc, ◌+◌, ◌<◌, List, [], ◌∷◌, ◌++◌, length, take, Option, None, Some, Ok, refl, sym, ap, ◌∙◌, subst, ⊎_elim, arith}
use Rattle.std.specs.Prelude.{slice_index, slice_index_or, slice_set, IfSome}
use Rattle.std.specs.List.{All}
use Rattle.std.proofs.lemmas.Bool.{cases_eq}
use Rattle.std.proofs.lemmas.Grind.{get_or-set_at}
use Rattle.std.proofs.lemmas.List.Elements.{All-more}
use Rattle.homology.specs.Sets.{Ids, plus, set_of}
use Rattle.homology.specs.ListSums.{sum_over}
use Rattle.homology.specs.Complexes.{Complex, IsComplex}
use Rattle.homology.specs.Chains.{IsChain}
use Rattle.homology.specs.Kinds.{betti}
use Rattle.homology.proofs.ListSumLaws.{sum_over-take_more}
use Rattle.cochain_values.specs.Cochains.{Graded, StandsOn}
use Rattle.class_cache.specs.Kept.{AreKept, AreRows, IsKept, IsSumOfClasses, IsSumOfRows, own}
use Rattle.class_solver.specs.Refusals.{IsTestedCocycle}
use Rattle.class_cache.specs.declared.kept.Kept.{Kept}
use Rattle.class_solver.proofs.TestedCocycles.{tested-cocycle}
use Rattle.class_solver.proofs.Listed.{numbered-all}
use Rattle.class_solver.proofs.ClassSums.{cocycle-closed}

-- one more place without anything
pub none-more : {A : Type 0} (rows : List (Option A)) (j : ℕ) → slice_index_or (rows ++ None ∷ []) j None ≡ slice_index_or rows j None
none-more [] zero = refl
none-more [] (suc j) = refl
none-more (r ∷ rows) zero = refl
none-more (r ∷ rows) (suc j) = none-more rows j

pub kept-more : (K : Complex) (ks : List (Option Kept)) → AreKept K ks → AreKept K (ks ++ None ∷ [])
kept-more K ks A d =
    let P : Option Kept → Type 0 = λ o. IfSome o (λ k. (k.degree ≡ d) × IsKept K k) in
    subst P (sym (none-more ks d)) (A d)

pub kept-set : (K : Complex) (ks : List (Option Kept)) (p : ℕ) (o : Option Kept) → p < length ks → IfSome o (λ k. (k.degree ≡ p) × IsKept K k) → AreKept K ks
    → AreKept K (slice_set ks p o)
kept-set K ks p o lt is A d = ⊎_elim
    (λ (same : d ≡ p).
    let P : Option Kept → Type 0 = λ o. IfSome o (λ k. (k.degree ≡ d) × IsKept K k) in
    subst P (sym (get_or-set_at ks p d o None same lt)) (subst (λ (q : ℕ). IfSome o (λ k. (k.degree ≡ q) × IsKept K k)) (sym same) is))
    (λ (other : d ≢ p).
    let P : Option Kept → Type 0 = λ o. IfSome o (λ k. (k.degree ≡ d) × IsKept K k) in
    subst P (sym (get_or-set_other ks p d o None other)) (A d))
    (cases_eq d p)

-- a place with a cocycle is there
row-within : (rows : List (Option (List ℕ))) (k : ℕ) (c : List ℕ) → slice_index_or rows k None ≡ Some c → k < length rows
row-within [] k c e = absurd (cc)
row-within (r ∷ rows) zero c e = omega arith
row-within (r ∷ rows) (suc k) c e = omega (arith, row-within rows k c e)

row-is : (each : ℕ → Ids) (rows : List (Option (List ℕ))) (k : ℕ) (c : List ℕ) → slice_index_or rows k None ≡ Some c → AreRows each rows → set_of c ≡ each k
row-is each rows k c e R =
    let P : Option (List ℕ) → Type 0 = λ o. IfSome o (λ d. set_of d ≡ each k) in
    subst P e (R k)

pub if-some : {A : Type 0} (P Q : A → Type 0) (o : Option A) → ((x : A) → P x → Q x) → IfSome o P → IfSome o Q
if-some P Q None so is = tt
if-some P Q (Some x) so is = so x is

pub kept-cocycle : (K : Complex) (p n : ℕ) (k : Kept) (rows : List (Option (List ℕ))) (c : List ℕ) → k.degree ≡ p → IsKept K k → rows ≡ k.cocycles.items → n < length rows
    → slice_index_or rows n None ≡ Some c → (n < betti K p) × (set_of c ≡ own K p n)
kept-cocycle K p n k rows c d I same lt e = (
  omega (arith, lt, ap length same, I.count, ap (betti K) d),
  row-is (own K p) rows n c e (subst (AreRows (own K p)) (sym same) (subst (λ q. AreRows (own K q) k.cocycles.items) d I.cocycles)),
)

pub sum-none : (rows : List (Option (List ℕ))) (numbers c : List ℕ) → c ≡ [] → IsSumOfRows rows (take 0 numbers) c
sum-none rows numbers c e each R = (λ k d lt. absurd (omega (arith, lt)), ap set_of e)

pub sum-row : (rows : List (Option (List ℕ))) (numbers : List ℕ) (i k : ℕ) (c row d : List ℕ) → i < length numbers → k ≡ slice_index numbers i
    → slice_index_or rows k None ≡ Some row → set_of d ≡ plus (set_of c) (set_of row) → IsSumOfRows rows (take i numbers) c → IsSumOfRows rows (take (i + 1) numbers) d
sum-row rows numbers i k c row d lt here there sum S each R = (
  All-more (λ j. j < length rows) numbers i 0 lt (S each R).0 (omega (arith, here, row-within rows k row there)),
  sum
      ∙ (λ j. plus ((S each R).1 j) ((row-is each rows k row there R ∙ ap each here) j))
      ∙ sym (sum_over-take_more numbers i each lt),
)

-- of kept cocycles
pub kept-sum : (K : Complex) → IsComplex K → (p : ℕ) (k : Kept) (numbers c : List ℕ) (a : Graded) → IsKept K k → k.degree ≡ p → IsSumOfRows k.cocycles.items numbers c
    → a.degree ≡ p → a.ids ≡ c → StandsOn K a → IsSumOfClasses K p numbers a
kept-sum K ok p k numbers c a I d S e ids stands = record {
  degree = e;
  sum = numbered-all (betti K p) (own K p) numbers found.0 ∙ ap (λ z. Ok z) (sym found.1 ∙ ap set_of (sym ids));
  stands = stands;
  closed = subst (IsTestedCocycle K p) (sym found.1 ∙ ap set_of (sym ids)) (tested-cocycle K p _ (cocycle-closed K ok p numbers found.0));
}
  where
    found : All (λ j. j < betti K p) numbers × (set_of c ≡ sum_over numbers (own K p))
    found =
        let s = S (own K p) (subst (λ q. AreRows (own K q) k.cocycles.items) d I.cocycles) in
        (subst (λ n. All (λ j. j < n) numbers) (I.count ∙ ap (betti K) d) s.0, s.1)

-- the sum stands on the complex that is seen
pub kept-stands : (K K2 : Complex) → IsComplex K → (p : ℕ) (k : Kept) (numbers c : List ℕ) → IsKept K k → k.degree ≡ p → IsSumOfRows k.cocycles.items numbers c → K2 ≡ K → IsChain K2 p (set_of c)
kept-stands K K2 ok p k numbers c I d S same =
    let s = S (own K p) (subst (λ q. AreRows (own K q) k.cocycles.items) d I.cocycles) in
    let within : All (λ j. j < betti K p) numbers = subst (λ n. All (λ j. j < n) numbers) (I.count ∙ ap (betti K) d) s.0 in
    let P : Complex → Type 0 = λ x. IsChain x p (set_of c) in
    subst P (sym same) (subst (IsChain K p) (sym s.1) (cocycle-closed K ok p numbers within).cochain)
