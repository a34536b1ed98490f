-- What is told of a closed complex without degenerate classes, and of others.
--     dual-told                       where there is no fault
--     dual-not_closed, dual-degenerate, dual-refuses     the faults, which all calls tell alike
use Rattle.std.proofs.Common.{◌≡◌, ℕ, Bool, true, false, cond, List, nat_eq, map, Option, Some, None, refl, ap, ◌∙◌, eq-eqb}
use Rattle.std.specs.Prelude.{Result, Ok, Err}
use Rattle.std.specs.List.{range_with_len, sum}
use Rattle.homology.specs.Complexes.{Complex, dimensions}
use Rattle.homology.proofs.ParityLaws.{nat_eq-apart}
use Rattle.manifolds.specs.Closed.{NotClosed, closed, top}
use Rattle.characteristic_classes.specs.Pairings.{NotDual, Unclosed, Degenerate, on_top, pairings, first_degenerate, of_closed, where_dual, dual, duality}
use Rattle.characteristic_classes.specs.WuClasses.{NoClasses, Sum, wu_class, wu, whitney_class, stiefel_whitney, product, number_of, stiefel_whitney_number}

pub dual-told : {A : Type 0} (K : Complex) (n : ℕ) (a : A) → closed K ≡ Ok n → first_degenerate K ≡ None → where_dual K a ≡ Ok a
dual-told K n a shut free = λ i. of_closed (shut i) (free i) a

pub dual-not_closed : {A : Type 0} (K : Complex) (why : NotClosed) (a : A) → closed K ≡ Err why → where_dual K a ≡ Err (Unclosed why)
dual-not_closed K why a open_one = ap (λ c. of_closed c (first_degenerate K) a) open_one

pub dual-degenerate : {A : Type 0} (K : Complex) (n p : ℕ) (w : List ℕ) (a : A) → closed K ≡ Ok n → first_degenerate K ≡ Some (p, w)
    → where_dual K a ≡ Err (Degenerate p w)
dual-degenerate K n p w a shut some = λ i. of_closed (shut i) (some i) a

-- a fault that is told of one value is told of each
pub dual-refuses : {A B : Type 0} (K : Complex) (why : NotDual) (a : A) (b : B) → where_dual K a ≡ Err why → where_dual K b ≡ Err why
dual-refuses {A} {B} K why a b e = by (closed K) (first_degenerate K) e
  where
    by : (c : Result ℕ NotClosed) (d : Option (ℕ × List ℕ)) → of_closed c d a ≡ Err why → of_closed c d b ≡ Err why
    by (Err w) d e = let same : Unclosed w ≡ why = cc in ap Err same
    by (Ok n) None e = absurd (cc)
    by (Ok n) (Some (p, w)) e = let same : Degenerate p w ≡ why = cc in ap Err same

pub duality-is : (K : Complex) → duality K ≡ where_dual K (pairings K)
unfolding duality
duality-is K = refl

pub wu-is : (K : Complex) → wu K ≡ where_dual K (map (λ k. (k, wu_class K k)) (range_with_len 0 (dimensions K)))
unfolding wu
wu-is K = refl

pub whitney-is : (K : Complex) → stiefel_whitney K ≡ where_dual K (map (λ k. (k, whitney_class K k)) (range_with_len 0 (dimensions K)))
unfolding stiefel_whitney
whitney-is K = refl

pub number-is : (K : Complex) (parts : List ℕ) → stiefel_whitney_number K parts ≡ number_of K parts (dual K)
unfolding stiefel_whitney_number
number-is K parts = refl

-- where there is no fault
module _ (K : Complex) (n : ℕ) (shut : closed K ≡ Ok n) (free : first_degenerate K ≡ None) where
  pub duality-told : duality K ≡ Ok (pairings K)
  duality-told = duality-is K ∙ dual-told K n (pairings K) shut free

  pub wu-told : wu K ≡ Ok (map (λ k. (k, wu_class K k)) (range_with_len 0 (dimensions K)))
  wu-told = wu-is K ∙ dual-told K n (map (λ k. (k, wu_class K k)) (range_with_len 0 (dimensions K))) shut free

  pub whitney-told : stiefel_whitney K ≡ Ok (map (λ k. (k, whitney_class K k)) (range_with_len 0 (dimensions K)))
  whitney-told = whitney-is K ∙ dual-told K n (map (λ k. (k, whitney_class K k)) (range_with_len 0 (dimensions K))) shut free

  number-tests : (parts : List ℕ) (b : Bool) → nat_eq (sum parts) (top K) ≡ b
      → stiefel_whitney_number K parts ≡ cond b (Ok (on_top K (product K parts))) (Err (Sum (sum parts) (top K)))
  number-tests parts b e =
      number-is K parts
      ∙ ap (number_of K parts) (dual-told {A = Unit {0}} K n tt shut free)
      ∙ ap (λ c. cond c (Ok (on_top K (product K parts))) (Err (Sum (sum parts) (top K)))) e

  pub number-told : (parts : List ℕ) → sum parts ≡ top K → stiefel_whitney_number K parts ≡ Ok (on_top K (product K parts))
  number-told parts e = number-tests parts true (eq-eqb (sum parts) (top K) e)

  pub number-off : (parts : List ℕ) → (sum parts ≡ top K → ⊥) → stiefel_whitney_number K parts ≡ Err (Sum (sum parts) (top K))
  number-off parts other = number-tests parts false (nat_eq-apart (sum parts) (top K) other)

-- where there is one
module _ (K : Complex) (why : NotDual) (fault : dual K ≡ Err why) where
  pub duality-refuses : duality K ≡ Err why
  duality-refuses = duality-is K ∙ dual-refuses {A = Unit {0}} K why tt (pairings K) fault

  pub wu-refuses : wu K ≡ Err why
  wu-refuses = wu-is K ∙ dual-refuses {A = Unit {0}} K why tt (map (λ k. (k, wu_class K k)) (range_with_len 0 (dimensions K))) fault

  pub whitney-refuses : stiefel_whitney K ≡ Err why
  whitney-refuses = whitney-is K ∙ dual-refuses {A = Unit {0}} K why tt (map (λ k. (k, whitney_class K k)) (range_with_len 0 (dimensions K))) fault

  pub number-refuses : (parts : List ℕ) → stiefel_whitney_number K parts ≡ Err (NoClasses why)
  number-refuses parts = number-is K parts ∙ ap (number_of K parts) fault
