-- What is wrong with a complex, whatever is asked of it.
--     dual-value         where nothing is wrong, the value
--     dual-open, dual-degenerate     what is wrong
--     closed-refuses     what is wrong with a complex that is not closed
--     dual-refuses, number-refuses     a refusal holds whatever is asked
--     duality-is, wu_list-is, whitney_list-is, number-is     what the definitions ask
use Rattle.std.proofs.Common.{◌≡◌, ℕ, List, map, cond, nat_eq, Option, Some, None, Result, Ok, Err, refl, sym, ap, ◌∙◌, subst, eq-eqb}
use Rattle.std.specs.Prelude.{sum, option_map, IfSome}
use Rattle.std.specs.List.{range_with_len}
use Rattle.homology.specs.Complexes.{Complex, dimensions}
use Rattle.homology.proofs.ParityLaws.{nat_eq-apart}
use Rattle.manifolds.specs.Closed.{NotClosed, closed, top}
use Rattle.characteristic_classes.specs.Pairings.{NotDual, Unclosed, Degenerate, dual, duality, first_degenerate, of_closed, on_top, pairings, where_dual}
use Rattle.characteristic_classes.specs.WuClasses.{NoClasses, Sum, wu as wu_list, wu_class, stiefel_whitney, whitney_class, number_of, product, stiefel_whitney_number}
use Rattle.manifold_links.specs.Refusals.{ClosedRefuses, closed_said}
use Rattle.manifold_links.specs.declared.refusal.ClosedRefusal.{ClosedRefusal}
use Rattle.wu_classes.specs.Refusals.{WuRefuses, NumberRefuses, wu_said}
use Rattle.wu_classes.specs.declared.refusal.WuRefusal.{WuRefusal}
use Rattle.wu_classes.specs.declared.refusal.WuRefusal.TheVariants as wu
use Rattle.wu_classes.specs.declared.refusal.NumberRefusal.TheVariants as number

pub dual-value : {A : Type 0} (K : Complex) (a : A) (n : ℕ) → closed K ≡ Ok n → first_degenerate K ≡ None → where_dual K a ≡ Ok a
dual-value K a n shut none = λ i. of_closed (shut i) (none i) a

pub dual-open : {A : Type 0} (K : Complex) (a : A) (why : NotClosed) → closed K ≡ Err why → where_dual K a ≡ Err (Unclosed why)
dual-open K a why open_at = λ i. of_closed (open_at i) (first_degenerate K) a

pub dual-degenerate : {A : Type 0} (K : Complex) (a : A) (n p : ℕ) (w : List ℕ) → closed K ≡ Ok n → first_degenerate K ≡ Some (p, w)
    → where_dual K a ≡ Err (Degenerate p w)
dual-degenerate K a n p w shut some = λ i. of_closed (shut i) (some i) a

-- what is said of one is said of the other
kept : {A B E F : Type 0} (said : E → F) (v : Result B E) (w : Result A F) → ((why : E) → v ≡ Err why → w ≡ Err (said why)) → (o : Option E)
    → IfSome o (λ why. v ≡ Err why) → IfSome (option_map said o) (λ why. w ≡ Err why)
kept said v w all None h = tt
kept said v w all (Some why) h = all why h

pub closed-refuses : (K : Complex) (r : ClosedRefusal) → ClosedRefuses (closed K) r → WuRefuses (dual K) (wu.Closed r)
closed-refuses K r h = kept Unclosed (closed K) (where_dual K (tt {0})) (dual-open K (tt {0})) (closed_said r) h

same : {E : Type 0} (P : E → Type 0) (o : Option E) → IfSome (option_map (λ x. x) o) P → IfSome o P
same P None h = h
same P (Some x) h = h

by-cases : {A : Type 0} (a : A) (c : Result ℕ NotClosed) (d : Option (ℕ × List ℕ)) (why : NotDual) → of_closed c d (tt {0}) ≡ Err why → of_closed c d a ≡ Err why
by-cases a (Err w) d why e = let same_one : Unclosed w ≡ why = cc in ap Err same_one
by-cases a (Ok n) None why e = absurd (cc)
by-cases a (Ok n) (Some (p, w)) why e = let same_one : Degenerate p w ≡ why = cc in ap Err same_one

pub dual-refuses : {A : Type 0} (K : Complex) (a : A) (r : WuRefusal) → WuRefuses (where_dual K (tt {0})) r → WuRefuses (where_dual K a) r
dual-refuses K a r h =
    same (λ why. where_dual K a ≡ Err why) (wu_said r)
    (kept (λ x. x) (where_dual K (tt {0})) (where_dual K a) (by-cases a (closed K) (first_degenerate K)) (wu_said r) h)

pub duality-is : (K : Complex) → duality K ≡ where_dual K (pairings K)
unfolding duality
duality-is K = refl

pub wu_list-is : (K : Complex) → wu_list K ≡ where_dual K (map (λ k. (k, wu_class K k)) (range_with_len 0 (dimensions K)))
unfolding wu_list
wu_list-is K = refl

pub whitney_list-is : (K : Complex) → stiefel_whitney K ≡ where_dual K (map (λ k. (k, whitney_class K k)) (range_with_len 0 (dimensions K)))
unfolding stiefel_whitney
whitney_list-is K = refl

pub number-is : (K : Complex) (parts : List ℕ) → stiefel_whitney_number K parts ≡ number_of K parts (where_dual K (tt {0}))
unfolding stiefel_whitney_number
number-is K parts = refl

pub number-refuses : (K : Complex) (parts : List ℕ) (r : WuRefusal) → WuRefuses (where_dual K (tt {0})) r
    → NumberRefuses (stiefel_whitney_number K parts) (number.Wu r)
number-refuses K parts r h =
    kept NoClasses (where_dual K (tt {0})) (stiefel_whitney_number K parts) (λ why e. number-is K parts ∙ ap (number_of K parts) e) (wu_said r) h

-- the number, and the wrong sum
module _ (K : Complex) (parts : List ℕ) (n : ℕ) (shut : closed K ≡ Ok n) (none : first_degenerate K ≡ None) where
  number-at : stiefel_whitney_number K parts ≡ cond (nat_eq (sum parts) (top K)) (Ok (on_top K (product K parts))) (Err (Sum (sum parts) (top K)))
  number-at = number-is K parts ∙ ap (number_of K parts) (dual-value K (tt {0}) n shut none)

  pub number-value : sum parts ≡ top K → stiefel_whitney_number K parts ≡ Ok (on_top K (product K parts))
  number-value e = number-at ∙ ap (λ b. cond b (Ok (on_top K (product K parts))) (Err (Sum (sum parts) (top K)))) (eq-eqb (sum parts) (top K) e)

  pub number-sum : (sum parts ≡ top K → ⊥) → stiefel_whitney_number K parts ≡ Err (Sum (sum parts) (top K))
  number-sum e = number-at ∙ ap (λ b. cond b (Ok (on_top K (product K parts))) (Err (Sum (sum parts) (top K)))) (nat_eq-apart (sum parts) (top K) e)
