-- The terms of a cap product.
--     back_of-some, back_of-none     the back face, where the value at the front face is one; empty where it is zero
--     cap-sum                        the cap product of a listed chain is the sum of its terms
--     cut-front                      the front face, cut off
use Rattle.std.proofs.Common.{◌≡◌, ℕ, ◌+◌, ◌-◌, ◌<◌, ◌≤◌, true, false, ◌&&◌, nat_eq, List, [], length, take, drop, sym, ap, ◌∙◌, arith, ⊎_elim}
use Rattle.std.specs.List.{All}
use Rattle.std.specs.List.Sorted.{IsStrictlyIncreasing}
use Rattle.std.proofs.lemmas.Bool.{cases_lt, cases_eq}
use Rattle.std.proofs.lemmas.List.{get_or_past}
use Rattle.homology.specs.Sets.{Ids, empty, single, set_of, image}
use Rattle.homology.specs.ListSums.{sum_over}
use Rattle.homology.specs.Simplices.{same_list}
use Rattle.homology.specs.Complexes.{Complex, IsComplex, simplex_at}
use Rattle.homology.proofs.BoundaryLaws.{same_list-same, same_list-apart}
use Rattle.homology.proofs.ListSumLaws.{image-sum_over, sum_over-ascending}
use Rattle.homology.proofs.ParityLaws.{nat_eq-self, nat_eq-apart}
use Rattle.homology.proofs.SetLaws.{same_members}
use Rattle.products.specs.Products.{value_at}
use Rattle.products.specs.Caps.{cap}
use Rattle.cup_i.specs.Backs.{back_of}

-- a simplex is the one with the id y alone
same-single : (K : Complex) → IsComplex K → (s : List ℕ) (y x : ℕ) → y < length K → simplex_at K y ≡ s → same_list s (simplex_at K x) ≡ nat_eq x y
same-single K ok s y x y_in is = ⊎_elim same other (cases_eq x y)
  where
    same : x ≡ y → same_list s (simplex_at K x) ≡ nat_eq x y
    same e = same_list-same s (simplex_at K x) (sym is ∙ ap (simplex_at K) (sym e)) ∙ sym (ap (λ z. nat_eq z y) e ∙ nat_eq-self y)

    apart : (x ≡ y → ⊥) → s ≡ simplex_at K x → ⊥
    apart ne e = ⊎_elim
        (λ (lt : x < length K). ne (ok.distinct x y lt y_in (sym e ∙ sym is)))
        (λ (le : length K ≤ x). omega (arith, (ok.simplices y y_in).nonempty, ap length is, ap length e, ap length (get_or_past K x [] le)))
        (cases_lt x (length K))

    other : (x ≡ y → ⊥) → same_list s (simplex_at K x) ≡ nat_eq x y
    other ne = same_list-apart s (simplex_at K x) (apart ne) ∙ sym (nat_eq-apart x y ne)

pub back_of-some : (K : Complex) → IsComplex K → (p : ℕ) (a : Ids) (t y : ℕ) → value_at K a (take (p + 1) (simplex_at K t)) ≡ true
    → y < length K → simplex_at K y ≡ drop p (simplex_at K t) → back_of K p a t ≡ single y
back_of-some K ok p a t y e y_in is = same_members (back_of K p a t) (single y)
    (λ x. ap (λ b. b && same_list (drop p (simplex_at K t)) (simplex_at K x)) e ∙ same-single K ok (drop p (simplex_at K t)) y x y_in is)

pub back_of-none : (K : Complex) (p : ℕ) (a : Ids) (t : ℕ) → value_at K a (take (p + 1) (simplex_at K t)) ≡ false → back_of K p a t ≡ empty
back_of-none K p a t e = same_members (back_of K p a t) empty (λ x. ap (λ b. b && same_list (drop p (simplex_at K t)) (simplex_at K x)) e)

pub cap-sum : (K : Complex) (p : ℕ) (a : Ids) (ids : List ℕ) → IsStrictlyIncreasing ids → All (λ t. t < length K) ids
    → sum_over ids (back_of K p a) ≡ cap K p a (set_of ids)
unfolding cap
cap-sum K p a ids up within =
    sym (image-sum_over (length K) (back_of K p a) ids within) ∙ ap (image (length K) (back_of K p a)) (sum_over-ascending ids up)

pub cut-front : (w p : ℕ) (s S : List ℕ) → w ≡ p + 1 → s ≡ S → p < length S → take (length S - (length s - w)) S ≡ take (p + 1) S
cut-front w p s S wide same lt =
    let cut : length S - (length s - w) ≡ p + 1 = omega (arith, ap length same) in
    ap (λ n. take n S) cut
