-- The terms of a product by pairs.
--     pair_of-at                       where the walk passes along the union, which is a simplex x, the pair counts at x alone
--     pair_of-fails, pair_of-absent, pair_of-wide
--                                      it counts nowhere, where the walk does not pass, or the union is no simplex of the complex,
--                                      or too long for one
--     union-members, members-union     a union, by its members
--     option-map                       what follows from what is known of an answer
--     cup-pairs_sum                    the product of two listed cochains is the sum over all pairs
use Rattle.std.proofs.Common.{◌≡◌, ℕ, suc, ◌+◌, ◌<◌, ◌≤◌, Bool, true, false, ◌&&◌, ◌||◌, nat_eq, List, [], ◌∷◌, length, refl, sym, ap, ◌∙◌, arith, ⊎_elim, add-one, Option, Some, None}
use Rattle.std.specs.Prelude.{MatchOption}
use Rattle.std.specs.List.{All}
use Rattle.std.specs.List.Sorted.{IsStrictlyIncreasing}
use Rattle.std.proofs.lemmas.Bool.{true≢false, false_from_ne_true, cases_lt, cases_eq}
use Rattle.std.proofs.lemmas.List.{get_or_past}
use Rattle.std.proofs.lemmas.List.Folds.{list_any_at}
use Rattle.homology.specs.Sets.{empty, single, set_of}
use Rattle.homology.specs.ListSums.{sum_over}
use Rattle.homology.specs.Simplices.{same_list}
use Rattle.homology.specs.Complexes.{Complex, IsComplex, simplex_at}
use Rattle.homology.specs.Growth.{is_there}
use Rattle.homology.proofs.BoundaryLaws.{same_list-same, same_list-true, same_list-apart}
use Rattle.homology.proofs.ParityLaws.{nat_eq-self, nat_eq-apart, nat_eq-comm, and-true}
use Rattle.homology.proofs.SetLaws.{same_members}
use Rattle.products.specs.Products.{cup}
use Rattle.products.specs.Splittings.{walks}
use Rattle.products.proofs.WalkLaws.{cup-lists, walks-union, walks-at_union}
use Rattle.simplex_order.specs.declared.limits.TheConstants.{MOST_VERTICES}
use Rattle.complex_store.specs.Limits.{AreNarrow}
use Rattle.simplex_order.specs.Members.{has, IsUnion}
use Rattle.cup_i.specs.Pairs.{pair_of, pair_at}

-- past the complex there is nothing to go along
pair-past : (K : Complex) (i : ℕ) (s w : List ℕ) (x : ℕ) → length K ≤ x → pair_of K i s w x ≡ false
pair-past K i s w x le = ap (walks (suc i) true s w) (get_or_past K x [] le)

-- a pair counts along its union alone
pair-union : (K : Complex) → IsComplex K → (i : ℕ) (s w : List ℕ) (x : ℕ) (u : List ℕ) → x < length K → IsStrictlyIncreasing u
    → ((v : ℕ) → set_of u v ≡ (set_of s v || set_of w v))
    → pair_of K i s w x ≡ (same_list (simplex_at K x) u && walks (i + 1) true s w u)
pair-union K ok i s w x u lt up union =
    walks-at_union (suc i) true s w u (simplex_at K x) up (ok.simplices x lt).ascending union
    ∙ ap (λ k. same_list (simplex_at K x) u && walks k true s w u) (sym (add-one i))

pub pair_of-at : (K : Complex) → IsComplex K → (i : ℕ) (s w : List ℕ) (x : ℕ) (u : List ℕ) → IsStrictlyIncreasing u
    → ((v : ℕ) → set_of u v ≡ (set_of s v || set_of w v))
    → x < length K → simplex_at K x ≡ u → walks (i + 1) true s w u ≡ true
    → pair_of K i s w ≡ single x
pair_of-at K ok i s w x u up union x_in is passes = same_members (pair_of K i s w) (single x)
    (λ t. ⊎_elim (inside t) (λ (le : length K ≤ t). pair-past K i s w t le ∙ sym (nat_eq-apart t x (λ e. omega (arith, e)))) (cases_lt t (length K)))
  where
    here : (t : ℕ) → t < length K → same_list (simplex_at K t) u ≡ nat_eq t x
    here t lt = ⊎_elim
        (λ (e : t ≡ x). same_list-same (simplex_at K t) u (ap (simplex_at K) e ∙ is) ∙ sym (ap (λ w. nat_eq w x) e ∙ nat_eq-self x))
        (λ (ne : t ≡ x → ⊥).
        same_list-apart (simplex_at K t) u (λ e. ne (ok.distinct t x lt x_in (e ∙ sym is))) ∙ sym (nat_eq-apart t x ne))
        (cases_eq t x)

    inside : (t : ℕ) → t < length K → pair_of K i s w t ≡ nat_eq t x
    inside t lt =
        pair-union K ok i s w t u lt up union
        ∙ (λ j. here t lt j && passes j)
        ∙ and-true (nat_eq t x)

pub pair_of-fails : (K : Complex) → IsComplex K → (i : ℕ) (s w u : List ℕ) → IsStrictlyIncreasing u
    → ((v : ℕ) → set_of u v ≡ (set_of s v || set_of w v))
    → walks (i + 1) true s w u ≡ false → pair_of K i s w ≡ empty
pair_of-fails K ok i s w u up union fails = same_members (pair_of K i s w) empty
    (λ t. ⊎_elim
    (λ (lt : t < length K). pair-union K ok i s w t u lt up union ∙ and_both (same_list (simplex_at K t) u) fails)
    (λ (le : length K ≤ t). pair-past K i s w t le)
    (cases_lt t (length K)))
  where
    and_both : (b : Bool) {c : Bool} → c ≡ false → (b && c) ≡ false
    and_both true e = e
    and_both false e = refl

pub pair_of-absent : (K : Complex) → IsComplex K → (i : ℕ) (s w u : List ℕ) → IsStrictlyIncreasing u
    → ((v : ℕ) → set_of u v ≡ (set_of s v || set_of w v))
    → is_there K u ≡ false → pair_of K i s w ≡ empty
pair_of-absent K ok i s w u up union none = same_members (pair_of K i s w) empty
    (λ t. ⊎_elim
    (λ (lt : t < length K).
    pair-union K ok i s w t u lt up union
    ∙ ap (λ b. b && walks (i + 1) true s w u)
    (false_from_ne_true (same_list (simplex_at K t) u) (λ e.
    true≢false (sym (list_any_at (same_list u) K t [] lt (same_list-same u (simplex_at K t) (sym (same_list-true (simplex_at K t) u e)))) ∙ none))))
    (λ (le : length K ≤ t). pair-past K i s w t le)
    (cases_lt t (length K)))

pub pair_of-wide : (K : Complex) → IsComplex K → AreNarrow K → (i : ℕ) (s w : List ℕ)
    → ((u : List ℕ) → IsStrictlyIncreasing u → ((v : ℕ) → set_of u v ≡ (set_of s v || set_of w v)) → MOST_VERTICES < length u)
    → pair_of K i s w ≡ empty
pair_of-wide K ok narrow i s w wide = same_members (pair_of K i s w) empty
    (λ t. ⊎_elim
    (λ (lt : t < length K). false_from_ne_true (pair_of K i s w t) (λ passes.
    omega (
      arith,
      narrow t [] lt,
      wide (simplex_at K t) (ok.simplices t lt).ascending
          (walks-union (suc i) true s w (simplex_at K t) passes),
    )))
    (λ (le : length K ≤ t). pair-past K i s w t le)
    (cases_lt t (length K)))

pub cup-pairs_sum : (K : Complex) → IsComplex K → (i : ℕ) (ys zs : List ℕ)
    → IsStrictlyIncreasing ys → All (λ y. y < length K) ys → IsStrictlyIncreasing zs → All (λ z. z < length K) zs
    → sum_over ys (λ y. sum_over zs (pair_at K i y)) ≡ cup K i (set_of ys) (set_of zs)
cup-pairs_sum K ok i ys zs up within vp inside = same_members (sum_over ys (λ y. sum_over zs (pair_at K i y))) (cup K i (set_of ys) (set_of zs))
    (λ x. sym (cup-lists K ok i ys zs up within vp inside x))

has-set_of : (s : List ℕ) (v : ℕ) → has s v ≡ set_of s v
has-set_of [] v = refl
has-set_of (x ∷ s) v = λ i. nat_eq-comm x v i || has-set_of s v i

pub union-members : (s w u : List ℕ) → IsUnion s w u → (v : ℕ) → set_of u v ≡ (set_of s v || set_of w v)
union-members s w u is v = sym (has-set_of u v) ∙ is.members v ∙ (λ i. has-set_of s v i || has-set_of w v i)

pub members-union : (s w u : List ℕ) → IsStrictlyIncreasing u → ((v : ℕ) → set_of u v ≡ (set_of s v || set_of w v)) → IsUnion s w u
members-union s w u up members = record {
  ascending = up;
  members = λ v. has-set_of u v ∙ members v ∙ sym (λ i. has-set_of s v i || has-set_of w v i);
}

pub option-map : {A : Type 0} (N M : Type 0) (P Q : A → Type 0) (r : Option A) → (N → M) → ((x : A) → P x → Q x) → MatchOption r N P → MatchOption r M Q
option-map N M P Q None f g h = f h
option-map N M P Q (Some x) f g h = g x h
