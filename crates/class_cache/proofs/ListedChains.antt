-- Lists of simplices and of chains, as loops go through them. K is a complex, p a degree.
--     item-any                 an item of a list
--     read-item                what is read
--     chains-none              one more empty chain
--     ids-at                   the simplices of a dimension are there, and of that dimension
--     kept-essential           essential simplices that are listed
--     listed-within            they are there
--     f-within                 f of a simplex has simplices of the complex
use Rattle.std.proofs.Common.{◌≡◌, ℕ, zero, suc, ◌<◌, true, List, [], ◌∷◌, ◌++◌, length, get_or, refl, sym, ap, ◌∙◌, subst, arith}
use Rattle.std.specs.Prelude.{slice_index, slice_index_or}
use Rattle.std.specs.List.{All}
use Rattle.std.proofs.lemmas.Bool.{and_parts}
use Rattle.std.proofs.lemmas.Grind.{get_or_default_zero}
use Rattle.homology.specs.Sets.{set_of}
use Rattle.homology.specs.Complexes.{Complex, IsComplex, dim}
use Rattle.homology.specs.Kinds.{ids, is_essential}
use Rattle.homology.specs.Contractions.{cycle_of}
use Rattle.homology.proofs.KindLaws.{set_of-filter, set_of-ids}
use Rattle.homology.proofs.ListSetLaws.{set_of-All}
use Rattle.homology.proofs.ContractionFacts.{essential-below}
use Rattle.factors.proofs.Existence.{contraction-exists}
use Rattle.cohomology.specs.Classes.{essentials}
use Rattle.at_model.specs.Maps.{IsF}

-- an item of a list, whatever stands for one beyond its end
pub item-any : (xs : List (List ℕ)) (k : ℕ) (d e : List ℕ) → k < length xs → get_or xs k d ≡ get_or xs k e
item-any [] k d e lt = absurd (omega arith)
item-any (x ∷ xs) zero d e lt = refl
item-any (x ∷ xs) (suc k) d e lt = item-any xs k d e (omega (arith, lt))

-- the item at a place of a list that is read
pub read-item : (xs ys : List ℕ) (i t : ℕ) → t ≡ get_or ys i t → ys ≡ xs → i < length xs → t ≡ slice_index xs i
read-item xs ys i t e same lt = e ∙ ap (λ l. get_or l i t) same ∙ get_or_default_zero xs i t lt

pub chains-none : (table : List (List ℕ)) (h : ℕ) → slice_index_or (table ++ [] ∷ []) h [] ≡ slice_index_or table h []
chains-none [] zero = refl
chains-none [] (suc h) = refl
chains-none (c ∷ table) zero = refl
chains-none (c ∷ table) (suc h) = chains-none table h

pub ids-at : (K : Complex) (p : ℕ) → All (λ t. (t < length K) × (dim K t ≡ p)) (ids K p)
ids-at K p = set_of-All (λ t. (t < length K) × (dim K t ≡ p)) (ids K p) (λ t m. set_of-ids K p t m)

-- essential simplices that are listed
pub kept-essential : (K : Complex) (p : ℕ) (xs : List ℕ) → xs ≡ essentials K p → All (λ h. is_essential K h ≡ true) xs
kept-essential K p xs is =
    subst (All (λ h. is_essential K h ≡ true)) (sym is)
    (set_of-All (λ h. is_essential K h ≡ true) (essentials K p) (λ q m. (and_parts (is_essential K q) (set_of (ids K p) q) (sym (set_of-filter (is_essential K) (ids K p) q) ∙ m)).0))

pub listed-within : (K : Complex) → IsComplex K → (p n : ℕ) (xs : List ℕ) → xs ≡ essentials K p → n ≡ length K → All (λ h. h < n) xs
listed-within K ok p n xs is all = λ j d lt.
    omega (arith, all, essential-below K ok (get_or xs j d) (kept-essential K p xs is j d lt))

pub f-within : (K : Complex) → IsComplex K → (t : ℕ) (c xs : List ℕ) → t < length K → IsF K t (set_of c) → xs ≡ c → All (λ h. h < length K) xs
f-within K ok t c xs lt F same =
    let H = contraction-exists K ok in
    set_of-All (λ h. h < length K) xs (λ h m.
    essential-below K ok h (H.is.f_values t h lt (ap (λ z. z h) (F H.f (cycle_of K H.phi) H.phi H.is) ∙ ap (λ l. set_of l h) (sym same) ∙ m)))
