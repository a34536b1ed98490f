-- Laws of the values of cochains at lists of vertices.
--     value_at-there, value_at-missing, value_at-other, value_at-empty
--                                the value at a simplex; at a list that is no simplex; at no vertex
--     value_at-plus              it is additive
--     Found K p, picks-found     a nonempty sublist of a simplex of K is a simplex of K
--     value_at-found             a list with a value is a simplex of K
--     delta-odd                  a sum over all entries left out, by places
--     faces-delta                a sum over the faces of a simplex
--     value_at-coboundary        the coboundary at a sublist of a simplex is the sum over all vertices left out
use Rattle.std.proofs.Common.{◌≡◌, ℕ, zero, suc, ◌+◌, ◌<◌, ◌≤◌, Bool, true, false, ◌&&◌, List, [], ◌∷◌, length, nat_eq, refl, sym, ap, ◌∙◌, subst, arith, eqb-true, eq-eqb, ⊎_elim, inl, inr, ◌⊎◌}
use Rattle.std.specs.List.{remove}
use Rattle.std.proofs.lemmas.Bool.{true≢false, and_parts, cases_lt}
use Rattle.std.proofs.lemmas.List.Edits.{length-remove}
use Rattle.std.proofs.lemmas.List.Folds.{list_any_at}
use Rattle.homology.specs.Parity.{xor, odd}
use Rattle.homology.specs.Sets.{Ids, plus}
use Rattle.homology.specs.Simplices.{same_list}
use Rattle.homology.specs.Complexes.{Complex, simplex_at, incidence, HasFace, IsComplex}
use Rattle.homology.specs.Chains.{coboundary}
use Rattle.homology.specs.Growth.{is_there}
use Rattle.homology.proofs.ParityLaws.{xor-false, and-comm, and-false, xor-and, odd-same, odd-none, odd-xor, odd-and, odd-swap, odd-one}
use Rattle.homology.proofs.BoundaryLaws.{same_list-true, same_list-same, same_list-apart, odd-some, is_face, incidence-is, incidence_of-wide, incidence_of-narrow, is_face-sum}
use Rattle.homology.proofs.FaceLists.{Picks, Picks-length}
use Rattle.products.specs.Products.{value_at}
use Rattle.products.proofs.TruthTables.{by_table}
use Rattle.products.proofs.SplittingLaws.{delta}

-- in a complex an id is known by its vertices
same_simplex : (K : Complex) → IsComplex K → (x y : ℕ) → x < length K → y < length K → same_list (simplex_at K y) (simplex_at K x) ≡ nat_eq x y
same_simplex K c x y x_in y_in =
    elim (nat_eq x y) as (λ b. nat_eq x y ≡ b → same_list (simplex_at K y) (simplex_at K x) ≡ b) [
      | true ↦ λ e. same_list-same (simplex_at K y) (simplex_at K x) (ap (simplex_at K) (sym (eqb-true x y e)))
      | false ↦ λ e. same_list-apart (simplex_at K y) (simplex_at K x)
          (λ q. true≢false (sym (eq-eqb x y (c.distinct x y x_in y_in (sym q))) ∙ e))
    ] refl

-- the value at the simplex y
pub value_at-there : (K : Complex) → IsComplex K → (a : Ids) (y : ℕ) → y < length K → value_at K a (simplex_at K y) ≡ a y
unfolding value_at
value_at-there K c a y y_in =
    odd-same (length K) _ _ (λ x x_in. ap (λ b. a x && b) (same_simplex K c x y x_in y_in) ∙ and-comm (a x) (nat_eq x y))
    ∙ odd-one (length K) y a y_in

-- at a list that is no simplex of K
pub value_at-missing : (K : Complex) (a : Ids) (s : List ℕ) → ((x : ℕ) → x < length K → simplex_at K x ≡ s → ⊥) → value_at K a s ≡ false
unfolding value_at
value_at-missing K a s none =
    odd-none (length K) _ (λ x x_in. ap (λ b. a x && b) (same_list-apart s (simplex_at K x) (λ q. none x x_in (sym q))) ∙ and-false (a x))

pub value_at-other : (K : Complex) (a : Ids) (s : List ℕ) → is_there K s ≡ false → value_at K a s ≡ false
value_at-other K a s none = value_at-missing K a s
    (λ x x_in e. true≢false (sym (list_any_at (same_list s) K x [] x_in (same_list-same s (simplex_at K x) (sym e))) ∙ none))

-- at no vertex
pub value_at-empty : (K : Complex) → IsComplex K → (a : Ids) → value_at K a [] ≡ false
value_at-empty K c a = value_at-missing K a [] (λ x x_in e. omega (arith, (c.simplices x x_in).nonempty, ap length e))

pub value_at-plus : (K : Complex) (a b : Ids) (s : List ℕ) → value_at K (plus a b) s ≡ xor (value_at K a s) (value_at K b s)
unfolding value_at
value_at-plus K a b s =
    odd-same (length K) _ _ (λ x _. xor-and (a x) (b x) (same_list s (simplex_at K x)))
    ∙ odd-xor (length K) (λ x. a x && same_list s (simplex_at K x)) (λ x. b x && same_list s (simplex_at K x))

-- p is a simplex of K
pub record Found (K : Complex) (p : List ℕ) : Type 0 where
  pub id : ℕ
  pub within : id < length K
  pub is : simplex_at K id ≡ p

-- a list with a value is a simplex, and a member
pub value_at-found : (K : Complex) (a : Ids) (p : List ℕ) → value_at K a p ≡ true → (x : ℕ) × (x < length K) × (simplex_at K x ≡ p) × (a x ≡ true)
unfolding value_at
value_at-found K a p e =
    let some : (x : ℕ) × (x < length K) × ((a x && same_list p (simplex_at K x)) ≡ true) = odd-some (length K) (λ x. a x && same_list p (simplex_at K x)) e in
    let both : (a some.0 ≡ true) × (same_list p (simplex_at K some.0) ≡ true) = and_parts (a some.0) (same_list p (simplex_at K some.0)) some.2 in
    (some.0, some.1, sym (same_list-true p (simplex_at K some.0) both.1), both.0)

-- a sublist is the list, or a sublist of the list without one of its entries
picks-proper : (p s : List ℕ) → Picks p s → (p ≡ s) ⊎ ((k : ℕ) × (k < length s) × Picks p (remove s k))
picks-proper [] [] P = inl refl
picks-proper [] (x ∷ s) P = inr (0, omega arith, tt)
picks-proper (y ∷ p) [] P = absurd P
picks-proper (y ∷ p) (x ∷ s) P = ⊎_elim
    (λ (here : (y ≡ x) × Picks p s). ⊎_elim
    (λ (same : p ≡ s). inl (λ i. here.0 i ∷ same i))
    (λ (less : (k : ℕ) × (k < length s) × Picks p (remove s k)). inr (suc less.0, omega (arith, less.1), inl (here.0, less.2)))
    (picks-proper p s here.1))
    (λ (later : Picks (y ∷ p) s). inr (0, omega arith, later))
    P

-- by faces of codimension one, each of which is earlier
found-below : (K : Complex) → IsComplex K → (n x : ℕ) (p : List ℕ) → x < n → x < length K → Picks p (simplex_at K x) → 0 < length p → Found K p
found-below K c zero x p lt x_in P some = absurd (omega arith)
found-below K c (suc n) x p lt x_in P some = ⊎_elim
    (λ (same : p ≡ simplex_at K x). record { id = x; within = x_in; is = sym same })
    (λ (less : (k : ℕ) × (k < length (simplex_at K x)) × Picks p (remove (simplex_at K x) k)).
    let wide : 1 < length (simplex_at K x) =
    omega (arith, length-remove (simplex_at K x) less.0 less.1, Picks-length p (remove (simplex_at K x) less.0) less.2) in
    let face : HasFace K x less.0 = c.closed x less.0 x_in wide less.1 in
    found-below K c n face.id p (omega (arith, face.earlier)) (omega (arith, face.earlier)) (subst (Picks p) (sym face.is) less.2) some)
    (picks-proper p (simplex_at K x) P)

pub picks-found : (K : Complex) → IsComplex K → (x : ℕ) (p : List ℕ) → x < length K → Picks p (simplex_at K x) → 0 < length p → Found K p
picks-found K c x p x_in P some = found-below K c (x + 1) x p (omega arith) x_in P some

-- the first term of a sum
pub odd-first : (n : ℕ) (p : ℕ → Bool) → odd (suc n) p ≡ xor (p 0) (odd n (λ k. p (suc k)))
odd-first zero p = refl
odd-first (suc n) p =
    ap (xor (p (suc n))) (odd-first n p)
    ∙ by_table 3 (λ a b c. xor a (xor b c)) (λ a b c. xor b (xor a c)) refl (p (suc n)) (p 0) (odd n (λ k. p (suc k)))

pub delta-odd : (F : List ℕ → Bool) (s : List ℕ) → delta F s ≡ odd (length s) (λ k. F (remove s k))
delta-odd F [] = refl
delta-odd F (v ∷ s) =
    ap (xor (F s)) (delta-odd (λ t. F (v ∷ t)) s) ∙ sym (odd-first (length s) (λ k. F (remove (v ∷ s) k)))

-- at most one vertex
delta-narrow : (F : List ℕ → Bool) → F [] ≡ false → (s : List ℕ) → length s ≤ 1 → delta F s ≡ false
delta-narrow F none [] le = refl
delta-narrow F none (v ∷ []) le = xor-false (F []) ∙ none
delta-narrow F none (v ∷ w ∷ s) le = absurd (omega arith)

-- a sum over the faces of x
pub faces-delta : (K : Complex) → IsComplex K → (F : List ℕ → Bool) → F [] ≡ false → (x : ℕ) → x < length K
    → odd (length K) (λ t. F (simplex_at K t) && incidence K t x) ≡ delta F (simplex_at K x)
faces-delta K c F none x x_in = ⊎_elim wide narrow (cases_lt 1 (length (simplex_at K x)))
  where
    term : 1 < length (simplex_at K x) → (t : ℕ) → (F (simplex_at K t) && incidence K t x)
        ≡ odd (length (simplex_at K x)) (λ k. F (simplex_at K t) && is_face (simplex_at K t) (simplex_at K x) k)
    term gt t =
        ap (λ b. F (simplex_at K t) && b) (incidence-is K t x ∙ incidence_of-wide (simplex_at K t) (simplex_at K x) gt)
        ∙ sym (odd-and (length (simplex_at K x)) (F (simplex_at K t)) (is_face (simplex_at K t) (simplex_at K x)))

    at : 1 < length (simplex_at K x) → (k : ℕ) → k < length (simplex_at K x)
        → odd (length K) (λ t. F (simplex_at K t) && is_face (simplex_at K t) (simplex_at K x) k) ≡ F (remove (simplex_at K x) k)
    at gt k lt =
        let face : HasFace K x k = c.closed x k x_in gt lt in
        odd-same (length K) _ _ (λ t _. and-comm (F (simplex_at K t)) (is_face (simplex_at K t) (simplex_at K x) k))
        ∙ is_face-sum K c x k (λ t. F (simplex_at K t)) x_in face
        ∙ ap F face.is

    wide : 1 < length (simplex_at K x) → odd (length K) (λ t. F (simplex_at K t) && incidence K t x) ≡ delta F (simplex_at K x)
    wide gt =
        odd-same (length K) _ _ (λ t _. term gt t)
        ∙ odd-swap (length K) (length (simplex_at K x)) (λ t k. F (simplex_at K t) && is_face (simplex_at K t) (simplex_at K x) k)
        ∙ odd-same (length (simplex_at K x)) _ _ (at gt)
        ∙ sym (delta-odd F (simplex_at K x))

    narrow : length (simplex_at K x) ≤ 1 → odd (length K) (λ t. F (simplex_at K t) && incidence K t x) ≡ delta F (simplex_at K x)
    narrow le =
        odd-none (length K) _ (λ t _. ap (λ b. F (simplex_at K t) && b) (incidence-is K t x ∙ incidence_of-narrow (simplex_at K t) (simplex_at K x) le) ∙ and-false (F (simplex_at K t)))
        ∙ sym (delta-narrow F none (simplex_at K x) le)

-- the coboundary at a simplex
pub coboundary-delta : (K : Complex) → IsComplex K → (a : Ids) (x : ℕ) → x < length K → coboundary K a x ≡ delta (value_at K a) (simplex_at K x)
coboundary-delta K c a x x_in =
    odd-same (length K) _ _ (λ t t_in. ap (λ b. b && incidence K t x) (sym (value_at-there K c a t t_in)))
    ∙ faces-delta K c (value_at K a) (value_at-empty K c a) x x_in

-- and at a sublist of one
pub value_at-coboundary : (K : Complex) → IsComplex K → (a : Ids) (x : ℕ) (p : List ℕ) → x < length K → Picks p (simplex_at K x)
    → value_at K (coboundary K a) p ≡ delta (value_at K a) p
value_at-coboundary K c a x [] x_in P = value_at-empty K c (coboundary K a)
value_at-coboundary K c a x (v ∷ p) x_in P =
    let found : Found K (v ∷ p) = picks-found K c x (v ∷ p) x_in P (omega arith) in
    ap (value_at K (coboundary K a)) (sym found.is)
    ∙ value_at-there K c (coboundary K a) found.id found.within
    ∙ coboundary-delta K c a found.id found.within
    ∙ ap (delta (value_at K a)) found.is
