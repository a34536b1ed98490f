-- The whole with a cone over its part is a complex.
--     complex-grows        each simplex of a complex may be the next one after those before it
--     there-joined, joined-there     v in front of the simplices of a list
--     cone-grows           so v in front of each simplex of the part may come next, after the whole and v
--     cone-made            it is a complex, and has the simplices that it should
use Rattle.std.proofs.Common.{◌≡◌, ℕ, zero, suc, ◌<◌, ◌≤◌, true, false, ◌||◌, ◌&&◌, ◌⊎◌, inl, inr, List, [], ◌∷◌, ◌++◌, map, length, refl, sym, ap, ◌∙◌, subst, arith, ⊎_elim}
use Rattle.std.specs.List.{remove}
use Rattle.std.specs.List.Sorted.{IsStrictlyIncreasing}
use Rattle.std.proofs.lemmas.Bool.{true≢false, or_cases, or_left, or_right, cases_lt, false_from_ne_true}
use Rattle.std.proofs.lemmas.List.{append_assoc, append-nil, map-append, get_or_append_left, length-append}
use Rattle.std.proofs.lemmas.List.Edits.{length-remove}
use Rattle.std.proofs.Math.Seq.{get_or-append_seam}
use Rattle.homology.specs.Simplices.{IsSimplex, same_list}
use Rattle.homology.specs.Complexes.{Complex, IsComplex, HasFace, simplex_at}
use Rattle.homology.specs.Growth.{is_there}
use Rattle.homology.proofs.ParityLaws.{nat_eq-self}
use Rattle.homology.proofs.BoundaryLaws.{same_list-true, same_list-same, same_list-apart}
use Rattle.homology.proofs.FaceLists.{there-left, there-right, there-cases, there-neither, there-first}
use Rattle.homology.proofs.FacetLaws.{HasFaces, Next, Grows, IsComplex-grows}
use Rattle.products.proofs.ValueLaws.{Found}
use Rattle.pairs.specs.Pairs.{IsPart}
use Rattle.pairs.specs.Cones.{IsConed, with_cone}
use Rattle.pairs.proofs.PartLaws.{there-id, id-there}

next-of : (B : Complex) (t : List ℕ) (L : Complex) → IsComplex (B ++ t ∷ L) → Next B t
next-of B t L ok = record {
  simplex = subst IsSimplex own (ok.simplices (length B) in_list);
  fresh = false_from_ne_true (is_there B t) (λ h.
      let x : Found B t = there-id B t h in
      omega (arith, x.within, ok.distinct x.id (length B) (omega (arith, x.within, in_list)) in_list (before x.id x.within ∙ x.is ∙ sym own)));
  faces_there = λ j wide below.
      let face : HasFace (B ++ t ∷ L) (length B) j = ok.closed (length B) j in_list
      (subst (λ s. 1 < length s) (sym own) wide) (subst (λ s. j < length s) (sym own) below) in
      subst (λ s. is_there B s ≡ true) (sym (before face.id face.earlier) ∙ face.is ∙ ap (λ s. remove s j) own) (id-there B face.id face.earlier);
}
  where
    own : simplex_at (B ++ t ∷ L) (length B) ≡ t
    own = get_or-append_seam B t L []

    in_list : length B < length (B ++ t ∷ L)
    in_list = omega (arith, length-append B (t ∷ L))

    before : (x : ℕ) → x < length B → simplex_at (B ++ t ∷ L) x ≡ simplex_at B x
    before x lt = get_or_append_left B (t ∷ L) [] x lt

complex-grows : (B L : Complex) → IsComplex (B ++ L) → Grows B L
complex-grows B [] ok = tt
complex-grows B (t ∷ L) ok = (next-of B t L ok, complex-grows (B ++ t ∷ []) L (subst IsComplex (sym (append_assoc B (t ∷ []) L)) ok))

module _ (v : ℕ) where
  abbrev join : List ℕ → List ℕ
  join t = v ∷ t

  there-joined : (B : Complex) (t : List ℕ) → is_there (map join B) (v ∷ t) ≡ is_there B t
  there-joined [] t = refl
  there-joined (u ∷ B) t = λ i. (nat_eq-self v i && same_list t u) || there-joined B t i

  joined-there : (B : Complex) (s : List ℕ) → is_there (map join B) s ≡ true → (t : List ℕ) × (s ≡ v ∷ t) × (is_there B t ≡ true)
  joined-there [] s e = absurd (true≢false (sym e))
  joined-there (u ∷ B) s e = ⊎_elim
      (λ (here : same_list s (v ∷ u) ≡ true). (u, same_list-true s (v ∷ u) here, there-first u B))
      (λ (later : is_there (map join B) s ≡ true).
      let rest = joined-there B s later in
      (rest.0, rest.1, or_right (same_list rest.0 u) (is_there B rest.0) rest.2))
      (or_cases (same_list s (v ∷ u)) (is_there (map join B) s) e)

  module _ (K : Complex) (front : (t : List ℕ) → is_there K t ≡ true → IsStrictlyIncreasing (v ∷ t)) where
    -- else v would be before itself
    not_there : (t : List ℕ) → is_there K (v ∷ t) ≡ false
    not_there t = false_from_ne_true (is_there K (v ∷ t)) (λ h. omega (arith, front (v ∷ t) h 0 (omega arith)))

    with_apex : Complex
    with_apex = K ++ (v ∷ []) ∷ []

    next-joined : (B : Complex) (t : List ℕ) → Next B t → is_there K t ≡ true → Next (with_apex ++ map join B) (v ∷ t)
    unfolding with_apex
    next-joined B t N h = record {
      simplex = record { nonempty = omega arith; ascending = front t h };
      fresh = there-neither with_apex (map join B) (v ∷ t)
          (there-neither K ((v ∷ []) ∷ []) (v ∷ t) (not_there t) (ap (λ b. b || false) (same_list-apart (v ∷ t) (v ∷ [])
          (λ e. omega (arith, ap length e, N.simplex.nonempty)))))
          (there-joined B t ∙ N.fresh);
      faces_there = faces;
    }
      where
        faces : HasFaces (with_apex ++ map join B) (v ∷ t)
        faces zero wide below = there-left with_apex (map join B) t (there-left K ((v ∷ []) ∷ []) t h)
        faces (suc j) wide below = ⊎_elim
            (λ (more : 1 < length t).
            there-right with_apex (map join B) (v ∷ remove t j)
            (there-joined B (remove t j) ∙ N.faces_there j more (omega (arith, below))))
            (λ (one : length t ≤ 1).
            there-left with_apex (map join B) (v ∷ remove t j) (there-right K ((v ∷ []) ∷ []) (v ∷ remove t j)
            (or_left (same_list (v ∷ remove t j) (v ∷ [])) false (same_list-same (v ∷ remove t j) (v ∷ [])
            (ap (λ s. v ∷ s) (nothing (remove t j) (omega (arith, one, below, length-remove t j (omega (arith, below))))))))))
            (cases_lt 1 (length t))
          where
            nothing : (s : List ℕ) → length s < 1 → s ≡ []
            nothing [] lt = refl
            nothing (x ∷ s) lt = absurd (omega (arith, lt))

    cone-grows : (B L : Complex) → Grows B L → ((t : List ℕ) → is_there L t ≡ true → is_there K t ≡ true)
        → Grows (with_apex ++ map join B) (map join L)
    cone-grows B [] g within = tt
    cone-grows B (t ∷ L) g within = (
      next-joined B t g.0 (within t (there-first t L)),
      subst (λ (J : Complex). Grows J (map join L)) longer
          (cone-grows (B ++ t ∷ []) L g.1 (λ u h. within u (or_right (same_list u t) (is_there L u) h))),
    )
      where
        longer : (with_apex ++ map join (B ++ t ∷ [])) ≡ ((with_apex ++ map join B) ++ (v ∷ t) ∷ [])
        longer = ap (λ z. with_apex ++ z) (map-append join B (t ∷ [])) ∙ sym (append_assoc with_apex (map join B) ((v ∷ t) ∷ []))

pub cone-made : (K A : Complex) (v : ℕ) → IsComplex K → IsComplex A → IsPart K A → ((t : List ℕ) → is_there K t ≡ true → IsStrictlyIncreasing (v ∷ t))
    → IsComplex (with_cone K A v) × IsConed K A v (with_cone K A v)
unfolding with_apex
cone-made K A v k a_ok part front = (
  IsComplex-grows K ((v ∷ []) ∷ map (join v) A) k (first, rest),
  record {
    whole = λ s h. there-left K ((v ∷ []) ∷ map (join v) A) s h;
    apex = there-right K ((v ∷ []) ∷ map (join v) A) (v ∷ []) (there-first (v ∷ []) (map (join v) A));
    joined = λ t h. there-right K ((v ∷ []) ∷ map (join v) A) (v ∷ t)
        (or_right (same_list (v ∷ t) (v ∷ [])) (is_there (map (join v) A) (v ∷ t)) (there-joined v A t ∙ h));
    only = only;
    fresh = not_there v K front;
  },
)
  where
    first : Next K (v ∷ [])
    first = record {
      simplex = record { nonempty = omega arith; ascending = λ j h. absurd (omega (arith, h)) };
      fresh = not_there v K front [];
      faces_there = λ j wide below. absurd (omega (arith, wide));
    }

    rest : Grows (K ++ (v ∷ []) ∷ []) (map (join v) A)
    rest = subst (λ (J : Complex). Grows J (map (join v) A)) (append-nil (K ++ (v ∷ []) ∷ []))
        (cone-grows v K front [] A (complex-grows [] A a_ok) part)

    only : (s : List ℕ) → is_there (with_cone K A v) s ≡ true
        → (is_there K s ≡ true) ⊎ ((t : List ℕ) × (s ≡ v ∷ t) × ((t ≡ []) ⊎ (is_there A t ≡ true)))
    only s h = ⊎_elim
        (λ (below : is_there K s ≡ true). inl below)
        (λ (new : is_there ((v ∷ []) ∷ map (join v) A) s ≡ true). ⊎_elim
        (λ (apex : same_list s (v ∷ []) ≡ true). inr ([], same_list-true s (v ∷ []) apex, inl refl))
        (λ (later : is_there (map (join v) A) s ≡ true). let t = joined-there v A s later in inr (t.0, t.1, inr t.2))
        (or_cases (same_list s (v ∷ [])) (is_there (map (join v) A) s) new))
        (there-cases K ((v ∷ []) ∷ map (join v) A) s h)
