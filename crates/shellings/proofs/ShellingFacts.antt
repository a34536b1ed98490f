-- What a shelling is, where nothing is refused.
--     old E y               whether y lies in one of the simplices E
--     old-less, old-more    with y each of its faces; one simplex more
--     Shells L n E F        each member of F is a simplex of L with n vertices, none of those before it, and meets these, which are E at the start, as the step asks
--     shells-after          where no fault is found, F is one
--     without w s           s without the vertex w
--     lacks                 a face of t that is old lacks a vertex of t without which t is old
use Rattle.std.proofs.Common.{◌≡◌, ℕ, zero, suc, ◌+◌, ◌<◌, Bool, true, false, cond, ◌&&◌, ◌||◌, not, List, [], ◌∷◌, ◌++◌, length, nat_eq, refl, sym, ap, ◌∙◌, arith, eqb-true, ⊎_elim, inl, inr, ◌⊎◌, get_or}
use Rattle.std.specs.Prelude.{Some, None}
use Rattle.std.specs.Option.{is_some}
use Rattle.std.specs.List.{filter, list_all, list_any, range_with_len, remove}
use Rattle.std.specs.List.Sorted.{IsStrictlyIncreasing}
use Rattle.std.proofs.lemmas.Bool.{true≢false, and_parts, and_from, or_cases, or_left, or_right, cases_Bool, false_from_ne_true}
use Rattle.std.proofs.lemmas.List.Folds.{list_any-append}
use Rattle.homology.specs.Sets.{set_of}
use Rattle.homology.specs.Simplices.{same_list}
use Rattle.homology.specs.Complexes.{Complex}
use Rattle.homology.specs.Growth.{is_there}
use Rattle.homology.proofs.ParityLaws.{nat_eq-self, nat_eq-apart}
use Rattle.homology.proofs.BoundaryLaws.{same_list-true}
use Rattle.homology.proofs.KindLaws.{set_of-filter}
use Rattle.manifolds.specs.Closed.{lies_in}
use Rattle.manifolds.proofs.LinkLaws.{all-at, all-from, removed-in, removed-other, set_of-at}
use Rattle.shellings.specs.Shellings.{Twice, NotFacet, Step, common, is_facet, unfit_after, meets, step_after}

abbrev pub old : List (List ℕ) → List ℕ → Bool
old E y = list_any (lies_in y) E

pub lies-through : (s t u : List ℕ) → lies_in s t ≡ true → lies_in t u ≡ true → lies_in s u ≡ true
lies-through s t u e f = all-from (set_of u) s (λ v m. all-at (set_of u) t f v (all-at (set_of t) s e v m))

pub old-less : (E : List (List ℕ)) (z y : List ℕ) → lies_in z y ≡ true → old E y ≡ true → old E z ≡ true
old-less [] z y e o = absurd (true≢false (sym o))
old-less (d ∷ E) z y e o = ⊎_elim
    (λ (here : lies_in y d ≡ true). or_left (lies_in z d) (old E z) (lies-through z y d e here))
    (λ (later : old E y ≡ true). or_right (lies_in z d) (old E z) (old-less E z y e later))
    (or_cases (lies_in y d) (old E y) o)

pub old-more : (E : List (List ℕ)) (t y : List ℕ) → old (E ++ t ∷ []) y ≡ (old E y || lies_in y t)
old-more E t y = list_any-append (lies_in y) E (t ∷ []) ∙ ap (λ b. old E y || b) (only (lies_in y t))
  where
    only : (b : Bool) → (b || false) ≡ b
    only true = refl
    only false = refl

-- some member passes, with what shows others to pass
pub any-witness : (p : List ℕ → Bool) (E : List (List ℕ)) → list_any p E ≡ true
    → (d : List ℕ) × (p d ≡ true) × ((q : List ℕ → Bool) → q d ≡ true → list_any q E ≡ true)
any-witness p [] e = absurd (true≢false (sym e))
any-witness p (d ∷ E) e = ⊎_elim
    (λ (here : p d ≡ true). (d, here, λ q h. or_left (q d) (list_any q E) h))
    (λ (later : list_any p E ≡ true).
    let rest = any-witness p E later in
    (rest.0, rest.1, λ q h. or_right (q d) (list_any q E) (rest.2 q h)))
    (or_cases (p d) (list_any p E) e)

any-all : (p q : List ℕ → Bool) (E : List (List ℕ)) → list_any p E ≡ true → list_all q E ≡ true → (d : List ℕ) × (p d ≡ true) × (q d ≡ true)
any-all p q [] e a = absurd (true≢false (sym e))
any-all p q (d ∷ E) e a =
    let both : (q d ≡ true) × (list_all q E ≡ true) = and_parts (q d) (list_all q E) a in
    ⊎_elim
    (λ (here : p d ≡ true). (d, here, both.0))
    (λ (later : list_any p E ≡ true). any-all p q E later both.1)
    (or_cases (p d) (list_any p E) e)

range-any : (p : ℕ → Bool) (b n : ℕ) → list_any p (range_with_len b n) ≡ true → (k : ℕ) × (k < b + n) × (p k ≡ true)
range-any p b zero e = absurd (true≢false (sym e))
range-any p b (suc n) e = ⊎_elim
    (λ (here : p b ≡ true). (b, omega arith, here))
    (λ (later : list_any p (range_with_len (b + 1) n) ≡ true).
    let rest = range-any p (b + 1) n later in
    (rest.0, omega (arith, rest.1), rest.2))
    (or_cases (p b) (list_any p (range_with_len (b + 1) n)) e)

abbrev pub without : ℕ → List ℕ → List ℕ
without w s = filter (λ q. not (nat_eq q w)) s

-- its vertices
pub without-at : (w : ℕ) (s : List ℕ) (q : ℕ) → set_of (without w s) q ≡ (not (nat_eq q w) && set_of s q)
without-at w s q = set_of-filter (λ q. not (nat_eq q w)) s q

pub without-in : (w : ℕ) (s : List ℕ) (q : ℕ) → set_of (without w s) q ≡ true → (set_of s q ≡ true) × (q ≡ w → ⊥)
without-in w s q m =
    let both : (not (nat_eq q w) ≡ true) × (set_of s q ≡ true) = and_parts (not (nat_eq q w)) (set_of s q) (sym (without-at w s q) ∙ m) in
    (both.1, λ same. true≢false (sym both.0 ∙ ap not (ap (λ x. nat_eq x w) same ∙ nat_eq-self w)))

pub without-has : (w : ℕ) (s : List ℕ) (q : ℕ) → set_of s q ≡ true → (q ≡ w → ⊥) → set_of (without w s) q ≡ true
without-has w s q m other = without-at w s q ∙ and_from (not (nat_eq q w)) (set_of s q) (ap not (nat_eq-apart q w other)) m

-- what the step asks of t after E
abbrev pub Fits : List (List ℕ) → List ℕ → Type 0
Fits E t = list_all (λ e. list_any (λ d. meets d e t) E) E ≡ true

abbrev pub Shells : Complex → ℕ → List (List ℕ) → List (List ℕ) → Type 0
Shells L n E [] = Unit {0}
Shells L n E (t ∷ F) = (length t ≡ n) × (is_there L t ≡ true) × (is_there E t ≡ false) × Fits E t × Shells L n (E ++ t ∷ []) F

pub some-none : {A : Type 0} (x : A) → Some x ≡ None → ⊥
some-none x e = true≢false (ap is_some e)

pub shells-after : (L : Complex) (n k : ℕ) (E F : List (List ℕ)) → unfit_after E L n F ≡ None → step_after E k F ≡ None → Shells L n E F
shells-after L n k E [] e f = tt
shells-after L n k E (t ∷ F) e f =
    by (λ u s. shells-after L n (suc k) (E ++ t ∷ []) F u s) (cases_Bool (is_facet L n t)) (cases_Bool (is_there E t)) (cases_Bool (list_all (λ e. list_any (λ d. meets d e t) E) E))
  where
    by : (unfit_after (E ++ t ∷ []) L n F ≡ None → step_after (E ++ t ∷ []) (suc k) F ≡ None → Shells L n (E ++ t ∷ []) F)
        → (is_facet L n t ≡ true) ⊎ (is_facet L n t ≡ false) → (is_there E t ≡ true) ⊎ (is_there E t ≡ false)
        → (Fits E t) ⊎ (list_all (λ e. list_any (λ d. meets d e t) E) E ≡ false) → Shells L n E (t ∷ F)
    by rest (inr unfit) _ _ =
        absurd (some-none (NotFacet t) (sym (ap (λ b. cond b (cond (is_there E t) (Some (Twice t)) (unfit_after (E ++ t ∷ []) L n F)) (Some (NotFacet t))) unfit) ∙ e))
    by rest (inl fit) (inl again) _ =
        absurd (some-none (Twice t) (sym (λ i. cond (fit i) (cond (again i) (Some (Twice t)) (unfit_after (E ++ t ∷ []) L n F)) (Some (NotFacet t))) ∙ e))
    by rest (inl fit) (inr once) (inr unfit) =
        absurd (some-none (Step k) (sym (ap (λ b. cond b (step_after (E ++ t ∷ []) (suc k) F) (Some (Step k))) unfit) ∙ f))
    by rest (inl fit) (inr once) (inl fits) =
        let both : (nat_eq (length t) n ≡ true) × (is_there L t ≡ true) = and_parts (nat_eq (length t) n) (is_there L t) fit in (
          eqb-true (length t) n both.0,
          both.1,
          once,
          fits,
          rest
              (sym (λ i. cond (fit i) (cond (once i) (Some (Twice t)) (unfit_after (E ++ t ∷ []) L n F)) (Some (NotFacet t))) ∙ e)
              (sym (ap (λ b. cond b (step_after (E ++ t ∷ []) (suc k) F) (Some (Step k))) fits) ∙ f),
        )

-- a vertex that y lacks, and without which t is old
pub record Lacks (E : List (List ℕ)) (t y : List ℕ) : Type 0 where
  pub vertex : ℕ
  pub there : set_of t vertex ≡ true
  pub out : set_of y vertex ≡ false
  pub is_old : old E (without vertex t) ≡ true

-- d has all of t but one vertex, and this one is not in y
lacks-meets : (E : List (List ℕ)) (t y d e : List ℕ) → IsStrictlyIncreasing t → lies_in y t ≡ true → lies_in y e ≡ true → meets d e t ≡ true
    → ((q : List ℕ → Bool) → q d ≡ true → list_any q E ≡ true) → Lacks E t y
lacks-meets E t y d e up within there m show =
    let found = range-any (λ k. same_list (common d t) (remove t k) && lies_in (common e t) (remove t k)) 0 (length t) m in
    let lt : found.0 < length t = omega (arith, found.1) in
    let both : (same_list (common d t) (remove t found.0) ≡ true) × (lies_in (common e t) (remove t found.0) ≡ true) =
    and_parts (same_list (common d t) (remove t found.0)) (lies_in (common e t) (remove t found.0)) found.2 in
    record {
      vertex = get_or t found.0 0;
      there = set_of-at t found.0 lt;
      out = false_from_ne_true (set_of y (get_or t found.0 0)) (λ one.
          let kept : set_of (remove t found.0) (get_or t found.0 0) ≡ true =
          all-at (set_of (remove t found.0)) (common e t) both.1 (get_or t found.0 0)
          (set_of-filter (set_of e) t (get_or t found.0 0)
          ∙ and_from (set_of e (get_or t found.0 0)) (set_of t (get_or t found.0 0))
          (all-at (set_of e) y there (get_or t found.0 0) one) (all-at (set_of t) y within (get_or t found.0 0) one)) in
          (removed-in t found.0 (get_or t found.0 0) up lt kept).1 refl);
      is_old = show (lies_in (without (get_or t found.0 0) t)) (all-from (set_of d) (without (get_or t found.0 0) t) (λ q h.
          let into = without-in (get_or t found.0 0) t q h in
          inside d (remove t found.0) (same_list-true (common d t) (remove t found.0) both.0) q (removed-has found.0 lt q into.0 into.1)));
    }
  where
    inside : (d r : List ℕ) → common d t ≡ r → (q : ℕ) → set_of r q ≡ true → set_of d q ≡ true
    inside d r same q h =
        (and_parts (set_of d q) (set_of t q) (sym (set_of-filter (set_of d) t q) ∙ ap (λ z. set_of z q) same ∙ h)).0

    removed-has : (k : ℕ) → k < length t → (q : ℕ) → set_of t q ≡ true → (q ≡ get_or t k 0 → ⊥) → set_of (remove t k) q ≡ true
    removed-has k lt q h other = removed-other t k q up lt h other

pub lacks : (E : List (List ℕ)) (t y : List ℕ) → IsStrictlyIncreasing t → Fits E t → lies_in y t ≡ true → old E y ≡ true → Lacks E t y
lacks E t y up fits within o =
    let e = any-all (lies_in y) (λ e. list_any (λ d. meets d e t) E) E o fits in
    let d = any-witness (λ d. meets d e.0 t) E e.2 in
    lacks-meets E t y d.0 e.0 up within e.1 d.1 d.2
