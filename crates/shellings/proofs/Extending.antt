-- Cocycles below the dimension of a shelling are coboundaries.
--     cleared-by            a cocycle that is zero at the old simplices is made zero at those of one more facet by a coboundary
--     cleared-whole         where the facet alone is new, it is zero there below its dimension
--     cleared-all           along a shelling
-- The new faces of a facet pair off, each without a vertex v that is in all that is new, and with it. What the cocycle is at the face with v,
-- the change is at the one without it; then the cocycle is zero at all faces with v, and hence at those without it.
use Rattle.std.proofs.Common.{◌≡◌, ℕ, suc, ◌+◌, ◌<◌, ◌≤◌, Bool, true, false, ◌&&◌, ◌||◌, not, List, [], ◌∷◌, ◌++◌, length, nat_eq, nat_lt, refl, sym, ap, ◌∙◌, subst, arith, ltb-true, lt-ltb, ⊎_elim}
use Rattle.std.specs.List.Sorted.{IsStrictlyIncreasing}
use Rattle.std.proofs.lemmas.Bool.{true≢false, not-true, and_parts, and_from, and_left, or_cases, or_left, cases_Bool, cases_eq, cases_lt, false_from_ne_true}
use Rattle.homology.specs.Parity.{xor}
use Rattle.homology.specs.Sets.{Ids, empty, plus, set_of}
use Rattle.homology.specs.Complexes.{Complex, IsComplex, simplex_at, dim, incidence}
use Rattle.homology.specs.Chains.{IsChain, IsCocycle, IsCoboundary, coboundary}
use Rattle.homology.proofs.ParityLaws.{xor-self, nat_eq-self}
use Rattle.homology.proofs.BoundaryLaws.{odd-some, incidence-dim}
use Rattle.homology.proofs.SetLaws.{plus-assoc}
use Rattle.homology.proofs.ContractionFacts.{plus-chain}
use Rattle.homology.proofs.FaceLists.{Picks, Picks-self, Picks-length}
use Rattle.cohomology.proofs.Cocycles.{coboundary-plus}
use Rattle.cohomology.proofs.ClassLaws.{empty-chain}
use Rattle.cohomology.proofs.Canonicals.{xor-none}
use Rattle.products.specs.Products.{value_at}
use Rattle.products.proofs.SplittingLaws.{delta}
use Rattle.products.proofs.ValueLaws.{Found, value_at-there, value_at-empty, value_at-plus, picks-found, value_at-coboundary}
use Rattle.products.proofs.CoboundaryLaw.{value_at-length, coboundary-outside}
use Rattle.cohomology_operations.proofs.ChangeLaws.{coboundary-empty, coboundary-coboundary, cocycle-closed}
use Rattle.manifolds.specs.Closed.{lies_in}
use Rattle.manifolds.proofs.LinkLaws.{all-at, all-from, there-id}
use Rattle.manifolds.proofs.LyingLaws.{picks-lies}
use Rattle.shellings.proofs.ShellingFacts.{old, old-less, old-more, lies-through, without, without-in, without-has, Fits, Shells, Lacks, lacks}
use Rattle.shellings.proofs.FaceLaws.{lying-picks, face-found, filter-ascends, with_vertex, with_vertex-at, with_vertex-lies, without-lies, with_without, without_with, length-without, delta-same, delta-none, delta-at, some-fails}

-- what is the same with a coboundary, and zero at the old simplices
pub record Cleared (L : Complex) (p : ℕ) (E : List (List ℕ)) (b : Ids) : Type 0 where
  pub by : Ids
  pub chain : IsChain L p by
  pub zero : (x : ℕ) → x < length L → old E (simplex_at L x) ≡ true → plus b (coboundary L by) x ≡ false

-- the coboundary of a cochain of degree p has degree p + 1
coboundary-chain : (L : Complex) → IsComplex L → (p : ℕ) (u : Ids) → IsChain L p u → IsChain L (p + 1) (coboundary L u)
coboundary-chain L c p u chain = record {
  there = within;
  degree = λ x e.
      let some = odd-some (length L) (λ t. u t && incidence L t x) e in
      let both = and_parts (u some.0) (incidence L some.0 x) some.2 in
      omega (arith, incidence-dim L c some.0 x (within x e) both.1, chain.degree some.0 both.0);
}
  where
    within : (x : ℕ) → coboundary L u x ≡ true → x < length L
    within x e = ⊎_elim
        (λ (lt : x < length L). lt)
        (λ (le : length L ≤ x). absurd (true≢false (sym e ∙ coboundary-outside L u x le)))
        (cases_lt x (length L))

pub changed-cocycle : (L : Complex) → IsComplex L → (p : ℕ) (b u : Ids) → IsCocycle L (p + 1) b → IsChain L (p + 1) (coboundary L u) → IsCocycle L (p + 1) (plus b (coboundary L u))
changed-cocycle L c p b u B D = record {
  cochain = plus-chain L (p + 1) b (coboundary L u) B.cochain D;
  closed = λ x lt. ap (λ z. z x) (coboundary-plus L b (coboundary L u) ∙ λ i. plus (cocycle-closed L (p + 1) b B i) (coboundary-coboundary L c u i));
}

module _ (L : Complex) (c : IsComplex L) (p : ℕ) (E : List (List ℕ)) (t : List ℕ) (found : Found L t) (fits : Fits E t) where
  up : IsStrictlyIncreasing t
  up = subst IsStrictlyIncreasing found.is (c.simplices found.id found.within).ascending

  -- a simplex of L in t, as a face of it
  ascends : (x : ℕ) → x < length L → IsStrictlyIncreasing (simplex_at L x)
  ascends x lt = (c.simplices x lt).ascending

  module _ (v : ℕ) (there : set_of t v ≡ true) (fresh : old E (without v t) ≡ false) (b : Ids) (B : IsCocycle L (p + 1) b)
      (none : (x : ℕ) → x < length L → old E (simplex_at L x) ≡ true → b x ≡ false) where
    -- where y is new, it is so without v
    new-without : (y : List ℕ) → lies_in y t ≡ true → old E y ≡ false → old E (without v y) ≡ false
    new-without y within new = false_from_ne_true (old E (without v y)) (λ o.
        let l : Lacks E t (without v y) = lacks E t (without v y) up fits (lies-through (without v y) y t (without-lies v y) within) o in
        ⊎_elim
        (λ (in_y : set_of y l.vertex ≡ true).
        true≢false (sym l.is_old ∙ ap (λ w. old E (without w t)) (same l.vertex y in_y l.out) ∙ fresh))
        (λ (out_y : set_of y l.vertex ≡ false).
        true≢false (sym (old-less E y (without l.vertex t) (all-from (set_of (without l.vertex t)) y (λ q m.
        without-has l.vertex t q (all-at (set_of t) y within q m) (λ e. true≢false (sym m ∙ ap (set_of y) e ∙ out_y)))) l.is_old) ∙ new))
        (cases_Bool (set_of y l.vertex)))
      where
        same : (w : ℕ) (y : List ℕ) → set_of y w ≡ true → set_of (without v y) w ≡ false → w ≡ v
        same w y m out = ⊎_elim
            (λ (e : w ≡ v). e)
            (λ (other : w ≡ v → ⊥). absurd (true≢false (sym (without-has v y w m other) ∙ out)))
            (cases_eq w v)

    -- the change: at a new face without v, the value at the face with v
    abbrev changes : List ℕ → Bool
    changes y = nat_lt 0 (length y) && (not (old E y) && (lies_in y t && (not (set_of y v) && value_at L b (with_vertex t v y))))

    abbrev change : Ids
    change x = nat_lt x (length L) && changes (simplex_at L x)

    change-at : (x : ℕ) (s : List ℕ) → x < length L → Picks s (simplex_at L x) → value_at L change s ≡ changes s
    change-at x [] lt P = value_at-empty L c change
    change-at x (w ∷ s) lt P =
        let f : Found L (w ∷ s) = picks-found L c x (w ∷ s) lt P (omega arith) in
        ap (value_at L change) (sym f.is)
        ∙ value_at-there L c change f.id f.within
        ∙ ap (λ z. z && changes (simplex_at L f.id)) (lt-ltb f.id (length L) f.within)
        ∙ ap changes f.is

    changes-old : (y : List ℕ) → old E y ≡ true → changes y ≡ false
    changes-old y o =
        ap (λ z. nat_lt 0 (length y) && (not z && (lies_in y t && (not (set_of y v) && value_at L b (with_vertex t v y))))) o ∙ zero_right (nat_lt 0 (length y))
      where
        zero_right : (z : Bool) → (z && false) ≡ false
        zero_right true = refl
        zero_right false = refl

    changes-with : (y : List ℕ) → set_of y v ≡ true → changes y ≡ false
    changes-with y m =
        ap (λ z. nat_lt 0 (length y) && (not (old E y) && (lies_in y t && (not z && value_at L b (with_vertex t v y))))) m
        ∙ by (nat_lt 0 (length y)) (not (old E y)) (lies_in y t)
      where
        by : (a b d : Bool) → (a && (b && (d && false))) ≡ false
        by true true true = refl
        by true true false = refl
        by true false d = refl
        by false b d = refl

    changes-new : (y : List ℕ) → 0 < length y → old E y ≡ false → lies_in y t ≡ true → set_of y v ≡ false
        → changes y ≡ value_at L b (with_vertex t v y)
    changes-new y some new within out = λ i.
        lt-ltb 0 (length y) some i && (not (new i) && (within i && (not (out i) && value_at L b (with_vertex t v y))))

    abbrev after : Ids
    after = plus b (coboundary L change)

    -- its value at a simplex of L
    after-at : (x : ℕ) → x < length L → value_at L after (simplex_at L x) ≡ xor (value_at L b (simplex_at L x)) (delta changes (simplex_at L x))
    after-at x lt =
        value_at-plus L b (coboundary L change) (simplex_at L x)
        ∙ ap (xor (value_at L b (simplex_at L x)))
        (value_at-coboundary L c change x (simplex_at L x) lt (Picks-self (simplex_at L x))
        ∙ delta-same (value_at L change) changes (simplex_at L x) (λ z P. change-at x z lt P))

    after-old : (x : ℕ) → x < length L → old E (simplex_at L x) ≡ true → value_at L after (simplex_at L x) ≡ false
    after-old x lt o =
        after-at x lt
        ∙ λ i. xor
        ((value_at-there L c b x lt ∙ none x lt o) i)
        ((delta-same changes (λ z. false) (simplex_at L x)
        (λ z P. changes-old z (old-less E z (simplex_at L x) (picks-lies z (simplex_at L x) P) o)) ∙ delta-none (simplex_at L x)) i)

    after-with : (x : ℕ) → x < length L → lies_in (simplex_at L x) t ≡ true → set_of (simplex_at L x) v ≡ true → old E (simplex_at L x) ≡ false
        → value_at L after (simplex_at L x) ≡ false
    after-with x lt within m new =
        after-at x lt
        ∙ ap (xor (value_at L b (simplex_at L x)))
        (delta-at v changes (simplex_at L x) (ascends x lt) m (λ z P h. changes-with z h) ∙ ⊎_elim wide narrow (cases_lt 0 (length (without v (simplex_at L x)))))
        ∙ xor-self (value_at L b (simplex_at L x))
      where
        wide : 0 < length (without v (simplex_at L x)) → changes (without v (simplex_at L x)) ≡ value_at L b (simplex_at L x)
        wide some =
            changes-new (without v (simplex_at L x)) some (new-without (simplex_at L x) within new)
            (lies-through (without v (simplex_at L x)) (simplex_at L x) t (without-lies v (simplex_at L x)) within)
            (false_from_ne_true (set_of (without v (simplex_at L x)) v) (λ h. (without-in v (simplex_at L x) v h).1 refl))
            ∙ ap (value_at L b) (with_without t (simplex_at L x) v up (ascends x lt) within m)

        -- v alone: the degree of b is not 0
        narrow : length (without v (simplex_at L x)) ≤ 0 → changes (without v (simplex_at L x)) ≡ value_at L b (simplex_at L x)
        narrow le =
            and_left (nat_lt 0 (length (without v (simplex_at L x)))) _
            (false_from_ne_true (nat_lt 0 (length (without v (simplex_at L x)))) (λ h. omega (arith, le, ltb-true 0 (length (without v (simplex_at L x))) h)))
            ∙ sym (false_from_ne_true (value_at L b (simplex_at L x)) (λ h.
            omega (arith, le, length-without v (simplex_at L x) (ascends x lt) m, value_at-length L c (p + 1) b B.cochain (simplex_at L x) h)))

    -- the change has one degree less
    change-chain : IsChain L p change
    change-chain = record { there = λ x e. (parts x e).0; degree = λ x e. degree x e }
      where
        parts : (x : ℕ) → change x ≡ true → (x < length L) × (changes (simplex_at L x) ≡ true)
        parts x e = let both = and_parts (nat_lt x (length L)) (changes (simplex_at L x)) e in (ltb-true x (length L) both.0, both.1)

        degree : (x : ℕ) → change x ≡ true → dim L x ≡ p
        degree x e =
            let s : List ℕ = simplex_at L x in
            let lt : x < length L = (parts x e).0 in
            let a = and_parts (nat_lt 0 (length s)) (not (old E s) && (lies_in s t && (not (set_of s v) && value_at L b (with_vertex t v s)))) (parts x e).1 in
            let d = and_parts (not (old E s)) (lies_in s t && (not (set_of s v) && value_at L b (with_vertex t v s))) a.1 in
            let f = and_parts (lies_in s t) (not (set_of s v) && value_at L b (with_vertex t v s)) d.1 in
            let g = and_parts (not (set_of s v)) (value_at L b (with_vertex t v s)) f.1 in
            let long : length (with_vertex t v s) ≡ p + 1 + 1 = value_at-length L c (p + 1) b B.cochain (with_vertex t v s) g.1 in
            let member : set_of (with_vertex t v s) v ≡ true = with_vertex-own s in
            let short : length (without v (with_vertex t v s)) + 1 ≡ length (with_vertex t v s) =
            length-without v (with_vertex t v s) (filter-ascends _ t up) member in
            let same : without v (with_vertex t v s) ≡ s = without_with t s v up (ascends x lt) f.0 (not-true (set_of s v) g.0) in
            omega (arith, long, short, ap length same)
          where
            with_vertex-own : (s : List ℕ) → set_of (with_vertex t v s) v ≡ true
            with_vertex-own s =
                with_vertex-at t v s v ∙ and_from (nat_eq v v || set_of s v) (set_of t v) (or_left (nat_eq v v) (set_of s v) (nat_eq-self v)) there

    after-cocycle : IsCocycle L (p + 1) after
    after-cocycle = changed-cocycle L c p b change B (coboundary-chain L c p change change-chain)

    -- at a new face s without v: the coboundary at the face with v is zero, and all other faces of this one have v
    after-without : (x : ℕ) → x < length L → lies_in (simplex_at L x) t ≡ true → set_of (simplex_at L x) v ≡ false → value_at L after (simplex_at L x) ≡ false
    after-without x lt within out =
        ap (value_at L after) (sym (without_with t (simplex_at L x) v up (ascends x lt) within out))
        ∙ sym (delta-at v (value_at L after) more more-up own others)
        ∙ sym (value_at-coboundary L c after f.id more f.within (subst (Picks more) (sym f.is) (Picks-self more)))
        ∙ ap (value_at L (coboundary L after)) (sym f.is)
        ∙ value_at-there L c (coboundary L after) f.id f.within
        ∙ after-cocycle.closed f.id f.within
      where
        more : List ℕ
        more = with_vertex t v (simplex_at L x)

        more-up : IsStrictlyIncreasing more
        more-up = filter-ascends _ t up

        own : set_of more v ≡ true
        own =
            with_vertex-at t v (simplex_at L x) v
            ∙ and_from (nat_eq v v || set_of (simplex_at L x) v) (set_of t v) (or_left (nat_eq v v) (set_of (simplex_at L x) v) (nat_eq-self v)) there

        f : Found L more
        f = face-found L c t more found more-up (with_vertex-lies t v (simplex_at L x)) (some more own)
          where
            some : (s : List ℕ) → set_of s v ≡ true → 0 < length s
            some [] m = absurd (true≢false (sym m))
            some (w ∷ s) m = omega arith

        others : (z : List ℕ) → Picks z more → set_of z v ≡ true → value_at L after z ≡ false
        others [] P m = absurd (true≢false (sym m))
        others (w ∷ z) P m =
            let g : Found L (w ∷ z) = picks-found L c f.id (w ∷ z) f.within (subst (Picks (w ∷ z)) (sym f.is) P) (omega arith) in
            let z_in : lies_in (simplex_at L g.id) t ≡ true =
            ap (λ s. lies_in s t) g.is ∙ lies-through (w ∷ z) more t (picks-lies (w ∷ z) more P) (with_vertex-lies t v (simplex_at L x)) in
            ap (value_at L after) (sym g.is)
            ∙ ⊎_elim
            (λ (o : old E (simplex_at L g.id) ≡ true). after-old g.id g.within o)
            (λ (new : old E (simplex_at L g.id) ≡ false). after-with g.id g.within z_in (ap (λ s. set_of s v) g.is ∙ m) new)
            (cases_Bool (old E (simplex_at L g.id)))

    after-new : (x : ℕ) → x < length L → lies_in (simplex_at L x) t ≡ true → value_at L after (simplex_at L x) ≡ false
    after-new x lt within = ⊎_elim
        (λ (o : old E (simplex_at L x) ≡ true). after-old x lt o)
        (λ (new : old E (simplex_at L x) ≡ false). ⊎_elim
        (λ (m : set_of (simplex_at L x) v ≡ true). after-with x lt within m new)
        (λ (out : set_of (simplex_at L x) v ≡ false). after-without x lt within out)
        (cases_Bool (set_of (simplex_at L x) v)))
        (cases_Bool (old E (simplex_at L x)))

    pub cleared-by : Cleared L p (E ++ t ∷ []) b
    cleared-by = record {
      by = change;
      chain = change-chain;
      zero = λ x lt o. sym (value_at-there L c after x lt) ∙ ⊎_elim
          (λ (before : old E (simplex_at L x) ≡ true). after-old x lt before)
          (λ (within : lies_in (simplex_at L x) t ≡ true). after-new x lt within)
          (or_cases (old E (simplex_at L x)) (lies_in (simplex_at L x) t) (sym (old-more E t (simplex_at L x)) ∙ o));
    }

  -- where t is old without any of its vertices, all its proper faces are old
  pub cleared-whole : ((w : ℕ) → set_of t w ≡ true → old E (without w t) ≡ true) → p + 1 + 1 < length t → (b : Ids) → IsCocycle L (p + 1) b
      → ((x : ℕ) → x < length L → old E (simplex_at L x) ≡ true → b x ≡ false) → Cleared L p (E ++ t ∷ []) b
  cleared-whole all short b B none = record {
    by = empty;
    chain = empty-chain L p;
    zero = λ x lt o. (λ i. xor (value x lt o i) (ap (λ z. z x) (coboundary-empty L) i));
  }
    where
      value : (x : ℕ) → x < length L → old (E ++ t ∷ []) (simplex_at L x) ≡ true → b x ≡ false
      value x lt o = false_from_ne_true (b x) (λ one. ⊎_elim
          (λ (before : old E (simplex_at L x) ≡ true). true≢false (sym one ∙ none x lt before))
          (λ (within : lies_in (simplex_at L x) t ≡ true). ⊎_elim
          (λ (lacking : (w : ℕ) × (set_of t w ≡ true) × (set_of (simplex_at L x) w ≡ false)).
          true≢false (sym one ∙ none x lt (old-less E (simplex_at L x) (without lacking.0 t) (all-from (set_of (without lacking.0 t)) (simplex_at L x) (λ q m.
          without-has lacking.0 t q (all-at (set_of t) (simplex_at L x) within q m) (λ e. true≢false (sym m ∙ ap (set_of (simplex_at L x)) e ∙ lacking.2))))
          (all lacking.0 lacking.1))))
          (λ (whole : (w : ℕ) → set_of t w ≡ true → set_of (simplex_at L x) w ≡ true).
          omega (
            arith,
            short,
            B.cochain.degree x one,
            Picks-length t (simplex_at L x) (lying-picks t (simplex_at L x) up (ascends x lt) (all-from (set_of (simplex_at L x)) t whole)),
          ))
          (some-fails (set_of (simplex_at L x)) t))
          (or_cases (old E (simplex_at L x)) (lies_in (simplex_at L x) t) (sym (old-more E t (simplex_at L x)) ∙ o)))

  pub cleared-facet : p + 1 + 1 < length t → (b : Ids) → IsCocycle L (p + 1) b
      → ((x : ℕ) → x < length L → old E (simplex_at L x) ≡ true → b x ≡ false) → Cleared L p (E ++ t ∷ []) b
  cleared-facet short b B none = ⊎_elim
      (λ (v : (v : ℕ) × (set_of t v ≡ true) × (old E (without v t) ≡ false)). cleared-by v.0 v.1 v.2 b B none)
      (λ (all : (w : ℕ) → set_of t w ≡ true → old E (without w t) ≡ true). cleared-whole all short b B none)
      (some-fails (λ w. old E (without w t)) t)

-- along a list that shells, after E
pub record ClearedAlong (L : Complex) (p : ℕ) (E F : List (List ℕ)) (b : Ids) : Type 0 where
  pub by : Ids
  pub chain : IsChain L p by
  pub zero : (x : ℕ) → x < length L → (old E (simplex_at L x) || old F (simplex_at L x)) ≡ true → plus b (coboundary L by) x ≡ false

pub cleared-all : (L : Complex) → IsComplex L → (p n : ℕ) → p + 1 + 1 < n → (F E : List (List ℕ)) → Shells L n E F → (b : Ids) → IsCocycle L (p + 1) b
    → ((x : ℕ) → x < length L → old E (simplex_at L x) ≡ true → b x ≡ false) → ClearedAlong L p E F b
cleared-all L c p n short [] E S b B none = record {
  by = empty;
  chain = empty-chain L p;
  zero = λ x lt o. ⊎_elim
      (λ (before : old E (simplex_at L x) ≡ true). λ i. xor (none x lt before i) (ap (λ z. z x) (coboundary-empty L) i))
      (λ (never : false ≡ true). absurd (true≢false (sym never)))
      (or_cases (old E (simplex_at L x)) false o);
}
cleared-all L c p n short (t ∷ F) E S b B none = joined first (cleared-all L c p n short F (E ++ t ∷ []) S.4 (plus b (coboundary L first.by)) (changed first) first.zero)
  where
    there : Found L t
    there = let id = there-id L t S.1 in record { id = id.0; within = id.1; is = id.2 }

    first : Cleared L p (E ++ t ∷ []) b
    first = cleared-facet L c p E t there S.3 (omega (arith, short, S.0)) b B none

    changed : (f : Cleared L p (E ++ t ∷ []) b) → IsCocycle L (p + 1) (plus b (coboundary L f.by))
    changed f = changed-cocycle L c p b f.by B (coboundary-chain L c p f.by f.chain)

    joined : (f : Cleared L p (E ++ t ∷ []) b) → ClearedAlong L p (E ++ t ∷ []) F (plus b (coboundary L f.by)) → ClearedAlong L p E (t ∷ F) b
    joined f g = record {
      by = plus f.by g.by;
      chain = plus-chain L p f.by g.by f.chain g.chain;
      zero = λ x lt o.
          ap (λ z. z x) (ap (plus b) (coboundary-plus L f.by g.by) ∙ sym (plus-assoc b (coboundary L f.by) (coboundary L g.by)))
          ∙ g.zero x lt (ap (λ z. z || old F (simplex_at L x)) (old-more E t (simplex_at L x)) ∙ or-assoc (old E (simplex_at L x)) (lies_in (simplex_at L x) t) (old F (simplex_at L x)) ∙ o);
    }
      where
        or-assoc : (a b d : Bool) → ((a || b) || d) ≡ (a || (b || d))
        or-assoc true b d = refl
        or-assoc false b d = refl

-- so below the dimension of the shelling each cocycle of positive degree is a coboundary
pub shelled-coboundary : (L : Complex) → IsComplex L → (p n : ℕ) → p + 1 + 1 < n → (F : List (List ℕ)) → Shells L n [] F
    → ((x : ℕ) → x < length L → old F (simplex_at L x) ≡ true) → (b : Ids) → IsCocycle L (p + 1) b → IsCoboundary L (suc p) b
shelled-coboundary L c p n short F S covered b B =
    let r : ClearedAlong L p [] F b = cleared-all L c p n short F [] S b B (λ x lt o. absurd (true≢false (sym o))) in
    (r.by, r.chain, λ x lt. xor-none (b x) (coboundary L r.by x) (r.zero x lt (covered x lt)))
