-- Cocycles of degree 0 along a shelling.
--     edge-equal            two vertices of a simplex have one value
--     shelled-constant      so all vertices of a shelling have, if its simplices have two vertices or more
use Rattle.std.proofs.Common.{◌≡◌, ℕ, ◌<◌, ◌≤◌, Bool, true, false, ◌&&◌, ◌||◌, List, [], ◌∷◌, ◌++◌, length, nat_eq, refl, sym, ap, ◌∙◌, subst, arith, eqb-true, ⊎_elim, ◌⊎◌}
use Rattle.std.specs.List.Sorted.{IsStrictlyIncreasing}
use Rattle.std.proofs.lemmas.Bool.{true≢false, and_from, or_cases, or_left, or_right, cases_Bool, cases_order}
use Rattle.homology.specs.Parity.{xor}
use Rattle.homology.specs.Sets.{Ids, set_of}
use Rattle.homology.specs.Complexes.{Complex, IsComplex, simplex_at}
use Rattle.homology.specs.Chains.{IsCocycle, coboundary}
use Rattle.homology.proofs.ParityLaws.{nat_eq-self}
use Rattle.homology.proofs.FaceLists.{Picks, Picks-self}
use Rattle.homology.proofs.ListSetLaws.{Rises, Rises-ascending, ascending-Rises}
use Rattle.products.specs.Products.{value_at}
use Rattle.products.proofs.ValueLaws.{Found, value_at-there, value_at-coboundary}
use Rattle.manifolds.specs.Closed.{lies_in}
use Rattle.manifolds.proofs.LinkLaws.{all-at, there-id}
use Rattle.shellings.proofs.ShellingFacts.{old, old-less, old-more, without, without-has, Fits, Shells, Lacks, lacks}
use Rattle.shellings.proofs.FaceLaws.{face-found, some-fails}

vertex-lies : (w : ℕ) (t : List ℕ) → set_of t w ≡ true → lies_in (w ∷ []) t ≡ true
vertex-lies w t m = and_from (set_of t w) true m refl

lies-vertex : (w : ℕ) (t : List ℕ) → lies_in (w ∷ []) t ≡ true → set_of t w ≡ true
lies-vertex w t e = all-at (set_of t) (w ∷ []) e w (or_left (nat_eq w w) false (nat_eq-self w))

-- two numbers of a list that are all one: it has no two entries
one-entry : (w : ℕ) (t : List ℕ) → IsStrictlyIncreasing t → 2 ≤ length t → ((q : ℕ) → set_of t q ≡ true → nat_eq q w ≡ true) → ⊥
one-entry w [] up le all = omega arith
one-entry w (x ∷ []) up le all = omega arith
one-entry w (x ∷ y ∷ t) up le all =
    let r : Rises 0 (x ∷ y ∷ t) = Rises-ascending (x ∷ y ∷ t) up in
    let first : x ≡ w = eqb-true x w (all x (or_left (nat_eq x x) (set_of (y ∷ t) x) (nat_eq-self x))) in
    let second : y ≡ w =
    eqb-true y w (all y (or_right (nat_eq y x) (set_of (y ∷ t) y) (or_left (nat_eq y y) (set_of t y) (nat_eq-self y)))) in
    omega (arith, r.1.0, first, second)

module _ (L : Complex) (c : IsComplex L) (b : Ids) (B : IsCocycle L 0 b) where
  abbrev V : ℕ → Bool
  V w = value_at L b (w ∷ [])

  ordered-equal : (t : List ℕ) → Found L t → (u v : ℕ) → u < v → set_of t u ≡ true → set_of t v ≡ true → V u ≡ V v
  ordered-equal t found u v lt mu mv =
      let up : IsStrictlyIncreasing (u ∷ v ∷ []) = ascending-Rises 0 (u ∷ v ∷ []) (omega arith, (omega arith, tt)) in
      let e : Found L (u ∷ v ∷ []) =
      face-found L c t (u ∷ v ∷ []) found up (and_from (set_of t u) (set_of t v && true) mu (and_from (set_of t v) true mv refl)) (omega arith) in
      equal (V u) (V v)
      (sym (value_at-coboundary L c b e.id (u ∷ v ∷ []) e.within (subst (Picks (u ∷ v ∷ [])) (sym e.is) (Picks-self (u ∷ v ∷ []))))
      ∙ ap (value_at L (coboundary L b)) (sym e.is)
      ∙ value_at-there L c (coboundary L b) e.id e.within
      ∙ B.closed e.id e.within)
    where
      equal : (x y : Bool) → xor y (xor x false) ≡ false → x ≡ y
      equal true true h = refl
      equal true false h = absurd (true≢false h)
      equal false true h = absurd (true≢false h)
      equal false false h = refl

  edge-equal : (t : List ℕ) → Found L t → (u v : ℕ) → set_of t u ≡ true → set_of t v ≡ true → V u ≡ V v
  edge-equal t found u v mu mv = ⊎_elim
      (λ (same : u ≡ v). ap V same)
      (λ (apart : (u < v) ⊎ (v < u)). ⊎_elim
      (λ (lt : u < v). ordered-equal t found u v lt mu mv)
      (λ (gt : v < u). sym (ordered-equal t found v u gt mv mu))
      apart)
      (cases_order u v)

  -- one facet more: at most one vertex is new, and it has a neighbour
  facet-equal : (E : List (List ℕ)) (t : List ℕ) → Found L t → IsStrictlyIncreasing t → 2 ≤ length t → Fits E t → old E [] ≡ true → (value : Bool)
      → ((w : ℕ) → old E (w ∷ []) ≡ true → V w ≡ value) → (w : ℕ) → old (E ++ t ∷ []) (w ∷ []) ≡ true → V w ≡ value
  facet-equal E t found up wide fits begun value before w o = ⊎_elim
      (λ (earlier : old E (w ∷ []) ≡ true). before w earlier)
      (λ (within : lies_in (w ∷ []) t ≡ true). ⊎_elim
      (λ (earlier : old E (w ∷ []) ≡ true). before w earlier)
      (λ (new : old E (w ∷ []) ≡ false). fresh (lies-vertex w t within) new)
      (cases_Bool (old E (w ∷ []))))
      (or_cases (old E (w ∷ [])) (lies_in (w ∷ []) t) (sym (old-more E t (w ∷ [])) ∙ o))
    where
      l : Lacks E t []
      l = lacks E t [] up fits refl begun

      -- all other vertices of t are old
      others : (q : ℕ) → set_of t q ≡ true → (q ≡ l.vertex → ⊥) → old E (q ∷ []) ≡ true
      others q m other = old-less E (q ∷ []) (without l.vertex t) (vertex-lies q (without l.vertex t) (without-has l.vertex t q m other)) l.is_old

      fresh : set_of t w ≡ true → old E (w ∷ []) ≡ false → V w ≡ value
      fresh m new = ⊎_elim
          (λ (v : (v : ℕ) × (set_of t v ≡ true) × (nat_eq v l.vertex ≡ false)).
          edge-equal t found w v.0 m v.1
          ∙ before v.0 (others v.0 v.1 (λ e. true≢false (sym (nat_eq-self l.vertex) ∙ ap (λ z. nat_eq z l.vertex) (sym e) ∙ v.2))))
          (λ (all : (q : ℕ) → set_of t q ≡ true → nat_eq q l.vertex ≡ true). absurd (one-entry l.vertex t up wide all))
          (some-fails (λ q. nat_eq q l.vertex) t)

  ascends-found : (t : List ℕ) → Found L t → IsStrictlyIncreasing t
  ascends-found t f = subst IsStrictlyIncreasing f.is (c.simplices f.id f.within).ascending

  along-equal : (n : ℕ) → 2 ≤ n → (F E : List (List ℕ)) → Shells L n E F → old E [] ≡ true → (value : Bool)
      → ((w : ℕ) → old E (w ∷ []) ≡ true → V w ≡ value) → (w : ℕ) → (old E (w ∷ []) || old F (w ∷ [])) ≡ true → V w ≡ value
  along-equal n wide [] E S begun value before w o = ⊎_elim
      (λ (earlier : old E (w ∷ []) ≡ true). before w earlier)
      (λ (never : false ≡ true). absurd (true≢false (sym never)))
      (or_cases (old E (w ∷ [])) false o)
  along-equal n wide (t ∷ F) E S begun value before w o =
      let id = there-id L t S.1 in
      let found : Found L t = record { id = id.0; within = id.1; is = id.2 } in
      along-equal n wide F (E ++ t ∷ []) S.4 (old-more E t [] ∙ or_left (old E []) (lies_in [] t) begun) value
      (facet-equal E t found (ascends-found t found) (omega (arith, wide, S.0)) S.3 begun value before) w
      (ap (λ z. z || old F (w ∷ [])) (old-more E t (w ∷ [])) ∙ or-assoc (old E (w ∷ [])) (lies_in (w ∷ []) t) (old F (w ∷ [])) ∙ o)
    where
      or-assoc : (a b d : Bool) → ((a || b) || d) ≡ (a || (b || d))
      or-assoc true b d = refl
      or-assoc false b d = refl

  -- from the first facet on
  shelled-equal : (n : ℕ) → 2 ≤ n → (F : List (List ℕ)) → Shells L n [] F → (v w : ℕ) → old F (v ∷ []) ≡ true → old F (w ∷ []) ≡ true → V v ≡ V w
  shelled-equal n wide [] S v w o q = absurd (true≢false (sym o))
  shelled-equal n wide ([] ∷ F) S v w o q = absurd (omega (arith, wide, S.0))
  shelled-equal n wide ((x ∷ t) ∷ F) S v w o q = all v o ∙ sym (all w q)
    where
      found : Found L (x ∷ t)
      found = let id = there-id L (x ∷ t) S.1 in record { id = id.0; within = id.1; is = id.2 }

      start : (w : ℕ) → old ((x ∷ t) ∷ []) (w ∷ []) ≡ true → V w ≡ V x
      start w o = ⊎_elim
          (λ (within : lies_in (w ∷ []) (x ∷ t) ≡ true).
          edge-equal (x ∷ t) found w x (lies-vertex w (x ∷ t) within) (or_left (nat_eq x x) (set_of t x) (nat_eq-self x)))
          (λ (never : false ≡ true). absurd (true≢false (sym never)))
          (or_cases (lies_in (w ∷ []) (x ∷ t)) false o)

      all : (w : ℕ) → old ((x ∷ t) ∷ F) (w ∷ []) ≡ true → V w ≡ V x
      all w o = along-equal n wide F ((x ∷ t) ∷ []) S.4 refl (V x) start w
          (spread (lies_in (w ∷ []) (x ∷ t)) (old F (w ∷ [])) o)
        where
          spread : (a b : Bool) → (a || b) ≡ true → ((a || false) || b) ≡ true
          spread true b e = refl
          spread false b e = e

  pub shelled-constant : (n : ℕ) → 2 ≤ n → (F : List (List ℕ)) → Shells L n [] F → ((x : ℕ) → x < length L → old F (simplex_at L x) ≡ true)
      → (x y : ℕ) → x < length L → y < length L → length (simplex_at L x) ≡ 1 → length (simplex_at L y) ≡ 1 → b x ≡ b y
  shelled-constant n wide F S covered x y lx ly e f =
      let u = only (simplex_at L x) e in
      let v = only (simplex_at L y) f in
      sym (value_at-there L c b x lx)
      ∙ ap (value_at L b) u.1
      ∙ shelled-equal n wide F S u.0 v.0 (ap (old F) (sym u.1) ∙ covered x lx) (ap (old F) (sym v.1) ∙ covered y ly)
      ∙ ap (value_at L b) (sym v.1)
      ∙ value_at-there L c b y ly
    where
      only : (s : List ℕ) → length s ≡ 1 → (u : ℕ) × (s ≡ u ∷ [])
      only [] e = absurd (omega (arith, e))
      only (u ∷ []) e = (u, refl)
      only (u ∷ v ∷ s) e = absurd (omega (arith, e))
