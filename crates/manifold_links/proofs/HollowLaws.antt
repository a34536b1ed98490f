-- The boundary of a simplex, whose first vertex is v and whose others are r, has the Betti numbers of a sphere.
--     cone-negative       a simplex v u, where u has a vertex, is negative
--     base-bounding       a simplex u without v, where v u is there, is the latest member of a boundary
--     essentials          so v and r are the essential simplices
--     hollow-betti        and the Betti numbers are those of a sphere; where r is one vertex there are two points
use Rattle.std.proofs.Common.{◌≡◌, ℕ, zero, suc, ◌+◌, ◌-◌, ◌<◌, ◌≤◌, true, false, not, ◌&&◌, List, [], ◌∷◌, ◌++◌, map, length, nat_eq, refl, sym, ap, subst, ◌∙◌, arith, eqb-true, eq-eqb, ⊎_elim, inl, inr, ◌⊎◌}
use Rattle.std.specs.List.{range_with_len, remove}
use Rattle.std.proofs.lemmas.Bool.{true≢false, and_parts, and_from, cases_lt, false_from_ne_true}
use Rattle.std.proofs.lemmas.List.Edits.{length-remove}
use Rattle.homology.specs.Parity.{odd}
use Rattle.homology.specs.Sets.{Ids, empty, single, IsLatest}
use Rattle.homology.specs.Simplices.{IsSimplex}
use Rattle.homology.specs.Complexes.{Complex, IsComplex, HasFace, dim, dimensions, incidence, simplex_at}
use Rattle.homology.specs.Chains.{IsChain, boundary, boundary_of}
use Rattle.homology.specs.Kinds.{betti, is_positive, is_bounding, is_essential}
use Rattle.homology.specs.Growth.{is_there}
use Rattle.homology.proofs.ParityLaws.{nat_eq-self, odd-same, odd-one}
use Rattle.homology.proofs.SetLaws.{image-source, image-single}
use Rattle.homology.proofs.BoundaryLaws.{FaceAt-incidence, FaceAt-incidence_of, FaceAt-length, boundary_of-vertex, incidence-is, incidence_of, incidence-earlier, incidence-dim, simplex_at-old, simplex_at-new}
use Rattle.homology.proofs.KindSteps.{tests-same}
use Rattle.homology.proofs.KindLaws.{is_positive-true, is_positive-holds, is_bounding-true, is_bounding-holds}
use Rattle.homology.proofs.ListSetLaws.{Rises, Rises-ascending}
use Rattle.homology.proofs.FaceLists.{Picks, Picks-self, Picks-length, Picks-rises}
use Rattle.homology.proofs.FacetLaws.{IsComplex-next}
use Rattle.homology.proofs.OneMore as one_more
use Rattle.complex_store.proofs.FaceLaws.{incidence_of-face}
use Rattle.manifolds.specs.Links.{sphere_counts}
use Rattle.manifolds.proofs.LinkLaws.{there-id}
use Rattle.manifolds.proofs.PointLaws.{are_points, points-betti}
use Rattle.manifolds.proofs.LyingLaws.{lies-picks, picks-step, picks-same}
use Rattle.manifold_links.specs.Hollows.{IsHollow}
use Rattle.manifold_links.proofs.CountLaws.{count-none, count-one, sphere-list}
use Rattle.manifold_links.proofs.LengthLaws.{longest-most, longest-least}
use Rattle.manifold_links.proofs.SortedLaws.{front-first}
use Rattle.manifold_links.proofs.EndsLaws.{even-ends}

-- u is in L
pub record Stands (L : Complex) (u : List ℕ) : Type 0 where
  pub id : ℕ
  pub below : id < length L
  pub is : simplex_at L id ≡ u

-- a complex has all faces of a simplex
pub pick-there : (d : ℕ) (L : Complex) → IsComplex L → (y : ℕ) (u : List ℕ) → y < length L → Picks u (simplex_at L y) → 0 < length u
    → length (simplex_at L y) ≤ length u + d → Stands L u
pick-there zero L c y u h p some most = record { id = y; below = h; is = sym (picks-same u (simplex_at L y) p (omega (arith, most, Picks-length u (simplex_at L y) p))) }
pick-there (suc d) L c y u h p some most = ⊎_elim
    (λ (less : length u < length (simplex_at L y)).
    let step = picks-step u (simplex_at L y) p less in
    let face : HasFace L y step.place = c.closed y step.place h (omega (arith, some, less)) step.below in
    pick-there d L c face.id u (omega (arith, face.earlier, h)) (subst (λ (l : List ℕ). Picks u l) (sym face.is) step.picks) some
    (omega (arith, most, ap length face.is, length-remove (simplex_at L y) step.place step.below)))
    (λ (le : length (simplex_at L y) ≤ length u). pick-there d L c y u h p some (omega (arith, le)))
    (cases_lt (length u) (length (simplex_at L y)))

-- vertices alone
pub points-from : (L : Complex) → ((t : ℕ) → t < length L → length (simplex_at L t) ≡ 1) → are_points L ≡ true
points-from [] h = refl
points-from (s ∷ L) h = and_from (nat_eq (length s) 1) (are_points L) (eq-eqb (length s) 1 (h 0 (omega arith))) (points-from L (λ t lt. h (suc t) (omega (arith, lt))))

-- a face of v r begins with v or leaves it out
abbrev Side : List ℕ → ℕ → List ℕ → Type 0
Side l v r = ((u : List ℕ) × (l ≡ v ∷ u) × Picks u r) ⊎ Picks l r

picks-side : (l : List ℕ) (v : ℕ) (r : List ℕ) → Picks l (v ∷ r) → 0 < length l → Side l v r
picks-side [] v r p h = absurd (omega (arith, h))
picks-side (y ∷ u) v r p h = ⊎_elim
    (λ (here : (y ≡ v) × Picks u r). inl (u, (λ i. here.0 i ∷ u), here.1))
    (λ (later : Picks (y ∷ u) r). inr later)
    p

-- one that leaves it out does not begin with it
starts-above : (v : ℕ) (r u : List ℕ) (w : List ℕ) → Rises (v + 1) r → Picks u r → u ≡ v ∷ w → ⊥
starts-above v r u w up p e =
    let above : Rises (v + 1) (v ∷ w) = Picks-rises (v + 1) (v ∷ w) r up (subst (λ (l : List ℕ). Picks l r) e p) in
    omega (arith, above.0)

module _ (L : Complex) (v : ℕ) (r : List ℕ) (H : IsHollow L v r) where
  rises : Rises (v + 1) r
  rises = (Rises-ascending (v ∷ r) H.simplex.ascending).1

  -- each face that is not v r itself is there
  all-there : (u : List ℕ) → Picks u (v ∷ r) → 0 < length u → length u ≤ length r → Stands L u
  all-there u p some most =
      let step = picks-step u (v ∷ r) p (omega (arith, most)) in
      let at = there-id L (remove (v ∷ r) step.place) (H.faces step.place step.below) in
      pick-there (length (v ∷ r)) L H.complex at.0 u at.1 (subst (λ (l : List ℕ). Picks u l) (sym at.2) step.picks) some
      (omega (arith, ap length at.2, length-remove (v ∷ r) step.place step.below))

  -- one with v comes before one without of as many vertices
  before-list : (x y : ℕ) (u l : List ℕ) → x < length L → simplex_at L x ≡ v ∷ u → simplex_at L y ≡ l → Picks l r → length l ≡ length u + 1 → x < y
  before-list x y u [] h e f p long = absurd (omega (arith, long))
  before-list x y u (b ∷ t) h e f p long =
      front-first L H.up x y v b u t h e f (omega (arith, long)) (omega (arith, (Picks-rises (v + 1) (b ∷ t) r rises p).0))

  side-of : (t : ℕ) → t < length L → Side (simplex_at L t) v r
  side-of t h = picks-side (simplex_at L t) v r
      (lies-picks 0 0 (simplex_at L t) (v ∷ r) (Rises-ascending (simplex_at L t) (H.complex.simplices t h).ascending) (Rises-ascending (v ∷ r) H.simplex.ascending) (H.within t h))
      (H.complex.simplices t h).nonempty

  -- what is left of v u without one vertex: u, or else it begins with v
  leave : (x : ℕ) (u : List ℕ) (k : ℕ) (P : Type 0) → simplex_at L x ≡ remove (v ∷ u) k → (simplex_at L x ≡ u → P) → ((w : List ℕ) → simplex_at L x ≡ v ∷ w → P) → P
  leave x u zero P e first other = first e
  leave x u (suc k) P e first other = other (remove u k) e

  -- the sum of a set over the faces u of v u
  cone-alone : (c : Ids) (x y t : ℕ) (u : List ℕ) → y < length L → simplex_at L y ≡ v ∷ u → x < length L → simplex_at L x ≡ u → Picks u r → IsLatest c y
      → t < length L → c t ≡ true → incidence L x t ≡ true → t ≡ y
  cone-alone c x y t u yh e xh f p latest th m inc = ⊎_elim
      (λ (with_v : (w : List ℕ) × (simplex_at L t ≡ v ∷ w) × Picks w r).
      let face = FaceAt-incidence L x t inc in
      leave x with_v.0 face.place (t ≡ y) (face.is ∙ ap (λ l. remove l face.place) with_v.1)
      (λ same. H.complex.distinct t y th yh (with_v.1 ∙ ap (λ l. v ∷ l) (sym same ∙ f) ∙ sym e))
      (λ w other. absurd (starts-above v r u w rises p (sym f ∙ other))))
      (λ (without : Picks (simplex_at L t) r).
      absurd (omega (
        arith,
        latest.greatest t m,
        before-list y t u (simplex_at L t) yh e refl without (sym (FaceAt-length (FaceAt-incidence L x t inc)) ∙ ap (λ l. length l + 1) f),
      )))
      (side-of t th)

  cone-incidence : (x y : ℕ) (u : List ℕ) → y < length L → simplex_at L y ≡ v ∷ u → 0 < length u → simplex_at L x ≡ u → incidence L x y ≡ true
  cone-incidence x y u yh e some f =
      incidence-is L x y
      ∙ (λ i. incidence_of (f i) (e i))
      ∙ incidence_of-face (v ∷ u) 0 (subst (λ (l : List ℕ). IsSimplex l) e (H.complex.simplices y yh)).ascending (omega (arith, some)) (omega arith)

  pub cone-negative : (y : ℕ) (u : List ℕ) → y < length L → simplex_at L y ≡ v ∷ u → 0 < length u → Picks u r → is_positive L y ≡ false
  cone-negative y u yh e some p = false_from_ne_true (is_positive L y) (λ m.
      let pos = (is_positive-true L H.complex y m).0 in
      let at : Stands L u = all-there u (inr-picks u p some) some (Picks-length u r p) in
      let member = pos.latest.member in
      let one : boundary L pos.cycle at.id ≡ true =
      odd-same (length L) (λ t. pos.cycle t && incidence L at.id t) (λ t. nat_eq t y && true)
      (λ t th. tests-same (pos.cycle t && incidence L at.id t) (nat_eq t y && true)
      (λ both. let parts = and_parts (pos.cycle t) (incidence L at.id t) both in
      and_from (nat_eq t y) true (eq-eqb t y (cone-alone pos.cycle at.id y t u yh e at.below at.is p pos.latest th parts.0 parts.1)) refl)
      (λ both. let same : t ≡ y = eqb-true t y (and_parts (nat_eq t y) true both).0 in
      and_from (pos.cycle t) (incidence L at.id t) (ap pos.cycle same ∙ member) (ap (incidence L at.id) same ∙ cone-incidence at.id y u yh e some at.is)))
      ∙ odd-one (length L) y (λ _. true) yh in
      true≢false (sym one ∙ ap (λ z. z at.id) pos.is_cycle.closed))
    where
      inr-picks : (l : List ℕ) → Picks l r → 0 < length l → Picks l (v ∷ r)
      inr-picks [] q h = tt
      inr-picks (z ∷ l) q h = inr q

  -- a face of v u is u, or comes before it
  face-before : (x q : ℕ) (u : List ℕ) (k : ℕ) → x < length L → simplex_at L x ≡ u → Picks u r → q < length L → simplex_at L q ≡ remove (v ∷ u) k
      → length (simplex_at L q) ≡ length u → q ≤ x
  face-before x q u k xh f p qh e long = leave q u k (q ≤ x) e
      (λ same. omega (arith, H.complex.distinct q x qh xh (same ∙ sym f)))
      (λ w other. omega (arith, before-list q x w u qh other f p (omega (arith, long, ap length other))))

  pub base-bounding : (x t : ℕ) (u : List ℕ) → x < length L → simplex_at L x ≡ u → Picks u r → t < length L → simplex_at L t ≡ v ∷ u → is_bounding L x ≡ true
  base-bounding x t u xh f p th e = is_bounding-holds L H.complex x (record {
    bound = boundary_of L t;
    is_boundary = record {
      filling = single t;
      chain = record {
        there = λ q m. omega (arith, eqb-true q t m, th);
        degree = λ q m. ap (dim L) (eqb-true q t m) ∙ omega (arith, ap length e, ap length f, some);
      };
      is = sym (image-single (length L) (boundary_of L) t th);
    };
    latest = record {
      member = cone-incidence x t u th e some f;
      greatest = λ q m.
          let face = FaceAt-incidence L q t m in
          face-before x q u face.place xh f p (omega (arith, incidence-earlier L H.complex q t th m, th)) (face.is ∙ ap (λ l. remove l face.place) e)
          (omega (arith, FaceAt-length face, ap length e));
    };
  })
    where
      some : 0 < length u
      some = omega (arith, (H.complex.simplices x xh).nonempty, ap length f)

  -- with v r itself it is a complex too
  whole : IsComplex (L ++ (v ∷ r) ∷ [])
  whole = IsComplex-next L (v ∷ r) H.complex (record {
    simplex = H.simplex;
    fresh = false_from_ne_true (is_there L (v ∷ r)) (λ e.
        let at = there-id L (v ∷ r) e in omega (arith, H.proper at.0 at.1, ap length at.2));
    faces_there = λ k w h. H.faces k h;
  })

  -- the faces of v r
  hollow : Ids
  hollow = boundary_of (L ++ (v ∷ r) ∷ []) (length L)

  hollow-faces : (q : ℕ) → q < length L → hollow q ≡ incidence_of (simplex_at L q) (v ∷ r)
  unfolding hollow
  hollow-faces q h = incidence-is (L ++ (v ∷ r) ∷ []) q (length L) ∙ (λ i. incidence_of (simplex_at-old L (v ∷ r) q h i) (simplex_at-new L (v ∷ r) i))

  pub last-essential : (f : ℕ) → f < length L → simplex_at L f ≡ r → is_essential L f ≡ true
  unfolding hollow
  last-essential f h is = and_from (is_positive L f) (not (is_bounding L f)) positive (ap not bounding)
    where
      within : (q : ℕ) → hollow q ≡ true → q < length L
      within q m = one_more.boundary_of-within L (v ∷ r) whole q m

      degree : (q : ℕ) → hollow q ≡ true → dim L q ≡ dim L f
      degree q m = omega (arith, one_more.boundary_of-dim L (v ∷ r) whole q m, ap length (simplex_at-new L (v ∷ r)), ap length is, H.wide)

      greatest : (q : ℕ) → hollow q ≡ true → q ≤ f
      greatest q m =
          let qh = within q m in
          let face = FaceAt-incidence_of (simplex_at L q) (v ∷ r) (sym (hollow-faces q qh) ∙ m) in
          face-before f q r face.place h is (Picks-self r) qh face.is (omega (arith, FaceAt-length face))

      positive : is_positive L f ≡ true
      positive = is_positive-holds L H.complex f (record {
        cycle = hollow;
        is_cycle = record { chain = record { there = within; degree = degree }; closed = one_more.boundary_of-closed L (v ∷ r) whole };
        latest = record {
          member = hollow-faces f h ∙ ap (λ l. incidence_of l (v ∷ r)) is ∙ incidence_of-face (v ∷ r) 0 H.simplex.ascending (omega (arith, H.wide)) (omega arith);
          greatest = greatest;
        };
      })

      bounding : is_bounding L f ≡ false
      bounding = false_from_ne_true (is_bounding L f) (λ m.
          let b = (is_bounding-true L H.complex f m).0 in
          let s = image-source (length L) (boundary_of L) b.is_boundary.filling f (ap (λ z. z f) (sym b.is_boundary.is) ∙ b.latest.member) in
          omega (arith, b.is_boundary.chain.degree s.at s.member, H.proper s.at s.below, ap length is, H.wide))

  pub first-essential : (a : ℕ) → a < length L → simplex_at L a ≡ v ∷ [] → is_essential L a ≡ true
  first-essential a h is = and_from (is_positive L a) (not (is_bounding L a)) positive (ap not bounding)
    where
      point : dim L a ≡ 0
      point = omega (arith, ap length is)

      same : (q : ℕ) → single a q ≡ true → q ≡ a
      same q m = eqb-true q a m

      closed : boundary L (single a) ≡ empty
      closed = image-single (length L) (boundary_of L) a h ∙ boundary_of-vertex L H.complex a h point

      positive : is_positive L a ≡ true
      positive = is_positive-holds L H.complex a (record {
        cycle = single a;
        is_cycle = record { chain = record { there = λ q m. omega (arith, same q m, h); degree = λ q m. ap (dim L) (same q m) }; closed = closed };
        latest = record { member = nat_eq-self a; greatest = λ q m. omega (arith, same q m) };
      })

      -- of the vertices it is the first
      alone : (b : Ids) → IsLatest b a → ((q : ℕ) → b q ≡ true → (q < length L) × (length (simplex_at L q) ≡ 1)) → (q : ℕ) → q < length L → b q ≡ (nat_eq q a && true)
      alone b latest points q qh = tests-same (b q) (nat_eq q a && true)
          (λ m. and_from (nat_eq q a) true (eq-eqb q a (by q m (side-of q qh))) refl)
          (λ m. ap b (eqb-true q a (and_parts (nat_eq q a) true m).0) ∙ latest.member)
        where
          by : (q : ℕ) → b q ≡ true → Side (simplex_at L q) v r → q ≡ a
          by q m side = ⊎_elim
              (λ (with_v : (u : List ℕ) × (simplex_at L q ≡ v ∷ u) × Picks u r).
              H.complex.distinct q a (points q m).0 h (with_v.1 ∙ ap (λ l. v ∷ l) (no-list with_v.0 (omega (arith, ap length with_v.1, (points q m).1))) ∙ sym is))
              (λ (without : Picks (simplex_at L q) r).
              absurd (omega (arith, latest.greatest q m, before-list a q [] (simplex_at L q) h is refl without (points q m).1)))
              side
            where
              no-list : (u : List ℕ) → length u ≡ 0 → u ≡ []
              no-list [] e = refl
              no-list (z ∷ u) e = absurd (omega (arith, e))

      bounding : is_bounding L a ≡ false
      bounding = false_from_ne_true (is_bounding L a) (λ m.
          let b = (is_bounding-true L H.complex a m).0 in
          let chain : IsChain L 1 b.is_boundary.filling = subst (λ d. IsChain L d b.is_boundary.filling) (omega (arith, point)) b.is_boundary.chain in
          let points : (q : ℕ) → b.bound q ≡ true → (q < length L) × (length (simplex_at L q) ≡ 1) = λ q e.
          let s = image-source (length L) (boundary_of L) b.is_boundary.filling q (ap (λ z. z q) (sym b.is_boundary.is) ∙ e) in
          let qh : q < length L = omega (arith, incidence-earlier L H.complex q s.at s.below s.gives, s.below) in
          (qh, omega (arith, incidence-dim L H.complex q s.at s.below s.gives, chain.degree s.at s.member, (H.complex.simplices q qh).nonempty)) in
          let odd_one : odd (length L) b.bound ≡ true =
          odd-same (length L) b.bound (λ q. nat_eq q a && true) (alone b.bound b.latest points) ∙ odd-one (length L) a (λ _. true) h in
          true≢false (sym odd_one ∙ ap (odd (length L)) b.is_boundary.is ∙ even-ends L H.complex b.is_boundary.filling chain))

  -- no other simplex is essential
  other-not : (a f : ℕ) → a < length L → simplex_at L a ≡ v ∷ [] → f < length L → simplex_at L f ≡ r
      → (t : ℕ) → t < length L → is_essential L t ≡ true → (t ≡ a) ⊎ (t ≡ f)
  other-not a f ah ais fh fis t h m = ⊎_elim
      (λ (with_v : (u : List ℕ) × (simplex_at L t ≡ v ∷ u) × Picks u r). inl (apex with_v.0 with_v.1 with_v.2))
      (λ (without : Picks (simplex_at L t) r). inr (base without))
      (side-of t h)
    where
      both : (is_positive L t ≡ true) × (not (is_bounding L t) ≡ true)
      both = and_parts (is_positive L t) (not (is_bounding L t)) m

      apex : (u : List ℕ) → simplex_at L t ≡ v ∷ u → Picks u r → t ≡ a
      apex [] e p = H.complex.distinct t a h ah (e ∙ sym ais)
      apex (z ∷ u) e p = absurd (true≢false (sym both.0 ∙ cone-negative t (z ∷ u) h e (omega arith) p))

      base : Picks (simplex_at L t) r → t ≡ f
      base p = ⊎_elim
          (λ (less : length (simplex_at L t) < length r).
          let cone = all-there (v ∷ simplex_at L t) (inl (refl, p)) (omega arith) (omega (arith, less)) in
          absurd (true≢false (sym both.1 ∙ ap not (base-bounding t cone.id (simplex_at L t) h refl p cone.below cone.is))))
          (λ (le : length r ≤ length (simplex_at L t)).
          H.complex.distinct t f h fh (picks-same (simplex_at L t) r p (omega (arith, le, Picks-length (simplex_at L t) r p)) ∙ sym fis))
          (cases_lt (length (simplex_at L t)) (length r))

  wide-betti : 1 < length r → map (betti L) (range_with_len 0 (dimensions L)) ≡ sphere_counts (length r)
  wide-betti many =
      ap (λ d. map (betti L) (range_with_len 0 d)) long
      ∙ sphere-list (betti L) (length r) many
      (count-one (is_essential L) (λ t. nat_eq (dim L t) 0) a.id (length L) 0 (omega arith) (omega (arith, a.below)) (λ t le lt. at-first t (omega (arith, lt))))
      (count-one (is_essential L) (λ t. nat_eq (dim L t) (length r - 1)) f.id (length L) 0 (omega arith) (omega (arith, f.below)) (λ t le lt. at-last t (omega (arith, lt))))
      (λ p low high. count-none (is_essential L) (λ t. nat_eq (dim L t) p) (length L) 0 (λ t le lt. between p t low high (omega (arith, lt))))
    where
      a : Stands L (v ∷ [])
      a = all-there (v ∷ []) (inl (refl, tt)) (omega arith) (omega (arith, H.wide))

      f : Stands L r
      f = let at = there-id L r (H.faces 0 (omega arith)) in record { id = at.0; below = at.1; is = at.2 }

      long : dimensions L ≡ length r
      long = omega (arith, longest-most L 0 (length r) (omega arith) H.proper, longest-least L 0 f.id f.below, ap length f.is)

      cases : (t : ℕ) → t < length L → is_essential L t ≡ true → (t ≡ a.id) ⊎ (t ≡ f.id)
      cases t h m = other-not a.id f.id a.below a.is f.below f.is t h m

      a-dim : dim L a.id ≡ 0
      a-dim = omega (arith, ap length a.is)

      f-dim : dim L f.id ≡ length r - 1
      f-dim = omega (arith, ap length f.is)

      at-first : (t : ℕ) → t < length L → (nat_eq (dim L t) 0 && is_essential L t) ≡ nat_eq t a.id
      at-first t h = tests-same (nat_eq (dim L t) 0 && is_essential L t) (nat_eq t a.id)
          (λ m. let both = and_parts (nat_eq (dim L t) 0) (is_essential L t) m in
          ⊎_elim
          (λ (same : t ≡ a.id). eq-eqb t a.id same)
          (λ (last : t ≡ f.id). absurd (omega (arith, eqb-true (dim L t) 0 both.0, ap (dim L) last, f-dim, many)))
          (cases t h both.1))
          (λ m. let same : t ≡ a.id = eqb-true t a.id m in
          and_from (nat_eq (dim L t) 0) (is_essential L t) (eq-eqb (dim L t) 0 (ap (dim L) same ∙ a-dim)) (ap (is_essential L) same ∙ first-essential a.id a.below a.is))

      at-last : (t : ℕ) → t < length L → (nat_eq (dim L t) (length r - 1) && is_essential L t) ≡ nat_eq t f.id
      at-last t h = tests-same (nat_eq (dim L t) (length r - 1) && is_essential L t) (nat_eq t f.id)
          (λ m. let both = and_parts (nat_eq (dim L t) (length r - 1)) (is_essential L t) m in
          ⊎_elim
          (λ (first : t ≡ a.id). absurd (omega (arith, eqb-true (dim L t) (length r - 1) both.0, ap (dim L) first, a-dim, many)))
          (λ (same : t ≡ f.id). eq-eqb t f.id same)
          (cases t h both.1))
          (λ m. let same : t ≡ f.id = eqb-true t f.id m in
          and_from (nat_eq (dim L t) (length r - 1)) (is_essential L t) (eq-eqb (dim L t) (length r - 1) (ap (dim L) same ∙ f-dim))
          (ap (is_essential L) same ∙ last-essential f.id f.below f.is))

      between : (p t : ℕ) → 0 < p → p < length r - 1 → t < length L → (nat_eq (dim L t) p && is_essential L t) ≡ false
      between p t low high h = false_from_ne_true (nat_eq (dim L t) p && is_essential L t) (λ m.
          let both = and_parts (nat_eq (dim L t) p) (is_essential L t) m in
          let degree : dim L t ≡ p = eqb-true (dim L t) p both.0 in
          ⊎_elim
          (λ (first : t ≡ a.id). omega (arith, degree, ap (dim L) first, a-dim, low))
          (λ (last : t ≡ f.id). omega (arith, degree, ap (dim L) last, f-dim, high))
          (cases t h both.1))

  -- two points
  pair-betti : length r ≡ 1 → map (betti L) (range_with_len 0 (dimensions L)) ≡ sphere_counts (length r)
  pair-betti one =
      points-betti L H.complex (points-from L point) (omega (arith, a.below))
      ∙ ap (λ n. n ∷ []) two
      ∙ ap sphere_counts (sym one)
    where
      a : Stands L (v ∷ [])
      a = all-there (v ∷ []) (inl (refl, tt)) (omega arith) (omega (arith, one))

      f : Stands L r
      f = let at = there-id L r (H.faces 0 (omega arith)) in record { id = at.0; below = at.1; is = at.2 }

      point : (t : ℕ) → t < length L → length (simplex_at L t) ≡ 1
      point t h = omega (arith, H.proper t h, (H.complex.simplices t h).nonempty, one)

      no-list : (u : List ℕ) → length u ≡ 0 → u ≡ []
      no-list [] e = refl
      no-list (z ∷ u) e = absurd (omega (arith, e))

      either : (t : ℕ) → t < length L → (t ≡ a.id) ⊎ (t ≡ f.id)
      either t h = ⊎_elim
          (λ (with_v : (u : List ℕ) × (simplex_at L t ≡ v ∷ u) × Picks u r).
          inl (H.complex.distinct t a.id h a.below (with_v.1 ∙ ap (λ l. v ∷ l) (no-list with_v.0 (omega (arith, ap length with_v.1, point t h))) ∙ sym a.is)))
          (λ (without : Picks (simplex_at L t) r).
          inr (H.complex.distinct t f.id h f.below (picks-same (simplex_at L t) r without (omega (arith, point t h, one)) ∙ sym f.is)))
          (side-of t h)

      first : a.id < f.id
      first = before-list a.id f.id [] (simplex_at L f.id) a.below a.is refl (subst (λ (l : List ℕ). Picks l r) (sym f.is) (Picks-self r)) (point f.id f.below)

      nought : a.id ≡ 0
      nought = ⊎_elim (λ (e : 0 ≡ a.id). sym e) (λ (e : 0 ≡ f.id). absurd (omega (arith, e, first))) (either 0 (omega (arith, a.below)))

      unit : f.id ≡ 1
      unit = ⊎_elim (λ (e : 1 ≡ a.id). absurd (omega (arith, e, nought))) (λ (e : 1 ≡ f.id). sym e) (either 1 (omega (arith, first, f.below)))

      two : length L ≡ 2
      two = ⊎_elim
          (λ (e : length L - 1 ≡ a.id). absurd (omega (arith, e, nought, unit, f.below)))
          (λ (e : length L - 1 ≡ f.id). omega (arith, e, unit, f.below))
          (either (length L - 1) (omega (arith, a.below)))

  pub hollow-betti : map (betti L) (range_with_len 0 (dimensions L)) ≡ sphere_counts (length r)
  hollow-betti = ⊎_elim (λ (many : 1 < length r). wide-betti many) (λ (le : length r ≤ 1). pair-betti (omega (arith, le, H.wide))) (cases_lt 1 (length r))
