-- A graph in which each vertex lies in two edges, and all are reached from one, has the Betti numbers 1 1.
--     reached-self, reached-step     vertices that are reached along edges
--     circle-betti                   the Betti numbers
use Rattle.std.proofs.Common.{◌≡◌, ℕ, ◌<◌, ◌≤◌, Bool, true, false, not, ◌&&◌, map, length, nat_eq, nat_lt, eqb-true, eq-eqb, ltb-true, lt-ltb, refl, sym, ap, subst, ◌∙◌, arith, ⊎_elim, inl, inr, ◌⊎◌}
use Rattle.std.specs.List.{range_with_len, remove}
use Rattle.std.proofs.lemmas.Bool.{true≢false, and_parts, and_from, cases_eq, false_from_ne_true}
use Rattle.homology.specs.Parity.{xor}
use Rattle.homology.specs.Sets.{Ids, empty, plus, single}
use Rattle.homology.specs.Complexes.{Complex, IsComplex, HasFace, dim, dimensions, incidence, simplex_at}
use Rattle.homology.specs.Chains.{IsChain, IsCycle, boundary, boundary_of}
use Rattle.homology.specs.Kinds.{betti, is_positive, is_bounding, is_essential}
use Rattle.homology.proofs.ParityLaws.{nat_eq-self, nat_eq-apart, odd-same, odd-one, odd-xor, xor-false}
use Rattle.homology.proofs.SetLaws.{same_members, plus-self, image-plus, image-single, image-empty, image-source}
use Rattle.homology.proofs.BoundaryLaws.{FaceAt-incidence, FaceAt-length, incidence-is, incidence_of, incidence-earlier}
use Rattle.homology.proofs.KindSteps.{tests-same}
use Rattle.homology.proofs.KindLaws.{is_positive-true, is_positive-holds, is_bounding-true, is_bounding-holds}
use Rattle.homology.proofs.LatestMembers.{Latest, latest_or_empty}
use Rattle.complex_store.proofs.FaceLaws.{incidence_of-face}
use Rattle.manifolds.specs.Links.{sphere_counts}
use Rattle.manifold_links.proofs.CountLaws.{count-one, sphere-list}
use Rattle.manifold_links.proofs.LengthLaws.{longest-most, longest-least}
use Rattle.manifold_links.proofs.FirstVertexLaws.{first-point, first-betti}

-- the two edges in which a vertex lies
pub record Two (L : Complex) (q : ℕ) : Type 0 where
  pub one : ℕ
  pub other : ℕ
  pub one_below : one < length L
  pub other_below : other < length L
  pub apart : one ≡ other → ⊥
  pub at_one : incidence L q one ≡ true
  pub at_other : incidence L q other ≡ true
  pub no_more : (t : ℕ) → t < length L → incidence L q t ≡ true → (t ≡ one) ⊎ (t ≡ other)

-- the ends p and q of a path
record Joined (L : Complex) (p q : ℕ) : Type 0 where
  path : Ids
  chain : IsChain L 1 path
  is : boundary L path ≡ plus (single p) (single q)

-- all edges at q are in z, or none are
abbrev Flat : Complex → Ids → ℕ → Bool → Type 0
Flat L z q b = (t : ℕ) → t < length L → incidence L q t ≡ true → z t ≡ b

-- q is reached from p
pub record Reached (L : Complex) (p q : ℕ) : Type 0 where
  joined : Joined L p q
  flat : (z : Ids) → IsCycle L 1 z → (b : Bool) → Flat L z p b → Flat L z q b

xor-one : (a b : Bool) → xor a b ≡ true → (a ≡ true) ⊎ (b ≡ true)
xor-one true b e = inl refl
xor-one false b e = inr e

xor-through : (a b d : Bool) → xor (xor a b) (xor b d) ≡ xor a d
xor-through true true true = refl
xor-through true true false = refl
xor-through true false true = refl
xor-through true false false = refl
xor-through false true true = refl
xor-through false true false = refl
xor-through false false true = refl
xor-through false false false = refl

xor-same : (a b : Bool) → xor a b ≡ false → a ≡ b
xor-same true true e = refl
xor-same false false e = refl
xor-same true false e = e
xor-same false true e = sym e

module _ (L : Complex) (c : IsComplex L) (short : (t : ℕ) → t < length L → length (simplex_at L t) ≤ 2)
    (two : (q : ℕ) → q < length L → length (simplex_at L q) ≡ 1 → Two L q) where
  -- the boundary of edges at a vertex
  at-vertex : (z : Ids) (q : ℕ) (T : Two L q) → boundary L z q ≡ xor (z T.one) (z T.other)
  at-vertex z q T =
      odd-same (length L) (λ t. z t && incidence L q t) (λ t. xor (nat_eq t T.one && z t) (nat_eq t T.other && z t)) (λ t th. by t th (incidence L q t) refl)
      ∙ odd-xor (length L) (λ t. nat_eq t T.one && z t) (λ t. nat_eq t T.other && z t)
      ∙ (λ i. xor (odd-one (length L) T.one z T.one_below i) (odd-one (length L) T.other z T.other_below i))
    where
      both : (b : Bool) → (b && true) ≡ b
      both true = refl
      both false = refl

      none : (b : Bool) → (b && false) ≡ false
      none true = refl
      none false = refl

      by : (t : ℕ) → t < length L → (i : Bool) → incidence L q t ≡ i → (z t && incidence L q t) ≡ xor (nat_eq t T.one && z t) (nat_eq t T.other && z t)
      by t th true e = ap (λ b. z t && b) e ∙ both (z t) ∙ ⊎_elim
          (λ (first : t ≡ T.one). sym ((λ j. xor (eq-eqb t T.one first j && z t) (nat_eq-apart t T.other (λ s. T.apart (sym first ∙ s)) j && z t)) ∙ xor-false (z t)))
          (λ (second : t ≡ T.other). sym (λ j. xor (nat_eq-apart t T.one (λ s. T.apart (sym s ∙ second)) j && z t) (eq-eqb t T.other second j && z t)))
          (T.no_more t th e)
      by t th false e = ap (λ b. z t && b) e ∙ none (z t) ∙ sym (λ j. xor
          (nat_eq-apart t T.one (λ s. true≢false (sym T.at_one ∙ ap (incidence L q) (sym s) ∙ e)) j && z t)
          (nat_eq-apart t T.other (λ s. true≢false (sym T.at_other ∙ ap (incidence L q) (sym s) ∙ e)) j && z t))

  -- an edge and its ends
  edge-long : (q y : ℕ) → y < length L → incidence L q y ≡ true → (length (simplex_at L q) ≡ 1) × (length (simplex_at L y) ≡ 2)
  edge-long q y yh e =
      let face = FaceAt-incidence L q y e in
      let n = FaceAt-length face in
      let some : 0 < length (simplex_at L q) = (c.simplices q (omega (arith, incidence-earlier L c q y yh e, yh))).nonempty in
      (omega (arith, n, some, short y yh), omega (arith, n, some, short y yh))

  edge-chain : (y : ℕ) → y < length L → length (simplex_at L y) ≡ 2 → IsChain L 1 (single y)
  edge-chain y yh long = record {
    there = λ t m. omega (arith, eqb-true t y m, yh);
    degree = λ t m. ap (dim L) (eqb-true t y m) ∙ omega (arith, long);
  }

  ends : (p q y : ℕ) → y < length L → incidence L p y ≡ true → incidence L q y ≡ true → (p ≡ q → ⊥) → boundary_of L y ≡ plus (single p) (single q)
  ends p q y yh ep eq apart = same_members (boundary_of L y) (plus (single p) (single q)) (λ w. tests-same (incidence L w y) (xor (nat_eq w p) (nat_eq w q))
      (λ m. there w m)
      (λ m. ⊎_elim
      (λ (first : nat_eq w p ≡ true). ap (λ z. incidence L z y) (eqb-true w p first) ∙ ep)
      (λ (second : nat_eq w q ≡ true). ap (λ z. incidence L z y) (eqb-true w q second) ∙ eq)
      (xor-one (nat_eq w p) (nat_eq w q) m)))
    where
      below : (w : ℕ) → incidence L w y ≡ true → w < length L
      below w m = omega (arith, incidence-earlier L c w y yh m, yh)

      same : (v w : ℕ) (m : incidence L v y ≡ true) (n : incidence L w y ≡ true) → (FaceAt-incidence L v y m).place ≡ (FaceAt-incidence L w y n).place → v ≡ w
      same v w m n e = c.distinct v w (below v m) (below w n)
          ((FaceAt-incidence L v y m).is ∙ ap (remove (simplex_at L y)) e ∙ sym (FaceAt-incidence L w y n).is)

      there : (w : ℕ) → incidence L w y ≡ true → xor (nat_eq w p) (nat_eq w q) ≡ true
      there w m = ⊎_elim
          (λ (first : w ≡ p). λ i. xor (eq-eqb w p first i) (nat_eq-apart w q (λ s. apart (sym first ∙ s)) i))
          (λ (other : w ≡ p → ⊥). (λ i. xor (nat_eq-apart w p other i) (eq-eqb w q (last other) i)))
          (cases_eq w p)
        where
          last : (w ≡ p → ⊥) → w ≡ q
          last other = same w q m eq (omega (
            arith,
            (FaceAt-incidence L w y m).below,
            (FaceAt-incidence L p y ep).below,
            (FaceAt-incidence L q y eq).below,
            (edge-long w y yh m).1,
            λ (e : (FaceAt-incidence L w y m).place ≡ (FaceAt-incidence L p y ep).place). other (same w p m ep e),
            λ (e : (FaceAt-incidence L p y ep).place ≡ (FaceAt-incidence L q y eq).place). apart (same p q ep eq e),
          ))

  pub reached-self : (p : ℕ) → Reached L p p
  reached-self p = record {
    joined = record {
      path = empty;
      chain = record { there = λ t m. absurd (true≢false (sym m)); degree = λ t m. absurd (true≢false (sym m)) };
      is = image-empty (length L) (boundary_of L) ∙ sym (plus-self (single p));
    };
    flat = λ z cycle b h. h;
  }

  pub reached-step : (p q r y : ℕ) → Reached L p q → y < length L → incidence L q y ≡ true → incidence L r y ≡ true → Reached L p r
  reached-step p q r y R yh eq er = ⊎_elim
      (λ (same : q ≡ r). subst (Reached L p) same R)
      (λ (apart : q ≡ r → ⊥). record {
        joined = record {
          path = plus R.joined.path (single y);
          chain = record {
            there = λ t m. ⊎_elim (λ (old : R.joined.path t ≡ true). R.joined.chain.there t old) (λ (new : nat_eq t y ≡ true). (edge-chain y yh (edge-long q y yh eq).1).there t new)
                (xor-one (R.joined.path t) (nat_eq t y) m);
            degree = λ t m. ⊎_elim (λ (old : R.joined.path t ≡ true). R.joined.chain.degree t old) (λ (new : nat_eq t y ≡ true). (edge-chain y yh (edge-long q y yh eq).1).degree t new)
                (xor-one (R.joined.path t) (nat_eq t y) m);
          };
          is = image-plus (length L) (boundary_of L) R.joined.path (single y)
              ∙ (λ i. plus (R.joined.is i) ((image-single (length L) (boundary_of L) y yh ∙ ends q r y yh eq er apart) i))
              ∙ same_members (plus (plus (single p) (single q)) (plus (single q) (single r))) (plus (single p) (single r))
              (λ w. xor-through (nat_eq w p) (nat_eq w q) (nat_eq w r));
        };
        flat = λ z cycle b h t th inc. next z cycle b (R.flat z cycle b h) t th inc;
      })
      (cases_eq q r)
    where
      r_below : r < length L
      r_below = omega (arith, incidence-earlier L c r y yh er, yh)

      next : (z : Ids) → IsCycle L 1 z → (b : Bool) → Flat L z q b → (t : ℕ) → t < length L → incidence L r t ≡ true → z t ≡ b
      next z cycle b h t th inc =
          let T : Two L r = two r r_below (edge-long r y yh er).0 in
          let equal : z T.one ≡ z T.other = xor-same (z T.one) (z T.other) (sym (at-vertex z r T) ∙ ap (λ w. w r) cycle.closed) in
          let here : z y ≡ b = h y yh eq in
          let all : z T.one ≡ b = ⊎_elim
          (λ (first : y ≡ T.one). ap z (sym first) ∙ here)
          (λ (second : y ≡ T.other). equal ∙ ap z (sym second) ∙ here)
          (T.no_more y yh er) in
          ⊎_elim (λ (first : t ≡ T.one). ap z first ∙ all) (λ (second : t ≡ T.other). ap z second ∙ sym equal ∙ all) (T.no_more t th inc)

  module _ (start : ℕ) (sh : start < length L) (point : length (simplex_at L start) ≡ 1)
      (all : (q : ℕ) → q < length L → length (simplex_at L q) ≡ 1 → Reached L start q) where
    S : Two L start
    S = two start sh point

    edges : Ids
    edges = λ t. nat_lt t (length L) && nat_eq (length (simplex_at L t)) 2

    edges-parts : (t : ℕ) → edges t ≡ true → (t < length L) × (length (simplex_at L t) ≡ 2)
    unfolding edges
    edges-parts t m = let both = and_parts (nat_lt t (length L)) (nat_eq (length (simplex_at L t)) 2) m in (ltb-true t (length L) both.0, eqb-true (length (simplex_at L t)) 2 both.1)

    edges-hold : (t : ℕ) → t < length L → length (simplex_at L t) ≡ 2 → edges t ≡ true
    unfolding edges
    edges-hold t h e = and_from (nat_lt t (length L)) (nat_eq (length (simplex_at L t)) 2) (lt-ltb t (length L) h) (eq-eqb (length (simplex_at L t)) 2 e)

    edges-chain : IsChain L 1 edges
    edges-chain = record { there = λ t m. (edges-parts t m).0; degree = λ t m. omega (arith, (edges-parts t m).1) }

    edges-closed : boundary L edges ≡ empty
    edges-closed = same_members (boundary L edges) empty (λ q. false_from_ne_true (boundary L edges q) (λ m.
        let s = image-source (length L) (boundary_of L) edges q m in
        let T : Two L q = two q (omega (arith, incidence-earlier L c q s.at s.below s.gives, s.below)) (edge-long q s.at s.below s.gives).0 in
        true≢false (sym m ∙ at-vertex edges q T
        ∙ (λ i. xor (edges-hold T.one T.one_below (edge-long q T.one T.one_below T.at_one).1 i) (edges-hold T.other T.other_below (edge-long q T.other T.other_below T.at_other).1 i)))))

    some-edge : edges S.one ≡ true
    some-edge = edges-hold S.one S.one_below (edge-long start S.one S.one_below S.at_one).1

    last : Latest edges
    last = ⊎_elim
        (λ (none : edges ≡ empty). absurd (true≢false (sym some-edge ∙ ap (λ z. z S.one) none)))
        (λ (l : Latest edges). l)
        (latest_or_empty (length L) edges (λ t m. (edges-parts t m).0))

    last-edge : (last.at < length L) × (length (simplex_at L last.at) ≡ 2)
    last-edge = edges-parts last.at last.latest.member

    no-filling : (z : Ids) → IsChain L 2 z → boundary L z ≡ empty
    no-filling z chain = same_members (boundary L z) empty (λ q. false_from_ne_true (boundary L z q) (λ m.
        let s = image-source (length L) (boundary_of L) z q m in
        omega (arith, chain.degree s.at s.member, short s.at s.below)))

    not-bounding : (t : ℕ) → t < length L → length (simplex_at L t) ≡ 2 → is_bounding L t ≡ false
    not-bounding t h long = false_from_ne_true (is_bounding L t) (λ m.
        let b = (is_bounding-true L c t m).0 in
        true≢false (sym b.latest.member ∙ ap (λ z. z t) (b.is_boundary.is ∙ no-filling b.is_boundary.filling
        (subst (λ d. IsChain L d b.is_boundary.filling) (omega (arith, long)) b.is_boundary.chain))))

    last-essential : is_essential L last.at ≡ true
    last-essential = and_from (is_positive L last.at) (not (is_bounding L last.at))
        (is_positive-holds L c last.at (record {
          cycle = edges;
          is_cycle = subst (λ d. IsCycle L d edges) (omega (arith, last-edge.1)) (record { chain = edges-chain; closed = edges-closed });
          latest = last.latest;
        }))
        (ap not (not-bounding last.at last-edge.0 last-edge.1))

    -- a cycle of edges has all or none
    flat-all : (z : Ids) → IsCycle L 1 z → (t : ℕ) → t < length L → length (simplex_at L t) ≡ 2 → z t ≡ z S.one
    flat-all z cycle t h long =
        let face : HasFace L t 0 = c.closed t 0 h (omega (arith, long)) (omega (arith, long)) in
        let fh : face.id < length L = omega (arith, face.earlier, h) in
        let inc : incidence L face.id t ≡ true = incidence-is L face.id t ∙ ap (λ l. incidence_of l (simplex_at L t)) face.is
        ∙ incidence_of-face (simplex_at L t) 0 (c.simplices t h).ascending (omega (arith, long)) (omega (arith, long)) in
        (all face.id fh (edge-long face.id t h inc).0).flat z cycle (z S.one) at-start t h inc
      where
        at-start : Flat L z start (z S.one)
        at-start t h inc = ⊎_elim
            (λ (first : t ≡ S.one). ap z first)
            (λ (second : t ≡ S.other). ap z second ∙ sym (xor-same (z S.one) (z S.other) (sym (at-vertex z start S) ∙ ap (λ w. w start) cycle.closed)))
            (S.no_more t h inc)

    edge-essential : (t : ℕ) → t < length L → length (simplex_at L t) ≡ 2 → is_essential L t ≡ true → t ≡ last.at
    edge-essential t h long m =
        let p = (is_positive-true L c t (and_parts (is_positive L t) (not (is_bounding L t)) m).0).0 in
        let cycle : IsCycle L 1 p.cycle = subst (λ d. IsCycle L d p.cycle) (omega (arith, long)) p.is_cycle in
        let there : p.cycle last.at ≡ true = flat-all p.cycle cycle last.at last-edge.0 last-edge.1 ∙ sym (flat-all p.cycle cycle t h long) ∙ p.latest.member in
        omega (arith, p.latest.greatest last.at there, last.latest.greatest t (edges-hold t h long))

    -- of the vertices the first alone is essential
    vertex-bounding : (t : ℕ) → t < length L → length (simplex_at L t) ≡ 1 → 0 < t → is_bounding L t ≡ true
    vertex-bounding t h one low = is_bounding-holds L c t (record {
      bound = plus (single 0) (single t);
      is_boundary = record {
        filling = plus from.path to.path;
        chain = subst (λ d. IsChain L d (plus from.path to.path)) (omega (arith, one)) (record {
          there = λ q m. ⊎_elim (λ (i : from.path q ≡ true). from.chain.there q i) (λ (i : to.path q ≡ true). to.chain.there q i) (xor-one (from.path q) (to.path q) m);
          degree = λ q m. ⊎_elim (λ (i : from.path q ≡ true). from.chain.degree q i) (λ (i : to.path q ≡ true). to.chain.degree q i) (xor-one (from.path q) (to.path q) m);
        });
        is = sym (image-plus (length L) (boundary_of L) from.path to.path
            ∙ (λ i. plus (from.is i) (to.is i))
            ∙ same_members (plus (plus (single start) (single 0)) (plus (single start) (single t))) (plus (single 0) (single t))
            (λ w. xor-from (nat_eq w start) (nat_eq w 0) (nat_eq w t)));
      };
      latest = record {
        member = (λ i. xor (nat_eq-apart t 0 (λ s. omega (arith, s, low)) i) (nat_eq-self t i));
        greatest = λ q m. ⊎_elim
            (λ (first : nat_eq q 0 ≡ true). omega (arith, eqb-true q 0 first))
            (λ (second : nat_eq q t ≡ true). omega (arith, eqb-true q t second))
            (xor-one (nat_eq q 0) (nat_eq q t) m);
      };
    })
      where
        from : Joined L start 0
        from = (all 0 (omega (arith, h)) (first-point L c (omega (arith, sh)))).joined

        to : Joined L start t
        to = (all t h one).joined

        xor-from : (a b d : Bool) → xor (xor a b) (xor a d) ≡ xor b d
        xor-from true true true = refl
        xor-from true true false = refl
        xor-from true false true = refl
        xor-from true false false = refl
        xor-from false b d = refl

    pub circle-betti : map (betti L) (range_with_len 0 (dimensions L)) ≡ sphere_counts 2
    circle-betti =
        ap (λ d. map (betti L) (range_with_len 0 d)) long
        ∙ sphere-list (betti L) 2 (omega arith)
        (first-betti L c (omega (arith, sh)) vertex-bounding)
        (count-one (is_essential L) (λ t. nat_eq (dim L t) 1) last.at (length L) 0 (omega arith) (omega (arith, last-edge.0)) (λ t le lt. at-last t (omega (arith, lt))))
        (λ p low high. absurd (omega (arith, low, high)))
      where
        long : dimensions L ≡ 2
        long = omega (arith, longest-most L 0 2 (omega arith) short, longest-least L 0 last.at last-edge.0, last-edge.1)

        at-last : (t : ℕ) → t < length L → (nat_eq (dim L t) 1 && is_essential L t) ≡ nat_eq t last.at
        at-last t h = tests-same (nat_eq (dim L t) 1 && is_essential L t) (nat_eq t last.at)
            (λ m. let both = and_parts (nat_eq (dim L t) 1) (is_essential L t) m in
            eq-eqb t last.at (edge-essential t h (omega (arith, eqb-true (dim L t) 1 both.0, (c.simplices t h).nonempty)) both.1))
            (λ m. let same : t ≡ last.at = eqb-true t last.at m in
            and_from (nat_eq (dim L t) 1) (is_essential L t) (eq-eqb (dim L t) 1 (ap (dim L) same ∙ omega (arith, last-edge.1))) (ap (is_essential L) same ∙ last-essential))
