-- A link that is the boundary of a simplex.
--     over-in             what has the vertices of x lies in w, where the cofaces of x do
--     bounded-hollow      where w is bounded around x, the link of x is the boundary of the simplex that w has besides
--     bounded-betti       so it has the Betti numbers of a sphere
use Rattle.std.proofs.Common.{◌≡◌, ◌≢◌, ℕ, zero, suc, ◌+◌, ◌-◌, ◌<◌, ◌≤◌, Bool, true, false, not, ◌&&◌, ◌||◌, List, [], ◌∷◌, map, length, get_or, refl, sym, ap, subst, ◌∙◌, arith, ⊎_elim}
use Rattle.std.specs.List.{filter, list_all, list_any, range_with_len, remove}
use Rattle.std.specs.List.Sorted.{IsStrictlyIncreasing}
use Rattle.std.proofs.lemmas.Bool.{true≢false, and_parts, and_from, or_left, or_right, cases_eq, cases_lt, not-true}
use Rattle.std.proofs.lemmas.List.Edits.{length-remove}
use Rattle.std.proofs.lemmas.List.Folds.{list_any_at}
use Rattle.homology.specs.Sets.{set_of}
use Rattle.homology.specs.Simplices.{IsSimplex, same_list}
use Rattle.homology.specs.Complexes.{Complex, IsComplex, HasFace, dimensions, incidence, simplex_at}
use Rattle.homology.specs.Growth.{is_there}
use Rattle.homology.proofs.BoundaryLaws.{same_list-same}
use Rattle.homology.proofs.ListSetLaws.{Rises-ascending, ascending-remove}
use Rattle.homology.proofs.FaceLists.{Picks, Picks-length}
use Rattle.manifolds.specs.Closed.{lies_in}
use Rattle.manifolds.specs.Links.{is_union, are_apart, in_link, link, link_betti, sphere_counts}
use Rattle.manifolds.proofs.LyingLaws.{lies-picks, picks-lies, picks-step, picks-same}
use Rattle.manifolds.proofs.LinkLaws.{all-at, all-from, found-at, place-of, set_of-at, removed-other, removed-in, there-id, InLink, link-there, there-link, link-complex}
use Rattle.manifold_links.specs.Stars.{rest, IsBounded}
use Rattle.manifold_links.specs.Hollows.{Up, IsHollow}
use Rattle.manifold_links.proofs.AscendingLaws.{rest-length}
use Rattle.manifold_links.proofs.CoverLaws.{lying-picks, picks-incidence}
use Rattle.manifold_links.proofs.StarLaws.{rest-parts, rest-holds, rest-ascending, union-parts, union-longer}
use Rattle.manifold_links.proofs.SortedLaws.{up-ordered}
use Rattle.manifold_links.proofs.HollowLaws.{Stands, pick-there, hollow-betti}
use Rattle.manifold_links.proofs.LengthLaws.{longest-least}

-- of ascending lists
lying : (s t : List ℕ) → IsStrictlyIncreasing s → IsStrictlyIncreasing t → lies_in s t ≡ true → Picks s t
lying s t sp tp e = lies-picks 0 0 s t (Rises-ascending s sp) (Rises-ascending t tp) e

module _ (K : Complex) (c : IsComplex K) (x : ℕ) (h : x < length K) (w : List ℕ)
    (all_above : (z : ℕ) → z < length K → incidence K x z ≡ true → lies_in (simplex_at K z) w ≡ true) where
  -- a simplex with two vertices more is covered by two faces with one more
  two-faces : (s u : List ℕ) (p q : ℕ) → IsSimplex u → p < length u → q < length u → get_or u q 0 ≢ get_or u p 0
      → lies_in (remove u p) w ≡ true → lies_in (remove u q) w ≡ true → lies_in u w ≡ true
  two-faces s u p q cu ph qh apart one two = all-from (set_of w) u (λ v m. ⊎_elim
      (λ (same : v ≡ get_or u p 0). all-at (set_of w) (remove u q) two v (removed-other u q v cu.ascending qh m (λ e. apart (sym e ∙ same))))
      (λ (other : v ≡ get_or u p 0 → ⊥). all-at (set_of w) (remove u p) one v (removed-other u p v cu.ascending ph m other))
      (cases_eq v (get_or u p 0)))

  pub over-in : (d u : ℕ) → u < length K → Picks (simplex_at K x) (simplex_at K u) → length (simplex_at K u) ≡ (length (simplex_at K x) + 1) + d
      → lies_in (simplex_at K u) w ≡ true
  over-in zero u uh p long = all_above u uh (picks-incidence K c x u h uh p (omega (arith, long)))
  over-in (suc d) u uh p long =
      let cu : IsSimplex (simplex_at K u) = c.simplices u uh in
      let some : 0 < length (simplex_at K x) = (c.simplices x h).nonempty in
      let step = picks-step (simplex_at K x) (simplex_at K u) p (omega (arith, long)) in
      let face : HasFace K u step.place = c.closed u step.place uh (omega (arith, long, some)) step.below in
      let fh : face.id < length K = omega (arith, face.earlier, uh) in
      let cf : IsSimplex (remove (simplex_at K u) step.place) = subst IsSimplex face.is (c.simplices face.id fh) in
      let shorter = length-remove (simplex_at K u) step.place step.below in
      let one : lies_in (remove (simplex_at K u) step.place) w ≡ true =
      ap (λ l. lies_in l w) (sym face.is) ∙ over-in d face.id fh (subst (λ (l : List ℕ). Picks (simplex_at K x) l) (sym face.is) step.picks) (omega (arith, ap length face.is, shorter, long)) in
      let step2 = picks-step (simplex_at K x) (remove (simplex_at K u) step.place) step.picks (omega (arith, shorter, long)) in
      let z : ℕ = get_or (remove (simplex_at K u) step.place) step2.place 0 in
      let z_in = removed-in (simplex_at K u) step.place z cu.ascending step.below (set_of-at (remove (simplex_at K u) step.place) step2.place step2.below) in
      let q = place-of (simplex_at K u) z z_in.0 in
      let face2 : HasFace K u q.0 = c.closed u q.0 uh (omega (arith, long, some)) q.1 in
      let f2h : face2.id < length K = omega (arith, face2.earlier, uh) in
      let cf2 : IsSimplex (remove (simplex_at K u) q.0) = subst IsSimplex face2.is (c.simplices face2.id f2h) in
      let s_in : lies_in (simplex_at K x) (remove (simplex_at K u) q.0) ≡ true =
      all-from (set_of (remove (simplex_at K u) q.0)) (simplex_at K x) (λ v m.
      let in2 = removed-in (remove (simplex_at K u) step.place) step2.place v cf.ascending step2.below
      (all-at (set_of (remove (remove (simplex_at K u) step.place) step2.place)) (simplex_at K x) (picks-lies (simplex_at K x) (remove (remove (simplex_at K u) step.place) step2.place) step2.picks) v m) in
      let in1 = removed-in (simplex_at K u) step.place v cu.ascending step.below in2.0 in
      removed-other (simplex_at K u) q.0 v cu.ascending q.1 in1.0 (λ e. in2.1 (e ∙ q.2))) in
      let shorter2 = length-remove (simplex_at K u) q.0 q.1 in
      let two : lies_in (remove (simplex_at K u) q.0) w ≡ true =
      ap (λ l. lies_in l w) (sym face2.is)
      ∙ over-in d face2.id f2h (subst (λ (l : List ℕ). Picks (simplex_at K x) l) (sym face2.is) (lying (simplex_at K x) (remove (simplex_at K u) q.0) (c.simplices x h).ascending cf2.ascending s_in))
      (omega (arith, ap length face2.is, shorter2, long)) in
      two-faces (simplex_at K x) (simplex_at K u) step.place q.0 cu step.below q.1 (λ e. z_in.1 (sym q.2 ∙ e)) one two

module _ (K : Complex) (c : IsComplex K) (x : ℕ) (h : x < length K) (w : List ℕ) (B : IsBounded K x w) where
  pub record Above (t : List ℕ) : Type 0 where
    pub id : ℕ
    pub below : id < length K
    pub union : is_union (simplex_at K x) t (simplex_at K id) ≡ true
    pub in_w : lies_in (simplex_at K id) w ≡ true

  above : (t : List ℕ) → IsSimplex t → in_link K (simplex_at K x) t ≡ true → Above t
  above t ct e =
      let both = and_parts (are_apart (simplex_at K x) t) (list_any (is_union (simplex_at K x) t) K) e in
      let some = found-at (is_union (simplex_at K x) t) K both.1 in
      let longer = union-longer (simplex_at K x) t (simplex_at K some.0) (c.simplices x h) ct (c.simplices some.0 some.1) both.0 some.2 in
      let parts = union-parts (simplex_at K x) t (simplex_at K some.0) some.2 in
      let left : (d : ℕ) × (length (simplex_at K some.0) ≡ (length (simplex_at K x) + 1) + d) = (length (simplex_at K some.0) - (length (simplex_at K x) + 1), omega (arith, longer)) in
      record {
        id = some.0;
        below = some.1;
        union = some.2;
        in_w = over-in K c x h w B.above left.0 some.0 some.1 (lying-picks K c x some.0 h some.1 parts.0) left.1;
      }

  -- the simplices of the link lie in it
  linked-in : (t : List ℕ) → IsSimplex t → in_link K (simplex_at K x) t ≡ true → lies_in t (rest (simplex_at K x) w) ≡ true
  linked-in t ct e =
      let at = above t ct e in
      let parts = union-parts (simplex_at K x) t (simplex_at K at.id) at.union in
      let apart = (and_parts (are_apart (simplex_at K x) t) (list_any (is_union (simplex_at K x) t) K) e).0 in
      all-from (set_of (rest (simplex_at K x) w)) t (λ v m.
      rest-holds (simplex_at K x) w v (all-at (λ y. not (set_of (simplex_at K x) y)) t apart v m)
      (all-at (set_of w) (simplex_at K at.id) at.in_w v (all-at (set_of (simplex_at K at.id)) t parts.1.0 v m)))

  -- but it is not one of them
  linked-proper : (t : List ℕ) → IsSimplex t → in_link K (simplex_at K x) t ≡ true → t ≡ rest (simplex_at K x) w → ⊥
  linked-proper t ct e same =
      let at = above t ct e in
      let parts = union-parts (simplex_at K x) t (simplex_at K at.id) at.union in
      let all : lies_in w (simplex_at K at.id) ≡ true =
      all-from (set_of (simplex_at K at.id)) w (λ v m. by v m (set_of (simplex_at K x) v) refl (simplex_at K at.id) parts.0 parts.1.0) in
      let fits = Picks-length w (simplex_at K at.id) (lying w (simplex_at K at.id) B.ascending (c.simplices at.id at.below).ascending all) in
      omega (arith, B.long, fits, longest-least K 0 at.id at.below)
    where
      by : (v : ℕ) → set_of w v ≡ true → (b : Bool) → set_of (simplex_at K x) v ≡ b → (u : List ℕ) → lies_in (simplex_at K x) u ≡ true → lies_in t u ≡ true → set_of u v ≡ true
      by v m true i u s_in t_in = all-at (set_of u) (simplex_at K x) s_in v i
      by v m false i u s_in t_in = all-at (set_of u) t t_in v (ap (λ l. set_of l v) same ∙ rest-holds (simplex_at K x) w v (ap not i) m)

  rest-long : length (rest (simplex_at K x) w) + length (simplex_at K x) ≡ dimensions K + 1
  rest-long = rest-length (simplex_at K x) w (c.simplices x h).ascending B.ascending B.lies ∙ B.long

  rest-simplex : 0 < length (rest (simplex_at K x) w) → IsSimplex (rest (simplex_at K x) w)
  rest-simplex some = record {
    nonempty = some;
    ascending = rest-ascending (simplex_at K x) w B.ascending;
  }

  -- x and what w has besides, without one vertex
  facet-union : (k j : ℕ) → IsSimplex (rest (simplex_at K x) w) → k < length (rest (simplex_at K x) w) → j < length w → get_or w j 0 ≡ get_or (rest (simplex_at K x) w) k 0
      → is_union (simplex_at K x) (remove (rest (simplex_at K x) w) k) (remove w j) ≡ true
  facet-union k j co kh jh same =
      let r : List ℕ = rest (simplex_at K x) w in
      let s : List ℕ = simplex_at K x in
      let at = rest-parts s w (get_or r k 0) (set_of-at r k kh) in
      and_from (lies_in s (remove w j)) (lies_in (remove r k) (remove w j) && list_all (λ v. set_of s v || set_of (remove r k) v) (remove w j))
      (all-from (set_of (remove w j)) s (λ v m.
      removed-other w j v B.ascending jh (all-at (set_of w) s B.lies v m) (λ q. true≢false (sym at.0 ∙ ap (λ u. not (set_of s u)) (sym (q ∙ same)) ∙ ap not m))))
      (and_from (lies_in (remove r k) (remove w j)) (list_all (λ v. set_of s v || set_of (remove r k) v) (remove w j))
      (all-from (set_of (remove w j)) (remove r k) (λ v m.
      let in_r = removed-in r k v co.ascending kh m in
      removed-other w j v B.ascending jh (rest-parts s w v in_r.0).1 (λ q. in_r.1 (q ∙ same))))
      (all-from (λ v. set_of s v || set_of (remove r k) v) (remove w j) (λ v m. by v (removed-in w j v B.ascending jh m) (set_of s v) refl)))
    where
      by : (v : ℕ) → (set_of w v ≡ true) × (v ≢ get_or w j 0) → (b : Bool) → set_of (simplex_at K x) v ≡ b
          → (set_of (simplex_at K x) v || set_of (remove (rest (simplex_at K x) w) k) v) ≡ true
      by v in_w true i = or_left (set_of (simplex_at K x) v) (set_of (remove (rest (simplex_at K x) w) k) v) i
      by v in_w false i = or_right (set_of (simplex_at K x) v) (set_of (remove (rest (simplex_at K x) w) k) v)
          (removed-other (rest (simplex_at K x) w) k v co.ascending kh (rest-holds (simplex_at K x) w v (ap not i) in_w.0) (λ q. in_w.1 (q ∙ sym same)))

  -- its faces of codimension one are
  facet-linked : (k : ℕ) → 1 < length (rest (simplex_at K x) w) → k < length (rest (simplex_at K x) w) → is_there (link K (simplex_at K x)) (remove (rest (simplex_at K x) w) k) ≡ true
  facet-linked k many kh =
      let co : IsSimplex (rest (simplex_at K x) w) = rest-simplex (omega (arith, many)) in
      let v_in = rest-parts (simplex_at K x) w (get_or (rest (simplex_at K x) w) k 0) (set_of-at (rest (simplex_at K x) w) k kh) in
      let j = place-of w (get_or (rest (simplex_at K x) w) k 0) v_in.1 in
      let at = there-id K (remove w j.0) (B.facets j.0 j.1 (ap (set_of (simplex_at K x)) j.2 ∙ not-true (set_of (simplex_at K x) (get_or (rest (simplex_at K x) w) k 0)) v_in.0)) in
      let union : is_union (simplex_at K x) (remove (rest (simplex_at K x) w) k) (remove w j.0) ≡ true =
      facet-union k j.0 co kh j.1 j.2 in
      let union_at : is_union (simplex_at K x) (remove (rest (simplex_at K x) w) k) (simplex_at K at.0) ≡ true =
      ap (is_union (simplex_at K x) (remove (rest (simplex_at K x) w) k)) at.2 ∙ union in
      let parts = union-parts (simplex_at K x) (remove (rest (simplex_at K x) w) k) (simplex_at K at.0) union_at in
      let long = length-remove (rest (simplex_at K x) w) k kh in
      let cr : IsSimplex (remove (rest (simplex_at K x) w) k) = record {
        nonempty = omega (arith, long, many);
        ascending = ascending-remove (rest (simplex_at K x) w) k co.ascending kh;
      } in
      let stands : Stands K (remove (rest (simplex_at K x) w) k) = pick-there (length (simplex_at K at.0)) K c at.0 (remove (rest (simplex_at K x) w) k) at.1
      (lying (remove (rest (simplex_at K x) w) k) (simplex_at K at.0) cr.ascending (c.simplices at.0 at.1).ascending parts.1.0) cr.nonempty (omega arith) in
      let apart : are_apart (simplex_at K x) (remove (rest (simplex_at K x) w) k) ≡ true =
      all-from (λ v. not (set_of (simplex_at K x) v)) (remove (rest (simplex_at K x) w) k) (λ v m.
      (rest-parts (simplex_at K x) w v (removed-in (rest (simplex_at K x) w) k v co.ascending kh m).0).0) in
      there-link K (simplex_at K x) (remove (rest (simplex_at K x) w) k) stands.id stands.below stands.is
      (and_from (are_apart (simplex_at K x) (remove (rest (simplex_at K x) w) k)) (list_any (is_union (simplex_at K x) (remove (rest (simplex_at K x) w) k)) K) apart
      (list_any_at (is_union (simplex_at K x) (remove (rest (simplex_at K x) w) k)) K at.0 [] at.1 union_at))

  link-up : Up (link K (simplex_at K x))
  unfolding link
  link-up = up-ordered (map (simplex_at K) (filter (λ t. in_link K (simplex_at K x) (simplex_at K t)) (range_with_len 0 (length K))))

  pub bounded-hollow : (v : ℕ) (r : List ℕ) → rest (simplex_at K x) w ≡ v ∷ r → 0 < length r → IsHollow (link K (simplex_at K x)) v r
  bounded-hollow v r e wide = record {
    complex = link-complex K c (simplex_at K x);
    up = link-up;
    simplex = subst IsSimplex e (rest-simplex (omega (arith, ap length e)));
    faces = subst (λ (l : List ℕ). (k : ℕ) → k < length l → is_there (link K (simplex_at K x)) (remove l k) ≡ true) e
        (λ k kh. facet-linked k (omega (arith, ap length e, wide)) kh);
    within = λ t th. subst (λ (l : List ℕ). lies_in (simplex_at (link K (simplex_at K x)) t) l ≡ true) e
        (linked-in (simplex_at (link K (simplex_at K x)) t) (simplex t th) (member t th).linked);
    proper = λ t th. proper t th (picks t th);
    wide = wide;
  }
    where
      member : (t : ℕ) → t < length (link K (simplex_at K x)) → InLink K (simplex_at K x) (simplex_at (link K (simplex_at K x)) t)
      member t th = link-there K (simplex_at K x) (simplex_at (link K (simplex_at K x)) t)
          (list_any_at (same_list (simplex_at (link K (simplex_at K x)) t)) (link K (simplex_at K x)) t [] th
          (same_list-same (simplex_at (link K (simplex_at K x)) t) (simplex_at (link K (simplex_at K x)) t) refl))

      simplex : (t : ℕ) → t < length (link K (simplex_at K x)) → IsSimplex (simplex_at (link K (simplex_at K x)) t)
      simplex t th = (link-complex K c (simplex_at K x)).simplices t th

      picks : (t : ℕ) → t < length (link K (simplex_at K x)) → Picks (simplex_at (link K (simplex_at K x)) t) (rest (simplex_at K x) w)
      picks t th = lying (simplex_at (link K (simplex_at K x)) t) (rest (simplex_at K x) w) (simplex t th).ascending (rest-simplex (omega (arith, ap length e))).ascending
          (linked-in (simplex_at (link K (simplex_at K x)) t) (simplex t th) (member t th).linked)

      proper : (t : ℕ) → t < length (link K (simplex_at K x)) → Picks (simplex_at (link K (simplex_at K x)) t) (rest (simplex_at K x) w)
          → length (simplex_at (link K (simplex_at K x)) t) ≤ length r
      proper t th p = ⊎_elim
          (λ (less : length (simplex_at (link K (simplex_at K x)) t) < length (rest (simplex_at K x) w)). omega (arith, less, ap length e))
          (λ (le : length (rest (simplex_at K x) w) ≤ length (simplex_at (link K (simplex_at K x)) t)).
          absurd (linked-proper (simplex_at (link K (simplex_at K x)) t) (simplex t th) (member t th).linked
          (picks-same (simplex_at (link K (simplex_at K x)) t) (rest (simplex_at K x) w) p (omega (arith, le, Picks-length (simplex_at (link K (simplex_at K x)) t) (rest (simplex_at K x) w) p)))))
          (cases_lt (length (simplex_at (link K (simplex_at K x)) t)) (length (rest (simplex_at K x) w)))

  pub bounded-betti : (n : ℕ) → 0 < n → length (simplex_at K x) + n ≡ dimensions K → link_betti K (simplex_at K x) ≡ sphere_counts n
  bounded-betti n wide left = by (rest (simplex_at K x) w) refl (omega (arith, rest-long, left))
    where
      by : (l : List ℕ) → rest (simplex_at K x) w ≡ l → length l ≡ n + 1 → link_betti K (simplex_at K x) ≡ sphere_counts n
      by [] e q = absurd (omega (arith, q))
      by (v ∷ r) e q = hollow-betti (link K (simplex_at K x)) v r (bounded-hollow v r e (omega (arith, q, wide))) ∙ ap sphere_counts (omega (arith, q))
