-- The open star of a simplex x has the simplices of its link.
--     face-lies, lies-through      a face lies in what it is a face of, and in what that lies in
--     down, up                     the members of the open star are those of the link
--     down-incidence, up-incidence and one is a face of another there where it is here
--     rest-same                    two members with the same rest are one
--     up-coface                    a vertex of the link comes from a coface
use Rattle.std.proofs.Common.{◌≡◌, ℕ, ◌+◌, ◌<◌, Bool, true, false, cond, not, ◌&&◌, List, [], ◌∷◌, length, refl, sym, ap, subst, ◌∙◌, arith}
use Rattle.std.specs.List.{filter, list_any}
use Rattle.std.proofs.lemmas.Bool.{and_parts, and_from}
use Rattle.std.proofs.lemmas.List.Folds.{list_any_at}
use Rattle.std.proofs.lemmas.List.Kept.{IsStrictlyIncreasing-filter}
use Rattle.homology.specs.Sets.{set_of}
use Rattle.homology.specs.Simplices.{IsSimplex, same_list}
use Rattle.homology.specs.Complexes.{Complex, IsComplex, incidence, simplex_at}
use Rattle.homology.proofs.KindSteps.{tests-same}
use Rattle.homology.proofs.KindLaws.{set_of-filter}
use Rattle.homology.proofs.ListSetLaws.{Rises-ascending, same_ascending}
use Rattle.homology.proofs.BoundaryLaws.{FaceAt-incidence, FaceAt-length, same_list-same}
use Rattle.homology.proofs.FaceLists.{Picks, Picks-self, Picks-remove}
use Rattle.manifolds.specs.Closed.{lies_in}
use Rattle.manifolds.specs.Links.{is_union, are_apart, link}
use Rattle.manifolds.proofs.LyingLaws.{lies-picks, picks-lies, picks-same}
use Rattle.manifolds.proofs.LinkLaws.{all-at, all-from, found-at, there-id, InLink, link-there, there-link, link-complex}
use Rattle.manifold_links.specs.Stars.{rest}
use Rattle.manifold_links.proofs.CoverLaws.{lying-picks, picks-incidence}
use Rattle.manifold_links.proofs.StarLaws.{rest-parts, rest-holds, rest-ascending, rest-linked, union-parts, union-rest}
use Rattle.manifold_links.proofs.HollowLaws.{Stands, pick-there}
use Rattle.manifold_links.proofs.AscendingLaws.{rest-length}

-- a simplex over x, with what it has besides in the link
pub record Over (K : Complex) (x t : ℕ) : Type 0 where
  pub over : ℕ
  pub below : over < length K
  pub lies : lies_in (simplex_at K x) (simplex_at K over) ≡ true
  pub is : simplex_at (link K (simplex_at K x)) t ≡ rest (simplex_at K x) (simplex_at K over)

pub record InLinkAt (K : Complex) (x y : ℕ) : Type 0 where
  pub id : ℕ
  pub below : id < length (link K (simplex_at K x))
  pub is : simplex_at (link K (simplex_at K x)) id ≡ rest (simplex_at K x) (simplex_at K y)

pub face-lies : (K : Complex) (z y : ℕ) → incidence K z y ≡ true → lies_in (simplex_at K z) (simplex_at K y) ≡ true
face-lies K z y inc =
    let face = FaceAt-incidence K z y inc in
    picks-lies (simplex_at K z) (simplex_at K y)
    (subst (λ (l : List ℕ). Picks l (simplex_at K y)) (sym face.is) (Picks-remove (simplex_at K y) (simplex_at K y) face.place (Picks-self (simplex_at K y))))

pub lies-through : (s t u : List ℕ) → lies_in s t ≡ true → lies_in t u ≡ true → lies_in s u ≡ true
lies-through s t u p q = all-from (set_of u) s (λ v m. all-at (set_of u) t q v (all-at (set_of t) s p v m))

module _ (K : Complex) (c : IsComplex K) (x : ℕ) (h : x < length K) where
  pub long : (y : ℕ) → y < length K → lies_in (simplex_at K x) (simplex_at K y) ≡ true
      → length (rest (simplex_at K x) (simplex_at K y)) + length (simplex_at K x) ≡ length (simplex_at K y)
  long y yh e = rest-length (simplex_at K x) (simplex_at K y) (c.simplices x h).ascending (c.simplices y yh).ascending e

  -- into the link
  pub down : (y : ℕ) → y < length K → lies_in (simplex_at K x) (simplex_at K y) ≡ true → length (simplex_at K x) < length (simplex_at K y) → InLinkAt K x y
  down y yh e more =
      let cy : IsSimplex (simplex_at K y) = c.simplices y yh in
      let s : List ℕ = rest (simplex_at K x) (simplex_at K y) in
      let at : Stands K s = pick-there (length (simplex_at K y)) K c y s yh
      (lies-picks 0 0 s (simplex_at K y) (Rises-ascending s (rest-ascending (simplex_at K x) (simplex_at K y) cy.ascending)) (Rises-ascending (simplex_at K y) cy.ascending)
      (all-from (set_of (simplex_at K y)) s (λ v m. (rest-parts (simplex_at K x) (simplex_at K y) v m).1)))
      (omega (arith, long y yh e, more)) (omega arith) in
      let id = there-id (link K (simplex_at K x)) s (there-link K (simplex_at K x) s at.id at.below at.is (rest-linked K (simplex_at K x) y yh e)) in
      record { id = id.0; below = id.1; is = id.2 }

  pub up : (t : ℕ) → t < length (link K (simplex_at K x)) → Over K x t
  up t th =
      let l : List ℕ = simplex_at (link K (simplex_at K x)) t in
      let m : InLink K (simplex_at K x) l = link-there K (simplex_at K x) l (list_any_at (same_list l) (link K (simplex_at K x)) t [] th (same_list-same l l refl)) in
      let both = and_parts (are_apart (simplex_at K x) l) (list_any (is_union (simplex_at K x) l) K) (m.linked) in
      let some = found-at (is_union (simplex_at K x) l) K both.1 in
      record {
        over = some.0;
        below = some.1;
        lies = (union-parts (simplex_at K x) l (simplex_at K some.0) some.2).0;
        is = union-rest (simplex_at K x) l (simplex_at K some.0) ((link-complex K c (simplex_at K x)).simplices t th).ascending (c.simplices some.0 some.1).ascending both.0 some.2;
      }

  pub over-long : (t : ℕ) (th : t < length (link K (simplex_at K x))) → length (simplex_at (link K (simplex_at K x)) t) + length (simplex_at K x) ≡ length (simplex_at K (up t th).over)
  over-long t th = omega (arith, ap length (up t th).is, long (up t th).over (up t th).below (up t th).lies)

  -- incidences in the link are those over x
  pub down-incidence : (z y a b : ℕ) → z < length K → y < length K → lies_in (simplex_at K x) (simplex_at K z) ≡ true → incidence K z y ≡ true
      → a < length (link K (simplex_at K x)) → b < length (link K (simplex_at K x))
      → simplex_at (link K (simplex_at K x)) a ≡ rest (simplex_at K x) (simplex_at K z) → simplex_at (link K (simplex_at K x)) b ≡ rest (simplex_at K x) (simplex_at K y)
      → incidence (link K (simplex_at K x)) a b ≡ true
  down-incidence z y a b zh yh e inc ah bh ais bis =
      let lc = link-complex K c (simplex_at K x) in
      let in_y : lies_in (simplex_at K x) (simplex_at K y) ≡ true = lies-through (simplex_at K x) (simplex_at K z) (simplex_at K y) e (face-lies K z y inc) in
      picks-incidence (link K (simplex_at K x)) lc a b ah bh
      (lying-picks (link K (simplex_at K x)) lc a b ah bh
      ((λ i. lies_in (ais i) (bis i)) ∙ all-from (set_of (rest (simplex_at K x) (simplex_at K y))) (rest (simplex_at K x) (simplex_at K z)) (λ v m.
      let p = rest-parts (simplex_at K x) (simplex_at K z) v m in
      rest-holds (simplex_at K x) (simplex_at K y) v p.0 (all-at (set_of (simplex_at K y)) (simplex_at K z) (face-lies K z y inc) v p.1))))
      (omega (arith, ap length ais, ap length bis, long z zh e, long y yh in_y, FaceAt-length (FaceAt-incidence K z y inc)))

  pub up-incidence : (z w a b : ℕ) → z < length K → w < length K → lies_in (simplex_at K x) (simplex_at K z) ≡ true → lies_in (simplex_at K x) (simplex_at K w) ≡ true
      → incidence (link K (simplex_at K x)) a b ≡ true
      → simplex_at (link K (simplex_at K x)) a ≡ rest (simplex_at K x) (simplex_at K z) → simplex_at (link K (simplex_at K x)) b ≡ rest (simplex_at K x) (simplex_at K w)
      → incidence K z w ≡ true
  up-incidence z w a b zh wh z_in w_in inc ais bis =
      let face = FaceAt-incidence (link K (simplex_at K x)) a b inc in
      let rests : lies_in (rest (simplex_at K x) (simplex_at K z)) (rest (simplex_at K x) (simplex_at K w)) ≡ true =
      (λ i. lies_in (sym ais i) (sym bis i)) ∙ face-lies (link K (simplex_at K x)) a b inc in
      picks-incidence K c z w zh wh
      (lying-picks K c z w zh wh (all-from (set_of (simplex_at K w)) (simplex_at K z) (λ v m. by v m rests (set_of (simplex_at K x) v) refl)))
      (omega (arith, FaceAt-length face, ap length ais, ap length bis, long z zh z_in, long w wh w_in))
    where
      by : (v : ℕ) → set_of (simplex_at K z) v ≡ true → lies_in (rest (simplex_at K x) (simplex_at K z)) (rest (simplex_at K x) (simplex_at K w)) ≡ true
          → (i : Bool) → set_of (simplex_at K x) v ≡ i → set_of (simplex_at K w) v ≡ true
      by v m rests true i = all-at (set_of (simplex_at K w)) (simplex_at K x) w_in v i
      by v m rests false i = (rest-parts (simplex_at K x) (simplex_at K w) v
          (all-at (set_of (rest (simplex_at K x) (simplex_at K w))) (rest (simplex_at K x) (simplex_at K z)) rests v (rest-holds (simplex_at K x) (simplex_at K z) v (ap not i) m))).1

  pub rest-same : (y w : ℕ) → y < length K → w < length K → lies_in (simplex_at K x) (simplex_at K y) ≡ true → lies_in (simplex_at K x) (simplex_at K w) ≡ true
      → rest (simplex_at K x) (simplex_at K y) ≡ rest (simplex_at K x) (simplex_at K w) → y ≡ w
  rest-same y w yh wh y_in w_in e = c.distinct y w yh wh (picks-same (simplex_at K y) (simplex_at K w)
      (lying-picks K c y w yh wh (all-from (set_of (simplex_at K w)) (simplex_at K y) (λ v m. by v m (set_of (simplex_at K x) v) refl)))
      (omega (arith, ap length e, long y yh y_in, long w wh w_in)))
    where
      by : (v : ℕ) → set_of (simplex_at K y) v ≡ true → (i : Bool) → set_of (simplex_at K x) v ≡ i → set_of (simplex_at K w) v ≡ true
      by v m true i = all-at (set_of (simplex_at K w)) (simplex_at K x) w_in v i
      by v m false i = (rest-parts (simplex_at K x) (simplex_at K w) v (ap (λ l. set_of l v) (sym e) ∙ rest-holds (simplex_at K x) (simplex_at K y) v (ap not i) m)).1

  -- a vertex of the link comes from a coface
  pub up-coface : (q : ℕ) (qh : q < length (link K (simplex_at K x))) → length (simplex_at (link K (simplex_at K x)) q) ≡ 1 → incidence K x (up q qh).over ≡ true
  up-coface q qh one = picks-incidence K c x (up q qh).over h (up q qh).below (lying-picks K c x (up q qh).over h (up q qh).below (up q qh).lies) (omega (arith, over-long q qh, one))
