-- A link that is a circle.
--     two                          where each coface has two cofaces, each vertex of the link lies in two edges
--     over-self, over-step         the cofaces that are reached from one, each from another over a common coface
--     round-betti                  where all are, the link has the Betti numbers of a circle
use Rattle.std.proofs.Common.{◌≡◌, ℕ, ◌+◌, ◌<◌, ◌≤◌, true, List, [], ◌∷◌, length, refl, sym, ap, subst, ◌∙◌, arith, inl, inr, ◌⊎◌}
use Rattle.std.specs.List.Sorted.{IsStrictlyIncreasing}
use Rattle.homology.specs.Sets.{set_of}
use Rattle.homology.specs.Complexes.{Complex, IsComplex, dimensions, incidence, simplex_at}
use Rattle.homology.proofs.BoundaryLaws.{FaceAt-incidence, FaceAt-length}
use Rattle.complex_store.specs.Cofaces.{cofaces}
use Rattle.manifolds.specs.Closed.{lies_in}
use Rattle.manifolds.specs.Links.{link, link_betti, sphere_counts}
use Rattle.manifolds.proofs.LinkLaws.{link-complex}
use Rattle.manifold_links.specs.Stars.{rest}
use Rattle.manifold_links.proofs.StarLaws.{run-in, run-holds, run-ascending}
use Rattle.manifold_links.proofs.LengthLaws.{longest-least}
use Rattle.manifold_links.proofs.ToldLaws.{of-two, first-of, second-of}
use Rattle.manifold_links.proofs.OverLaws.{Over, InLinkAt, face-lies, lies-through, long, down, up, over-long, down-incidence, up-incidence, rest-same, up-coface}
use Rattle.manifold_links.proofs.CircleLaws.{Two, Reached, reached-self, reached-step, circle-betti}

module _ (K : Complex) (c : IsComplex K) (x : ℕ) (h : x < length K) (wide : dimensions K ≤ length (simplex_at K x) + 2)
    (pairs : (z : ℕ) → z < length K → incidence K x z ≡ true → length (cofaces K z) ≡ 2) where
  short : (t : ℕ) → t < length (link K (simplex_at K x)) → length (simplex_at (link K (simplex_at K x)) t) ≤ 2
  short t th = omega (arith, over-long K c x h t th, wide, longest-least K 0 (up K c x h t th).over (up K c x h t th).below)

  -- each vertex of the link lies in two edges
  two : (q : ℕ) (qh : q < length (link K (simplex_at K x))) → length (simplex_at (link K (simplex_at K x)) q) ≡ 1 → Two (link K (simplex_at K x)) q
  two q qh one = by (cofaces K z) refl (pairs z from.below (up-coface K c x h q qh one))
    where
      from : Over K x q
      from = up K c x h q qh

      z : ℕ
      z = from.over

      edge : (y : ℕ) → set_of (cofaces K z) y ≡ true → (y < length K) × (incidence K z y ≡ true)
      edge y m = run-in (incidence K z) (length K) y m

      over-x : (y : ℕ) → set_of (cofaces K z) y ≡ true → lies_in (simplex_at K x) (simplex_at K y) ≡ true
      over-x y m = lies-through (simplex_at K x) (simplex_at K z) (simplex_at K y) from.lies (face-lies K z y (edge y m).1)

      at : (y : ℕ) → set_of (cofaces K z) y ≡ true → InLinkAt K x y
      at y m = down K c x h y (edge y m).0 (over-x y m) (omega (arith, FaceAt-length (FaceAt-incidence K z y (edge y m).1), over-long K c x h q qh, one))

      by : (l : List ℕ) → cofaces K z ≡ l → length l ≡ 2 → Two (link K (simplex_at K x)) q
      by [] e n = absurd (omega (arith, n))
      by (y ∷ []) e n = absurd (omega (arith, n))
      by (y ∷ w ∷ v ∷ l) e n = absurd (omega (arith, n))
      by (y ∷ w ∷ []) e n =
          let ym : set_of (cofaces K z) y ≡ true = ap (λ l. set_of l y) e ∙ first-of y w in
          let wm : set_of (cofaces K z) w ≡ true = ap (λ l. set_of l w) e ∙ second-of y w in
          let lt : y < w = subst IsStrictlyIncreasing e (run-ascending (incidence K z) (length K)) 0 (omega arith) in
          record {
            one = (at y ym).id;
            other = (at w wm).id;
            one_below = (at y ym).below;
            other_below = (at w wm).below;
            apart = λ same. omega (
              arith,
              lt,
              rest-same K c x h y w (edge y ym).0 (edge w wm).0 (over-x y ym) (over-x w wm)
                  (sym (at y ym).is ∙ ap (simplex_at (link K (simplex_at K x))) same ∙ (at w wm).is),
            );
            at_one = down-incidence K c x h z y q (at y ym).id from.below (edge y ym).0 from.lies (edge y ym).1 qh (at y ym).below from.is (at y ym).is;
            at_other = down-incidence K c x h z w q (at w wm).id from.below (edge w wm).0 from.lies (edge w wm).1 qh (at w wm).below from.is (at w wm).is;
            no_more = λ t th inc.
                of-two y w (up K c x h t th).over (ap (λ l. set_of l (up K c x h t th).over) (sym e)
                ∙ run-holds (incidence K z) (length K) (up K c x h t th).over (up K c x h t th).below
                (up-incidence K c x h z (up K c x h t th).over q t from.below (up K c x h t th).below from.lies (up K c x h t th).lies inc from.is (up K c x h t th).is))
                (λ r. simplex_at (link K (simplex_at K x)) t ≡ rest (simplex_at K x) (simplex_at K r) → (t ≡ (at y ym).id) ⊎ (t ≡ (at w wm).id))
                (λ f. inl ((link-complex K c (simplex_at K x)).distinct t (at y ym).id th (at y ym).below (f ∙ sym (at y ym).is)))
                (λ f. inr ((link-complex K c (simplex_at K x)).distinct t (at w wm).id th (at w wm).below (f ∙ sym (at w wm).is)))
                (up K c x h t th).is;
          }

  -- a coface that is reached from another
  abbrev pub ReachedOver : ℕ → ℕ → Type 0
  ReachedOver y z = (a b : ℕ) → a < length (link K (simplex_at K x)) → b < length (link K (simplex_at K x))
      → simplex_at (link K (simplex_at K x)) a ≡ rest (simplex_at K x) (simplex_at K y) → simplex_at (link K (simplex_at K x)) b ≡ rest (simplex_at K x) (simplex_at K z)
      → Reached (link K (simplex_at K x)) a b

  pub over-self : (y : ℕ) → ReachedOver y y
  over-self y a b ah bh ais bis = subst (Reached (link K (simplex_at K x)) a) ((link-complex K c (simplex_at K x)).distinct a b ah bh (ais ∙ sym bis))
      (reached-self (link K (simplex_at K x)) (link-complex K c (simplex_at K x)) short two a)

  pub over-step : (y z w t : ℕ) → ReachedOver y z → z < length K → w < length K → t < length K → incidence K x z ≡ true → incidence K x w ≡ true
      → incidence K z t ≡ true → incidence K w t ≡ true → ReachedOver y w
  over-step y z w t R zh wh th xz xw zt wt a b ah bh ais bis =
      let m = down K c x h z zh (face-lies K x z xz) (omega (arith, FaceAt-length (FaceAt-incidence K x z xz))) in
      let e = down K c x h t th (lies-through (simplex_at K x) (simplex_at K z) (simplex_at K t) (face-lies K x z xz) (face-lies K z t zt))
      (omega (arith, FaceAt-length (FaceAt-incidence K x z xz), FaceAt-length (FaceAt-incidence K z t zt))) in
      reached-step (link K (simplex_at K x)) (link-complex K c (simplex_at K x)) short two a m.id b e.id (R a m.id ah m.below ais m.is) e.below
      (down-incidence K c x h z t m.id e.id zh th (face-lies K x z xz) zt m.below e.below m.is e.is)
      (down-incidence K c x h w t b e.id wh th (face-lies K x w xw) wt bh e.below bis e.is)

  pub round-betti : (y : ℕ) → y < length K → incidence K x y ≡ true → ((z : ℕ) → z < length K → incidence K x z ≡ true → ReachedOver y z)
      → link_betti K (simplex_at K x) ≡ sphere_counts 2
  round-betti y yh xy all =
      let m = down K c x h y yh (face-lies K x y xy) (omega (arith, FaceAt-length (FaceAt-incidence K x y xy))) in
      circle-betti (link K (simplex_at K x)) (link-complex K c (simplex_at K x)) short two m.id m.below
      (omega (arith, ap length m.is, long K c x h y yh (face-lies K x y xy), FaceAt-length (FaceAt-incidence K x y xy)))
      (λ q qh one. all (up K c x h q qh).over (up K c x h q qh).below (up-coface K c x h q qh one) m.id q m.below qh m.is (up K c x h q qh).is)
