-- The pairing of a degree by the columns of that of the complementary degree. K is a complex, p a degree.
--     pairing-widths       the rows of a pairing have one width
--     columns-pairing      the columns are the rows of the pairing of the complementary degree
--     diagonal-square      the diagonal has the values of Sq^p in degree p
use Rattle.std.proofs.Common.{◌≡◌, ℕ, ◌-◌, ◌<◌, ◌≤◌, Bool, false, List, [], ◌∷◌, length, Ok, sym, ap, ◌∙◌, arith}
use Rattle.std.proofs.lemmas.List.FromFn.{fill_by_all}
use Rattle.homology.specs.Complexes.{Complex, IsComplex}
use Rattle.homology.specs.Kinds.{betti}
use Rattle.manifolds.specs.Closed.{closed, top}
use Rattle.products.specs.Products.{cup}
use Rattle.cohomology_operations.specs.Squares.{square}
use Rattle.cohomology_operations.proofs.SquareLaws.{square-degree}
use Rattle.characteristic_classes.specs.Pairings.{cocycle, on_top, pair, pairing, row}
use Rattle.characteristic_classes.proofs.PairingLaws.{one-word, pair-turned, pairing-count, pairing-row, row-entry, row-width}
use Rattle.elimination.specs.Rows.{Given, entry, row_at}
use Rattle.wu_classes.specs.Duals.{IsPairing}

module _ (K : Complex) (q : ℕ) (g : Given) (P : IsPairing K q g) where
  pub pairing-length : length g.rows ≡ betti K q
  pairing-length = ap length P.rows ∙ pairing-count K q

  pub pairing-at : (j : ℕ) → j < length g.rows → row_at g.rows j ≡ row K q j
  pairing-at j lt = ap (λ rs. row_at rs j) P.rows ∙ pairing-row K q j [] (omega (arith, lt, pairing-length))

  pub pairing-widths : (j : ℕ) → j < length g.rows → length (row_at g.rows j) ≡ g.width
  pairing-widths j lt = ap length (pairing-at j lt) ∙ row-width K q j ∙ sym P.width

  pub pairing-entry : (j l : ℕ) → j < length g.rows → l < betti K (top K - q) → entry (row_at g.rows j) l ≡ pair K q (j ∷ []) (l ∷ [])
  pairing-entry j l lt below = ap (λ r. entry r l) (pairing-at j lt) ∙ row-entry K q j l below

module _ (K : Complex) (ok : IsComplex K) (n : ℕ) (shut : closed K ≡ Ok n) (p : ℕ) (le : p ≤ top K) (g : Given) (P : IsPairing K (top K - p) g) where
  back : top K - (top K - p) ≡ p
  back = omega (arith, le)

  width : g.width ≡ betti K p
  width = P.width ∙ ap (betti K) back

  count : length g.rows ≡ betti K (top K - p)
  count = pairing-length K (top K - p) g P

  pub columns-pairing : (columns : List (List Bool)) → length columns ≡ g.width → ((k : ℕ) → k < g.width → length (row_at columns k) ≡ length g.rows)
      → ((k : ℕ) → k < g.width → (j : ℕ) → j < length g.rows → entry (row_at columns k) j ≡ entry (row_at g.rows j) k) → columns ≡ pairing K p
  columns-pairing columns many wide at =
      fill_by_all (row K p) columns (betti K p) [] (many ∙ width) (λ k lk.
      fill_by_all (λ j. pair K p (k ∷ []) (j ∷ [])) (row_at columns k) (betti K (top K - p)) false
      (wide k (omega (arith, lk, width)) ∙ count)
      (λ j lj.
      at k (omega (arith, lk, width)) j (omega (arith, lj, count))
      ∙ pairing-entry K (top K - p) g P j k (omega (arith, lj, count)) (omega (arith, lk, ap (betti K) back))
      ∙ sym (pair-turned K ok n shut p le (k ∷ []) (j ∷ []) (one-word K p k lk) (one-word K (top K - p) j lj))))

-- the products of the classes with themselves are their Sq^p, where p is their degree
pub diagonal-square : (K : Complex) (k : ℕ) (g : Given) → IsPairing K k g → top K - k ≡ k → (l : ℕ) → l < length g.rows → l < betti K (top K - k)
    → entry (row_at g.rows l) l ≡ on_top K (square K k (top K - k) (cocycle K (top K - k) (l ∷ [])))
diagonal-square K k g P same l lt below =
    let b = cocycle K (top K - k) (l ∷ []) in
    pairing-entry K k g P l l lt below
    ∙ ap (λ m. on_top K (cup K 0 (cocycle K m (l ∷ [])) b)) (sym same)
    ∙ ap (on_top K) (sym (square-degree K (top K - k) b))
    ∙ ap (λ m. on_top K (square K m (top K - k) b)) same
