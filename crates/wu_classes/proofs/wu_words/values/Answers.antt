use Rattle.std.proofs.Common.{◌≡◌, ℕ, ◌-◌, ◌∷◌, [], length, sym, ap, ◌∙◌, subst, arith}
use Rattle.homology.specs.Kinds.{betti}
use Rattle.cohomology_operations.specs.Squares.{square}
use Rattle.manifolds.specs.Closed.{top}
use Rattle.characteristic_classes.specs.Pairings.{cocycle, on_top}
use Rattle.elimination.specs.Rows.{Given}
use Rattle.wu_classes.specs.Duals.{IsPairing}
use Rattle.wu_classes.proofs.Lists.{square-rows}
use Rattle.wu_classes.proofs.Turned.{diagonal-square, pairing-widths}
use Rattle.wu_classes.proofs.wu_words.values.Goals as goal

no_rows : Given
no_rows = record { width = 0; rows = [] }

pub diagonal-requires-clause-widths : goal.diagonal-requires-clause-widths
diagonal-requires-clause-widths c =
    let K = c.args.m.now in
    let k = c.args.k in
    let g = c.index.result.now in
    pairing-widths K k g (subst (IsPairing K k) (sym c.index.ensures) (c.requires.dual.each k g c.requires.degree))

pub diagonal-requires-clause-square : goal.diagonal-requires-clause-square
diagonal-requires-clause-square c =
    let K = c.args.m.now in
    let k = c.args.k in
    let D = c.requires.dual in
    let g = c.index.result.now in
    square-rows K k g _ (omega (arith, c.requires.degree, D.top.top)) (subst (IsPairing K k) (sym c.index.ensures) (D.each k g c.requires.degree))
    (D.each (top K - k) no_rows (omega (arith, D.top.top)))

pub returns-then-k-n-clause-values : goal.returns-then-k-n-clause-values
returns-then-k-n-clause-values c = λ l lt.
    let K = c.args.m.now in
    let k = c.args.k in
    let D = c.requires.dual in
    let g = c.index.result.now in
    let P : IsPairing K k g = subst (IsPairing K k) (sym c.index.ensures) (D.each k g c.requires.degree) in
    let same : top K - k ≡ k = omega (arith, c.if-k-n.true, D.top.top) in
    let width : betti K (c.args.dual.now.dim - k) ≡ g.width = ap (λ (n : ℕ). betti K (n - k)) (sym D.top.top) ∙ sym P.width in
    let full : length g.rows ≡ g.width =
    square-rows K k g _ (omega (arith, c.requires.degree, D.top.top)) P (D.each (top K - k) no_rows (omega (arith, D.top.top))) in
    c.in_ok-row-2.ensures.entries l (omega (arith, lt, width))
    ∙ diagonal-square K k g P same l (omega (arith, lt, width, full)) (omega (arith, lt, width, P.width))
    ∙ ap (λ (n : ℕ). on_top K (square K k (n - k) (cocycle K (n - k) (l ∷ [])))) D.top.top
