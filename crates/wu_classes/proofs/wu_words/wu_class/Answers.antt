use Rattle.std.proofs.Common.{◌≡◌, ℕ, ◌<◌, ◌-◌, ◌≤◌, ◌∷◌, [], List, Bool, length, true, false, sym, subst, arith}
use Rattle.std.proofs.lemmas.Bool.{true≢false}
use Rattle.homology.specs.Kinds.{betti}
use Rattle.cohomology_operations.specs.Squares.{square}
use Rattle.manifolds.specs.Closed.{top}
use Rattle.characteristic_classes.specs.Pairings.{cocycle, on_top, pairing}
use Rattle.characteristic_classes.proofs.WuLaws.{square_value}
use Rattle.elimination.specs.Rows.{Given, IsExpression, entry}
use Rattle.wu_classes.specs.Duals.{IsPairing}
use Rattle.wu_classes.proofs.Lists.{square-rows}
use Rattle.wu_classes.proofs.Rows.{wu-word, wu-is}
use Rattle.wu_classes.proofs.wu_words.wu_class.Goals as goal

no_rows : Given
no_rows = record { width = 0; rows = [] }

pub unreachable-requires : goal.unreachable-requires
unreachable-requires c =
    let K = c.args.m.now in
    let k = c.args.k in
    let d = c.args.dual.now in
    let D = c.requires.dual in
    let g = c.index.result.now in
    let le : k ≤ top K = omega (arith, c.requires.degree, D.top.top) in
    let P : IsPairing K k g = subst (IsPairing K k) (sym c.index.ensures) (D.each k g c.requires.degree) in
    let all : length g.rows ≡ g.width = square-rows K k g _ le P (D.each (top K - k) no_rows (omega (arith, D.top.top))) in
    let some : false ≡ true = rw c.in_default.is at (c.in_ok-numbers.ensures.full all) in
    true≢false (sym some)

pub returns-clause-class : goal.returns-clause-class
returns-clause-class c =
    let K = c.args.m.now in
    let k = c.args.k in
    let D = c.requires.dual in
    let g = c.index.result.now in
    let values = c.in_ok-values.values in
    let numbers = c.in-Some.numbers.items in
    let le : k ≤ top K = omega (arith, c.requires.degree, D.top.top) in
    let P : IsPairing K k g = subst (IsPairing K k) (sym c.index.ensures) (D.each k g c.requires.degree) in
    let found : IsExpression g.rows numbers values = rw c.in-Some.is at c.in_ok-numbers.ensures.found in
    let X : IsExpression (pairing K k) numbers values = subst (λ (rs : List (List Bool)). IsExpression rs numbers values) P.rows found in
    let is : (l : ℕ) → l < betti K (top K - k) → entry values l ≡ square_value K k (l ∷ []) =
    subst (λ (n : ℕ). (l : ℕ) → l < betti K (n - k) → entry values l ≡ on_top K (square K k (n - k) (cocycle K (n - k) (l ∷ []))))
    (sym D.top.top) c.in_ok-values.ensures.values in
    wu-is K c.complex.ensures.complex k values numbers X is c.args.dual.now.dim D.top.closed le P.free

pub returns-clause-word : goal.returns-clause-word
returns-clause-word c =
    let K = c.args.m.now in
    let k = c.args.k in
    let D = c.requires.dual in
    let g = c.index.result.now in
    let values = c.in_ok-values.values in
    let numbers = c.in-Some.numbers.items in
    let P : IsPairing K k g = subst (IsPairing K k) (sym c.index.ensures) (D.each k g c.requires.degree) in
    let found : IsExpression g.rows numbers values = rw c.in-Some.is at c.in_ok-numbers.ensures.found in
    let X : IsExpression (pairing K k) numbers values = subst (λ (rs : List (List Bool)). IsExpression rs numbers values) P.rows found in
    let is : (l : ℕ) → l < betti K (top K - k) → entry values l ≡ square_value K k (l ∷ []) =
    subst (λ (n : ℕ). (l : ℕ) → l < betti K (n - k) → entry values l ≡ on_top K (square K k (n - k) (cocycle K (n - k) (l ∷ []))))
    (sym D.top.top) c.in_ok-values.ensures.values in
    wu-word K c.complex.ensures.complex k values numbers X is
