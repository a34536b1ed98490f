use Rattle.std.proofs.Common.{◌≡◌, ℕ, ◌<◌, ◌-◌, ◌++◌, ◌∷◌, [], List, Bool, map, length, Err, Some, sym, ap, ◌∙◌, subst, arith, zero-add}
use Rattle.std.specs.List.{range_with_len}
use Rattle.std.proofs.lemmas.List.FromFn.{map-range_with_len_more}
use Rattle.homology.specs.Kinds.{betti}
use Rattle.characteristic_classes.specs.Pairings.{Degenerate, first_degenerate, pairing, row}
use Rattle.characteristic_classes.proofs.DegeneracyLaws.{first-found}
use Rattle.elimination.specs.Rows.{AreIndependent, IsExpression}
use Rattle.manifolds.specs.Closed.{top}
use Rattle.wu_classes.proofs.Lists.{pairing-count}
use Rattle.wu_classes.proofs.Refusing.{dual-degenerate}
use Rattle.wu_classes.proofs.Rows.{first_rows, rows-free, all-free, rows-word, rows-degenerate}
use Rattle.wu_classes.proofs.dual.pairing.Goals as goal

pub returns-in-Some-clause-refused : goal.returns-in-Some-clause-refused
returns-in-Some-clause-refused c =
    let K = c.args.m.now in
    let ok = c.complex-complex.ensures.complex in
    let p = c.args.p in
    let i = c.loop-number.number in
    let numbers = c.in-Some.numbers.items in
    let lt : i < betti K p = omega (arith, c.loop-number-test.true, c.betti-number-end.ensures) in
    let found : IsExpression c.loop-number.basis.rows numbers c.in_ok-row.row = rw c.in-Some.is at c.in_ok-numbers.ensures.found in
    let kept : c.add.new.self.rows ≡ c.loop-number.basis.rows = rw c.in-Some.is at c.in_ok-numbers.ensures.kept in
    let X : IsExpression (first_rows K ok p i) numbers (row K p i) =
    subst (λ (r : List Bool). IsExpression (first_rows K ok p i) numbers r) c.in_ok-row.ensures.row
    (subst (λ (rs : List (List Bool)). IsExpression rs numbers c.in_ok-row.row) c.loop-number.invariant.rows found) in
    let I : AreIndependent (first_rows K ok p i) = subst AreIndependent (kept ∙ c.loop-number.invariant.rows) c.in_ok-numbers.ensures.independent in
    let first : first_degenerate K ≡ Some (p, numbers ++ i ∷ []) =
    first-found K ok p i numbers (rows-word K ok p i lt numbers X) (rows-degenerate K ok p i lt numbers X) c.requires.earlier (rows-free K ok p i I) in
    dual-degenerate K (tt {0}) c.args.n p (numbers ++ i ∷ []) c.requires.top.closed first
    ∙ (λ s. Err (Degenerate (sym c.in_ok-word.ensures.degree s) (sym c.in_ok-word.ensures.numbers s)))

pub loop-number-preserved : goal.loop-number-preserved
loop-number-preserved c =
    let K = c.args.m.now in
    let p = c.args.p in
    let i = c.loop-number.number in
    let kept : c.add.new.self.rows ≡ c.loop-number.basis.rows ++ c.in_ok-row.row ∷ [] = rw c.in_default.is at c.in_ok-numbers.ensures.kept in
    record {
      width = c.in_ok-numbers.ensures.width ∙ c.loop-number.invariant.width;
      rows =
          kept
          ∙ (λ s. c.loop-number.invariant.rows s ++ c.in_ok-row.ensures.row s ∷ [])
          ∙ sym (map-range_with_len_more (row K p) 0 i i (zero-add i));
    }

pub returns-clause-pairing : goal.returns-clause-pairing
returns-clause-pairing c =
    let K = c.args.m.now in
    let p = c.args.p in
    let b = c.loop-number.basis in
    let all : c.loop-number.number ≡ betti K p = omega (arith, c.loop-number-test.false, c.loop-number.auto.number-end, c.betti-number-end.ensures) in
    let rows : b.rows ≡ pairing K p = c.loop-number.invariant.rows ∙ ap (λ (k : ℕ). map (row K p) (range_with_len 0 k)) all in
    let width : b.width ≡ betti K (top K - p) = c.loop-number.invariant.width ∙ ap (λ (n : ℕ). betti K (n - p)) (sym c.requires.top.top) in
    record {
      width = width;
      rows = rows;
      few = omega (arith, c.len.ensures.few, ap length rows, pairing-count K p, width);
      free = all-free K c.complex-complex.ensures.complex p (subst AreIndependent rows c.len.ensures.independent);
    }
