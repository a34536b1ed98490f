use Rattle.std.proofs.Common.{◌≡◌, ℕ, ◌+◌, ◌-◌, sym, ap, ◌∙◌, subst, arith}
use Rattle.std.specs.List.{range_with_len}
use Rattle.homology.specs.Sets.{Ids, plus}
use Rattle.homology.specs.ListSums.{sum_over}
use Rattle.cohomology_operations.specs.Squares.{square}
use Rattle.characteristic_classes.specs.Pairings.{cocycle}
use Rattle.characteristic_classes.specs.WuClasses.{wu_class}
use Rattle.wu_classes.specs.Duals.{IsCocycleOf}
use Rattle.wu_classes.proofs.Lists.{sum-range}
use Rattle.wu_classes.proofs.whitney.whitney_cochain.Goals as goal

pub loop-i-preserved : goal.loop-i-preserved
loop-i-preserved c =
    let K = c.args.m.now in
    let k = c.args.k in
    let i = c.loop-i.i in
    let w = c.index-wu-i.result in
    let φ : ℕ → Ids = λ j. square K (k - j) j (cocycle K j (wu_class K j)) in
    let C : IsCocycleOf K i (wu_class K i) w = subst (IsCocycleOf K i (wu_class K i)) (sym c.index-wu-i.is) (c.requires.wu i w (omega arith)) in
    let e = c.in_ok-sum-2.ensures in
    record {
      degree = e.degree ∙ c.loop-i.invariant.degree;
      set = e.sum ∙ (λ s. plus (c.loop-i.invariant.set s) (square K (k - i) (C.degree s) (C.set s))) ∙ sym (sum-range i φ);
      stands = e.stands;
    }

pub returns-clause-sum : goal.returns-clause-sum
returns-clause-sum c =
    let K = c.args.m.now in
    let k = c.args.k in
    let all : c.loop-i.i ≡ k + 1 = omega (arith, c.loop-i-test.false, c.loop-i.auto.i-end) in
    c.loop-i.invariant.set ∙ ap (λ (n : ℕ). sum_over (range_with_len 0 n) (λ i. square K (k - i) i (cocycle K i (wu_class K i)))) all
