use Rattle.std.proofs.Common.{arith}
use Rattle.wu_classes.proofs.Sums.{greatest-more, GreatestSoFar}
use Rattle.wu_classes.proofs.numbers.greatest.Goals as goal
use Rattle.wu_classes.proofs.numbers.greatest.Goals.{then-k-greatest, else-k-greatest}

pub loop-k-preserved : goal.loop-k-preserved
loop-k-preserved c =
    let xs = c.args.parts.now in
    let i = c.loop-k.k-index in
    let g = c.loop-k.greatest in
    let h = c.if-k-greatest.greatest in
    let G : GreatestSoFar xs i g h = elim c.if-k-greatest.branch as (λ _. GreatestSoFar xs i g h) [
      | then-k-greatest w ↦ record {
        more = omega (arith, w.greatest-is, w.if-k-greatest.true);
        last = omega (arith, w.greatest-is);
        small = omega (arith, w.greatest-is);
      }
      | else-k-greatest w ↦ record {
        more = omega (arith, w.greatest-is);
        last = omega (arith, w.greatest-is, w.if-k-greatest.false);
        small = omega (arith, w.greatest-is);
      }
    ] in
    let r = greatest-more xs i g h c.loop-k-test.true c.loop-k.invariant.above c.loop-k.invariant.small G in
    record { above = r.0; small = r.1 }
