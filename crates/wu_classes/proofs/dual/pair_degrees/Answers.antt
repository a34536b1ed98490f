use Rattle.std.proofs.Common.{arith}
use Rattle.wu_classes.proofs.Lists.{pairings-more, count-more}
use Rattle.wu_classes.proofs.dual.pair_degrees.Goals as goal

pub loop-p-preserved : goal.loop-p-preserved
loop-p-preserved c =
    let xs = c.loop-p.bases.items in
    let ys = c.push.new.bases.items in
    let x = c.in_ok-basis.basis in
    record {
      count = count-more xs ys x c.loop-p.p c.in_ok-push.ensures c.loop-p.invariant.count;
      each = pairings-more c.args.m.now xs ys x c.loop-p.p c.in_ok-push.ensures c.loop-p.invariant.count c.loop-p.invariant.each c.in_ok-basis.ensures.pairing;
    }

pub returns-clause-count : goal.returns-clause-count
returns-clause-count c = omega (arith, c.loop-p.invariant.count, c.loop-p-test.false, c.loop-p.auto.p-end)

pub returns-clause-each : goal.returns-clause-each
returns-clause-each c = λ p g le. c.loop-p.invariant.each p g (omega (arith, le, c.loop-p-test.false))
