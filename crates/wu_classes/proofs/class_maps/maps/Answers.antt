use Rattle.std.proofs.Common.{◌∷◌, [], length, length-append, ap, arith}
use Rattle.wu_classes.proofs.SumLaws.{maps-more}
use Rattle.wu_classes.proofs.class_maps.maps.Goals as goal

pub loop-t-preserved : goal.loop-t-preserved
loop-t-preserved c = record {
  count = omega (arith, ap length c.in_ok-push.ensures.items, length-append c.loop-t.maps.items (c.in_ok-f.f ∷ []), c.loop-t.invariant.count);
  each = maps-more c.args.m.now c.loop-t.maps.items c.push.new.self.items c.in_ok-f.f c.loop-t.t c.in_ok-push.ensures.items c.loop-t.invariant.count
      c.loop-t.invariant.each c.in_ok-f.ensures;
}

pub returns : goal.returns
returns c = record {
  count = omega (arith, c.loop-t.invariant.count, c.loop-t-test.false, c.loop-t.auto.t-end, c.len-t-end.ensures.count);
  each = λ t lt. c.loop-t.invariant.each t (omega (arith, lt, c.loop-t-test.false, c.len-t-end.ensures.count));
}
