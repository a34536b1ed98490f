use Rattle.std.proofs.Common.{ℕ}
use Rattle.characteristic_classes.specs.WuClasses.{wu_class}
use Rattle.wu_classes.proofs.Lists.{map-more}
use Rattle.wu_classes.proofs.wu_words.wu_classes.Goals as goal

pub loop-k-preserved : goal.loop-k-preserved
loop-k-preserved c =
    let K = c.args.m.now in
    let k = c.loop-k.k in
    let e = c.in_ok-wu_class.ensures in
    map-more (λ w. (w.degree, w.numbers.items)) (λ (j : ℕ). (j, wu_class K j)) c.loop-k.words.items c.push.new.self.items c.in_ok-wu_class.field-0 k
    c.in_ok-push.ensures.items c.loop-k.invariant (λ i. (e.degree i, e.class i))
