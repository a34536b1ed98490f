use Rattle.std.proofs.Common.{map, ap, ◌∙◌, arith}
use Rattle.characteristic_classes.specs.Pairings.{pairing}
use Rattle.elimination.specs.Rows.{Given}
use Rattle.wu_classes.proofs.Lists.{map-more}
use Rattle.wu_classes.proofs.pairing.pairings.Goals as goal

pub loop-p-preserved : goal.loop-p-preserved
loop-p-preserved c =
    let K = c.args.m.now in
    let p = c.loop-p.p in
    map-more (λ rows. map (λ row. row.items) rows.items) (pairing K) c.loop-p.rows.items c.push.new.self.items c.in_ok-entries.field-0 p
    c.in_ok-push.ensures.items c.loop-p.invariant
    (c.in_ok-entries.ensures ∙ ap (λ (g : Given). g.rows) c.index.ensures ∙ (c.requires.each p c.index.result.now (omega arith)).rows)
