use Rattle.std.proofs.Common.{◌∙◌, arith}
use Rattle.manifold_links.proofs.MarkedLaws.{marked-first}
use Rattle.manifold_links.proofs.bounded.bounds_of.Goals as goal

pub loop-id-init : goal.loop-id-init
loop-id-init c = record {
  down = marked-first c.args.k.now c.len-id.result c.in_ok-counts.counts.items c.in_ok-marks.marks.items c.len-id.ensures.count c.in_ok-counts.ensures.zero
      (λ q h. c.in_ok-marks.ensures.set q (omega (arith, h, c.len-id.ensures.count, c.len-2.ensures.count))) (c.in_ok-counts.ensures.fits ∙ c.len.ensures.count)
      (c.in_ok-marks.ensures.fits ∙ c.len-2.ensures.count);
  within = omega (arith, c.len-id.ensures.count);
}
