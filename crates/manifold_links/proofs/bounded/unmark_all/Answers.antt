use Rattle.std.proofs.Common.{◌∙◌}
use Rattle.cochain_values.specs.Marks.{marked}
use Rattle.manifold_links.proofs.MarkedLaws.{unmark-more}
use Rattle.manifold_links.proofs.bounded.unmark_all.Goals as goal

pub loop-id-preserved : goal.loop-id-preserved
loop-id-preserved c = record {
  set = λ q. unmark-more c.args.ids.now c.loop-id.id-index (marked c.args.marks.now) (marked c.loop-id.marks) (marked c.set.new.marks) c.loop-id-test.true
      c.loop-id.invariant.set c.set.ensures.set q;
  fits = c.set.ensures.fits ∙ c.loop-id.invariant.fits;
}
