use Rattle.std.proofs.Common.{◌∙◌}
use Rattle.homology.specs.Sets.{single}
use Rattle.cochain_values.specs.Marks.{marked}
use Rattle.cochain_values.proofs.MarkLaws.{sum-more}
use Rattle.cochain_values.proofs.marks.toggle_all.Goals as goal

pub loop-id-preserved : goal.loop-id-preserved
loop-id-preserved c = record {
  set = sum-more c.args.ids.now c.loop-id.id-index single (marked c.args.marks.now) (marked c.loop-id.marks) (marked c.toggle.new.marks) c.loop-id-test.true c.loop-id.invariant.set c.toggle.ensures.set;
  fits = c.toggle.ensures.fits ∙ c.loop-id.invariant.fits;
}
