use Rattle.answers.proofs.Listing.{listed-more}
use Rattle.answers.proofs.literal.listed.Goals as goal

pub loop-id-preserved : goal.loop-id-preserved
loop-id-preserved c =
    listed-more c.args.complex.now c.args.ids.now c.loop-id.id-index c.loop-id.simplices.items c.push_simplex.new.simplices.items
    c.loop-id-test.true c.loop-id.invariant c.in_ok-push_simplex.ensures
