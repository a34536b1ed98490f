use Rattle.std.proofs.Common.{arith}
use Rattle.session_core.proofs.PlaceLaws.{places-few}
use Rattle.session_core.proofs.kept.free_place.Goals as goal

pub returns-then-not-is_taken-clause-few : goal.returns-then-not-is_taken-clause-few
returns-then-not-is_taken-clause-few c = places-few c.args.names.now c.args.kept c.loop-place.place c.loop-place.invariant

pub returns-clause-few : goal.returns-clause-few
returns-clause-few c = omega (arith, places-few c.args.names.now c.args.kept c.loop-place.place c.loop-place.invariant, c.loop-place-test.false)
