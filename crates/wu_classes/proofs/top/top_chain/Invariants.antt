use Rattle.std.specs.Prelude.{◌≡◌, map}
use Rattle.std.specs.Map.Iter.{deref}
use Rattle.wu_classes.proofs.top.top_chain.Given as goal

abbrev pub invariant-loop-id : goal.invariant-loop-id
invariant-loop-id l = l.ids.items ≡ map deref l.yielded
