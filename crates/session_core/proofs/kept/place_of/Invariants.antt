use Rattle.std.proofs.Common.{◌≡◌, drop}
use Rattle.session_core.specs.Places.{first_named}
use Rattle.session_core.proofs.kept.place_of.Given as goal

abbrev pub invariant-loop-named : goal.invariant-loop-named
invariant-loop-named l = first_named (drop l.named-index l.names) l.name ≡ first_named l.names l.name
