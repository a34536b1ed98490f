use Rattle.std.proofs.Common.{◌≡◌, take}
use Rattle.session_core.proofs.prepare.begins.Given as goal

abbrev pub invariant-loop-id : goal.invariant-loop-id
invariant-loop-id l = take l.id l.m ≡ take l.id l.front
