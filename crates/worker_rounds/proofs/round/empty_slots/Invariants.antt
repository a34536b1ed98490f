use Rattle.std.proofs.Common.{◌≡◌, length}
use Rattle.worker_rounds.proofs.round.empty_slots.Given as goal

abbrev pub invariant-loop : goal.invariant-loop
invariant-loop g l = length l.slots.items ≡ l.counter
