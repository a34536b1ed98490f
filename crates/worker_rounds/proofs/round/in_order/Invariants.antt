use Rattle.std.proofs.Common.{◌≡◌, ◌≤◌, ◌<◌, ◌*◌, ℕ, length, slice_index_or}
use Rattle.worker_rounds.specs.Rounds.{IsFiled, place_of}
use Rattle.worker_rounds.proofs.round.in_order.Given as goal

abbrev pub invariant-loop-job : goal.invariant-loop-job
invariant-loop-job g l =
    (length l.slots.items ≡ l.workers * l.turns)
    × (length l.answers.items ≡ l.job)
    × ((j : ℕ) (d : _) → l.job ≤ j → j < length l.jobs → IsFiled (g.W.Work.gives l.work) l.jobs j (slice_index_or l.slots.items (place_of j l.workers l.turns) d))
    × ((k : ℕ) (j : _) (a : _) → k < l.job → g.W.Work.gives l.work (slice_index_or l.jobs k j) (slice_index_or l.answers.items k a))
