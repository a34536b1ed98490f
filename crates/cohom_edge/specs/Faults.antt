-- Counts of faults: what a call of the outside does to its count, and what a fault may be blamed on.
--     last_count            the last value of a count that the code keeps
--     risen n               the count after one more fault: one more, or the last value
--     Rose old new          the count rose from old to new, or stands at its last value
--     Excuses fault old new what a sink's fault says of the counts before and after it
--     counted_fault f n     the count of a sink that counts its failures, and not its want of memory
-- Each count is a number of the outside itself: it never falls, and no caller sets it.
use Rattle.std.specs.Prelude.{◌≡◌, ℕ, ◌+◌, ◌-◌, ◌^◌, ◌<◌, ◌⊎◌, min}
use Rattle.cohom_edge.specs.declared.faults.SinkFault.{SinkFault}
use Rattle.cohom_edge.specs.declared.faults.SinkFault.TheVariants.{Failed, Memory}

-- the last value of a count of 64 bits
abbrev pub last_count : ℕ
last_count = 2 ^ 64 - 1

-- the count after one more fault
abbrev pub risen : ℕ → ℕ
risen n = min (n + 1) last_count

-- the count rose, or it stands at its last value, where a further fault cannot show
abbrev pub Rose : ℕ → ℕ → Type 0
Rose old new = (old < new) ⊎ ((old ≡ last_count) × (new ≡ last_count))

-- a failure of the outside where the count rose, and want of memory where it stands
abbrev pub Excuses : SinkFault → ℕ → ℕ → Type 0
Excuses Failed old new = Rose old new
Excuses Memory old new = new ≡ old

-- the count after a fault of a sink that counts its failures alone
abbrev pub counted_fault : SinkFault → ℕ → ℕ
counted_fault Failed n = risen n
counted_fault Memory n = n
