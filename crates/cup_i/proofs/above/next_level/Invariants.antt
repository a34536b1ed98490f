use Rattle.std.specs.Prelude.{◌≡◌, ℕ, take}
use Rattle.std.specs.List.{list_any}
use Rattle.homology.specs.Sets.{set_of}
use Rattle.cup_i.specs.Above.{kept_cofaces}
use Rattle.cup_i.proofs.above.next_level.Given as goal

abbrev pub invariant-loop-id : goal.invariant-loop-id
invariant-loop-id l = (z : ℕ) → set_of l.next.items z ≡ list_any (λ u. set_of (kept_cofaces l.k l.behind u) z) (take l.id-index l.level)
