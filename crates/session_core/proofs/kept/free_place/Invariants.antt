use Rattle.std.proofs.Common.{◌≡◌, ℕ, ◌<◌, true}
use Rattle.session_core.specs.Places.{stands_for}
use Rattle.session_core.proofs.kept.free_place.Given as goal

abbrev pub invariant-loop-place : goal.invariant-loop-place
invariant-loop-place l = (p : ℕ) → p < l.place → stands_for l.names l.kept p ≡ true
