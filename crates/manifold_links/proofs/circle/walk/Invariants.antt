use Rattle.std.specs.Prelude.{◌≡◌, ℕ, ◌<◌, true, length}
use Rattle.homology.specs.Sets.{set_of}
use Rattle.manifold_links.specs.Circles.{Comes, IsWalked}
use Rattle.manifold_links.proofs.circle.walk.Given as goal

abbrev pub invariant-loop-step : goal.invariant-loop-step
invariant-loop-step l = record {
  walked : (z : ℕ) → set_of l.walked.items z ≡ true → IsWalked l.k l.id l.start z;
  there : l.at.coface < length l.k;
  comes : Comes l.k l.id l.start l._step l.at.coface;
}
