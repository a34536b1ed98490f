use Rattle.std.proofs.Common.{subst, sym, ◌≤◌, ◌*◌}
use Rattle.std.proofs.Math.Nat.{mul_comm}
use Rattle.std.proofs.lemmas.Grind.{div_ceil_times}
use Rattle.worker_rounds.proofs.round.turns_of.Goals as goal

pub returns : goal.returns
returns c = subst (λ m. c.args.jobs ≤ m) (mul_comm c.div_ceil.result c.args.workers) (subst (λ t. c.args.jobs ≤ t * c.args.workers) (sym c.div_ceil.ensures) (div_ceil_times c.args.jobs c.args.workers c.requires).0)
