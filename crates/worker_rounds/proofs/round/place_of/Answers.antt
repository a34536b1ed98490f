use Rattle.worker_rounds.proofs.Places.{place-back, place-within}
use Rattle.worker_rounds.proofs.round.place_of.Goals as goal

pub returns-clause-within : goal.returns-clause-within
returns-clause-within c = place-within c.args.job c.args.workers c.args.turns c.requires.some c.requires.within

pub returns-clause-back : goal.returns-clause-back
returns-clause-back c = place-back c.args.job c.args.workers c.args.turns c.requires.some c.requires.within
