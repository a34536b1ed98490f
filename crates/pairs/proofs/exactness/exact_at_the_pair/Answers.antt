use Rattle.pairs.proofs.ExactLaws.{exact-pair, pair-exact}
use Rattle.pairs.proofs.exactness.exact_at_the_pair.Goals as goal

pub returns : goal.returns
returns c = record { comes = exact-pair; goes = pair-exact; zero = λ K A r R none. none }
