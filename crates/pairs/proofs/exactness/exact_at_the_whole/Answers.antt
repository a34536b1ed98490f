use Rattle.pairs.proofs.ExactLaws.{exact-whole, whole-exact}
use Rattle.pairs.proofs.exactness.exact_at_the_whole.Goals as goal

pub returns : goal.returns
returns c = record { comes = exact-whole; goes = whole-exact }
