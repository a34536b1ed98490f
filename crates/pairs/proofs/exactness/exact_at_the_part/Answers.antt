use Rattle.pairs.proofs.ExactLaws.{exact-part, part-exact}
use Rattle.pairs.proofs.exactness.exact_at_the_part.Goals as goal

pub returns : goal.returns
returns c = record { comes = exact-part; goes = part-exact }
