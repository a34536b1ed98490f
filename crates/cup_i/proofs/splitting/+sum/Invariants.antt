-- Each call goes along fewer vertices.
use Rattle.cup_i.proofs.splitting.+sum.Given as goal

abbrev pub decreases-sum : goal.decreases-sum
decreases-sum l = l.rest
