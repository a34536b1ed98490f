use Rattle.shellings.proofs.SphereLaws.{shelling-passes}
use Rattle.shellings.proofs.shelling_laws.link_of_shelling.Goals as goal

pub returns : goal.returns
returns c = shelling-passes
