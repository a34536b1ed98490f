use Rattle.std.proofs.Common.{arith}
use Rattle.manifolds.proofs.LinkLaws.{set_of-at}
use Rattle.manifold_links.proofs.circle.other.Goals as goal

pub returns : goal.returns
returns c = set_of-at c.args.edges.now 0 (omega (arith, c.requires))
