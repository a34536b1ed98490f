use Rattle.std.proofs.Common.{◌∙◌}
use Rattle.manifold_links.proofs.RidgeLaws.{times-counted}
use Rattle.manifold_links.proofs.closedness.times.Goals as goal

pub returns : goal.returns
returns c = c.requires.counted c.args.id c.requires.there ∙ times-counted c.args.k.now c.requires.complex c.args.id c.requires.there c.requires.ridge
