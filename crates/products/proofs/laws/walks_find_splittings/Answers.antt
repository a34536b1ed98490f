use Rattle.std.proofs.Common.{◌∙◌}
use Rattle.homology.proofs.ListSetLaws.{Rises-ascending}
use Rattle.products.proofs.SplittingLaws.{weigh-splittings}
use Rattle.products.proofs.WalkLaws.{are, weigh-walks}
use Rattle.products.proofs.laws.walks_find_splittings.Goals as goal

pub returns : goal.returns
returns c = λ k first p q s up. weigh-splittings k first s (are p q) ∙ weigh-walks k first 0 s p q (Rises-ascending s up)
