use Rattle.pairs.proofs.PartLaws.{part-search, part-told}
use Rattle.pairs.proofs.pair_laws.part_by_search.Goals as goal

pub returns : goal.returns
returns c = record { accepted = part-search; told = part-told }
