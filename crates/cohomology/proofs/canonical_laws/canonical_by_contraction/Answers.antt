use Rattle.cohomology.proofs.Canonicals.{canonical-own, canonical-word, canonical-values}
use Rattle.cohomology.proofs.canonical_laws.canonical_by_contraction.Goals as goal

pub returns : goal.returns
returns c = record { class = canonical-own; word = canonical-word; values = canonical-values }
