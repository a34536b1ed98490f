use Rattle.pairs.proofs.Extremes.{least-part, least-positive, least-bounding, least-betti, greatest-betti}
use Rattle.pairs.proofs.pair_laws.least_and_greatest_part.Goals as goal

pub returns : goal.returns
returns c = record {
  least = λ K k. (least-part K, least-positive K k, least-bounding K k, least-betti K k);
  greatest = λ K. (λ s h. h, greatest-betti K);
}
