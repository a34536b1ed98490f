use Rattle.pairs.proofs.PartLaws.{moved-restricted, moved-back, moved-outside, relative-restriction, coboundary-moved}
use Rattle.pairs.proofs.pair_laws.restriction.Goals as goal

pub returns : goal.returns
returns c = record {
  restricted = moved-restricted;
  back = moved-back;
  outside = λ K A. moved-outside A K;
  relative = relative-restriction;
  coboundary = coboundary-moved;
}
