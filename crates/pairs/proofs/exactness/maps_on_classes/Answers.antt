use Rattle.pairs.proofs.ExactLaws.{coboundary-restricts, connecting-plus}
use Rattle.pairs.proofs.ConnectLaws.{included-coboundary, connect-same, connect-zero}
use Rattle.pairs.proofs.exactness.maps_on_classes.Goals as goal

pub returns : goal.returns
returns c = record {
  restricted = coboundary-restricts;
  included = included-coboundary;
  connected = connect-same;
  additive = connecting-plus;
  zero = connect-zero;
}
