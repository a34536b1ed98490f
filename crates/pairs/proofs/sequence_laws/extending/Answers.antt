use Rattle.pairs.proofs.SequenceLaws.{extend-given, extend-taken, extend-broken, extend-stops, extend-stopped}
use Rattle.pairs.proofs.sequence_laws.extending.Goals as goal

pub returns : goal.returns
returns c = record {
  given = λ K A k a_ok part p a d chain. extend-given K A p a k a_ok part chain d;
  taken = λ K A k a_ok part p a b chain. extend-taken K A p a k a_ok part chain b;
  broken = λ K A p x a. extend-broken K A p a x;
  stops = λ K A k a_ok part p a z chain. extend-stops K A p a k a_ok part chain z;
  stopped = extend-stopped;
}
