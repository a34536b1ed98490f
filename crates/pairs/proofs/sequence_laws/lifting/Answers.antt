use Rattle.pairs.proofs.SequenceLaws.{lift-given, lift-connects, lift-zero, lift-taken, lift-broken, lift-on_part, lift-first, lift-differs, lift-different}
use Rattle.pairs.proofs.sequence_laws.lifting.Goals as goal

pub returns : goal.returns
returns c = record {
  given = λ K A k p r d chain. lift-given K A p r k chain d;
  connects = lift-connects;
  zero = lift-zero;
  taken = λ K A k p r. lift-taken K A p r k;
  broken = λ K A p x r. lift-broken K A p r x;
  on_part = λ K A p x r chain. lift-on_part K A p r chain x;
  first_on_part = λ K A p x r cocycle. lift-first K A p r cocycle x;
  differs = λ K A k p h r chain. lift-differs K A p r k chain h;
  different = λ K A k p j w r R. lift-different K A p r R j w;
}
