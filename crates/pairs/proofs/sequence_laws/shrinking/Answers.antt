use Rattle.pairs.proofs.SequenceLaws.{shrink-given, shrink-taken, shrink-broken, shrink-differs, shrink-different}
use Rattle.pairs.proofs.sequence_laws.shrinking.Goals as goal

pub returns : goal.returns
returns c = record {
  given = shrink-given;
  taken = λ K A k a_ok part p z. shrink-taken K A p z k a_ok part;
  broken = λ K A p x z. shrink-broken K A p z x;
  differs = λ K A k a_ok part p h z chain. shrink-differs K A p z k a_ok part h chain;
  different = λ K A p j w z cocycle. shrink-different K A p z cocycle j w;
}
