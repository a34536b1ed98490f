use Rattle.shellings.proofs.ShellingLaws.{shelling-absent, shelling-present}
use Rattle.shellings.proofs.shelling_laws.refusal_of_absent.Goals as goal

pub returns : goal.returns
returns c = record {
  absent = shelling-absent;
  there = shelling-present;
}
