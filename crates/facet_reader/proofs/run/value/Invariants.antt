use Rattle.std.proofs.Common.{◌≡◌, ◌<◌, ◌^◌, take}
use Rattle.language.specs.Arguments.{value}
use Rattle.facet_reader.proofs.run.value.Given as goal

abbrev pub invariant-loop-digit : goal.invariant-loop-digit
invariant-loop-digit l = record {
  is : l.value ≡ value (take l.digit-index l.run);
  bound : l.value < 10 ^ l.digit-index;
}
