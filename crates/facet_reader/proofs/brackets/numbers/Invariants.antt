-- The numbers of the runs that came, or their fault.
use Rattle.std.proofs.Common.{◌≡◌, map}
use Rattle.facet_reader.specs.Lists.{told, numbers_of}
use Rattle.facet_reader.proofs.brackets.numbers.Given as goal

abbrev pub invariant-loop-word : goal.invariant-loop-word
invariant-loop-word l = numbers_of (map (λ x. x.now) l.yielded) ≡ told l.fault l.numbers.items
