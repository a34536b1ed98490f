use Rattle.std.proofs.Common.{◌≡◌, map, drop}
use Rattle.language.specs.Arguments.{value}
use Rattle.facet_reader.proofs.item_list.numbers_of.Given as goal

abbrev pub invariant-loop-word : goal.invariant-loop-word
invariant-loop-word l = l.numbers.items ≡ map (λ w. value (drop 1 w)) (map (λ x. x.now) l.yielded)
