use Rattle.std.proofs.Common.{◌≡◌, map}
use Rattle.language.specs.Arguments.{value}
use Rattle.facet_reader.proofs.simplex_word.vertices.Given as goal

abbrev pub invariant-loop-run : goal.invariant-loop-run
invariant-loop-run l = l.vertices.items ≡ map value (map (λ x. x.now) l.yielded)
