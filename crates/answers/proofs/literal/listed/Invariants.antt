-- The simplices of the ids so far.
use Rattle.std.proofs.Common.{◌≡◌, map, take}
use Rattle.homology.specs.Complexes.{simplex_at}
use Rattle.answers.specs.Literals.{there}
use Rattle.answers.proofs.literal.listed.Given as goal

abbrev pub invariant-loop-id : goal.invariant-loop-id
invariant-loop-id l = l.simplices.items ≡ map (simplex_at l.complex) (there l.complex (take l.id-index l.ids))
