use Rattle.std.specs.Prelude.{◌≡◌, take}
use Rattle.std.specs.List.{filter}
use Rattle.cohomology_operations.specs.Bocksteins.{bockstein}
use Rattle.cochain_values.specs.Marks.{marked}
use Rattle.steenrod.proofs.halved.odd_halves.Given as goal

abbrev pub invariant-loop-id : goal.invariant-loop-id
invariant-loop-id l = l.odd.items ≡ filter (bockstein l.k (marked l.marks)) (take l.id-index l.ids)
