use Rattle.std.specs.Prelude.{◌≡◌, take}
use Rattle.std.specs.List.{filter}
use Rattle.products.specs.Products.{cup}
use Rattle.cochain_values.specs.Marks.{marked}
use Rattle.cup_i.proofs.by_members.at_these.Given as goal

abbrev pub invariant-loop-id : goal.invariant-loop-id
invariant-loop-id l = l.support.items ≡ filter (cup l.k l.i (marked l.first.marks.items) (marked l.second.marks.items)) (take l.id-index l.ids)
