use Rattle.std.specs.Prelude.{◌≡◌, ◌++◌, take}
use Rattle.std.specs.List.{filter}
use Rattle.cup_i.specs.Above.{is_kept}
use Rattle.cup_i.proofs.above.push_kept.Given as goal

abbrev pub invariant-loop-coface : goal.invariant-loop-coface
invariant-loop-coface l = l.next.items ≡ l.fn.next.items ++ filter (is_kept l.k l.behind l.id) (take l.coface-index l.cofaces)
