use Rattle.cochain_values.specs.Marks.{marked, IsListed}
use Rattle.cochain_values.proofs.marks.chain_of.Given as goal

abbrev pub invariant-loop-id : goal.invariant-loop-id
invariant-loop-id l = IsListed (marked l.marks) l.id l.ids.items
