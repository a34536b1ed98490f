use Rattle.version_roots.proofs.BookLaws.{kept-nothing}
use Rattle.version_roots.proofs.line.Line.new.Goals as goal

pub invariant_of-result : goal.invariant_of-result
invariant_of-result c = rw c.new.ensures.items kept-nothing
