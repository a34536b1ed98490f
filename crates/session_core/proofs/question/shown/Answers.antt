-- Each question is answered by its call.
use Rattle.session_core.proofs.question.shown.Goals as goal

pub returns-in-KindOf : goal.returns-in-KindOf
returns-in-KindOf c = rw c.in-KindOf.is (rw c.model-in-KindOf.ensures at c.kind.ensures)

pub returns-in-ModelOf : goal.returns-in-ModelOf
returns-in-ModelOf c = rw c.in-ModelOf.is (rw c.model-in-ModelOf.ensures at c.maps.ensures)
