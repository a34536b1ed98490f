-- The refusals of a list of simplices.
--     said r           what the refusal r says; nothing where no memory was left
--     Refuses v r      what r says is wrong is what is wrong with what is read as v; want of memory may come at any
use Rattle.std.specs.Prelude.{◌≡◌, Option, Some, None, IfSome, Result, Err}
use Rattle.cohomology.specs.Words.{NotSettled, NotThere, Degree}
use Rattle.cochain_values.specs.declared.refusal.CochainRefusal.{CochainRefusal}
use Rattle.cochain_values.specs.declared.refusal.CochainRefusal.TheVariants as refusal

abbrev pub said : CochainRefusal → Option NotSettled
said (refusal.NotThere s) = Some (NotThere s)
said (refusal.Degree s) = Some (Degree s)
said refusal.Memory = None

abbrev pub Refuses : {A : Type 0} → Result A NotSettled → CochainRefusal → Type 0
Refuses v r = IfSome (said r) (λ why. v ≡ Err why)
