-- What a `&mut` ends as whose borrow goes on in a shared reference.
--     Rests R s P     the value behind s ends as one of which P holds
use Rattle.std.specs.Prelude.{⊤}
use Rattle.std.specs.Borrow.{RattleType, MutBor, Fml, follows_so}
use mathlib.Core.Option.{none}

abbrev pub Rests : (R : RattleType) → MutBor R.Denot → (R.Denot → Type 0) → Fml
Rests R s P = follows_so R R s.ghost_name none (λ _ _. ⊤) P
