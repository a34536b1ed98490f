-- The words of the program, and its statuses.
--     IsScript words                  the one word `script`
--     status_of how                   the status at an end
--     IsStatus n                      n is 1, the status where the words are others, or the status at an end
--     StatusAnswers b left old new status
--                                     what a status says of the bytes b that the source had left, of what it has left, and
--                                     of what the sink holds
use Rattle.std.specs.Prelude.{String, ◌≡◌, ◌⊎◌, ℕ, List, [], ◌∷◌, Option, map, codes}
use Rattle.std.specs.String.{string_bytes}
use Rattle.cohom_main.specs.Ends.{Answers}
use Rattle.session_core.specs.declared.ends.SessionEnd.{SessionEnd}
use Rattle.session_core.specs.declared.ends.How.{How}
use Rattle.session_core.specs.declared.ends.How.TheVariants.{Input, Quit, ReadFault, WriteFault, LongLine, Spent, Memory}

abbrev pub IsScript : {Z : Type 0} → List (String Z) → Type 0
IsScript words = map string_bytes words ≡ codes "script" ∷ []

abbrev pub status_of : How → ℕ
status_of Input = 0
status_of Quit = 0
status_of ReadFault = 2
status_of WriteFault = 3
status_of Memory = 5
status_of LongLine = 6
status_of Spent = 7

abbrev pub IsStatus : ℕ → Type 0
IsStatus n = (n ≡ 1) ⊎ ((how : How) × (n ≡ status_of how))

pub record StatusAnswers (b : List ℕ) (left old new : Option (List ℕ)) (status : ℕ) : Type 0 where
  pub end : SessionEnd
  pub is : status ≡ status_of end.how
  pub answers : Answers b left old new end
