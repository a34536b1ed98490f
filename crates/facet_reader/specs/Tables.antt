-- Words in the tables of the grammar.
--     Has table w f, Lacks table w      a word of a table with its form; a word that is none of it
use Rattle.std.specs.Prelude.{◌≡◌, ℕ, List, Ok, Err}
use Rattle.language.specs.declared.fault.FaultKind.{FaultKind}
use Rattle.language.specs.Grammar.{Entry, Form, named}

abbrev pub Has : List Entry → List ℕ → Form → Type 0
Has table w f = (k : FaultKind) → named k table w ≡ Ok f

abbrev pub Lacks : List Entry → List ℕ → Type 0
Lacks table w = (k : FaultKind) → named k table w ≡ Err k
