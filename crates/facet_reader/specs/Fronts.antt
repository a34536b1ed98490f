-- What a line begins with.
--     front ws                 the first byte of the first of the words ws
--     TakesCaller old new r    of the words old, r took the caller word that stands in front, and left new; or there is none
use Rattle.std.specs.Prelude.{◌≡◌, ℕ, List, [], ◌∷◌, Option, Some, None, Result, Ok, Err}
use Rattle.language.specs.Words.{Word}
use Rattle.language.specs.Arguments.{caller_word}
use Rattle.language.specs.Grammar.{Left, first_byte, one}
use Rattle.facet_reader.specs.declared.refusal.ReadRefusal.{ReadRefusal}
use Rattle.facet_reader.specs.Meanings.{Refuses}

abbrev pub front : List Word → Option ℕ
front [] = None
front (w ∷ ws) = Some (first_byte w)

abbrev pub TakesCaller : Left → Left → Result (Option ℕ) ReadRefusal → Type 0
TakesCaller old new (Ok (Some k)) = (front old.words ≡ Some 64) × (one caller_word old ≡ Ok (k, new))
TakesCaller old new (Ok None) = (front old.words ≡ Some 64 → ⊥) × (new ≡ old)
TakesCaller old new (Err e) = (front old.words ≡ Some 64) × Refuses (one caller_word old) e
