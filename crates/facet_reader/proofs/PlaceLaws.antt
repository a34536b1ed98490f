-- Words taken at their places.
--     one-taken, one-bad, one-missing     a word that stands at its place, one that cannot, and none
--     refuses_missing, refuses_bad, refuses_word     the refusals that tell so
use Rattle.std.proofs.Common.{◌≡◌, ℕ, ◌+◌, List, [], ◌∷◌, length, Result, Ok, Err, sym, ap, ◌∙◌}
use Rattle.language.specs.declared.fault.FaultKind.{FaultKind}
use Rattle.language.specs.declared.fault.FaultKind.TheVariants as bad
use Rattle.facet_reader.specs.declared.refusal.ReadRefusal.{ReadRefusal}
use Rattle.facet_reader.specs.declared.refusal.ReadRefusal.TheVariants as line
use Rattle.facet_reader.specs.declared.refusal.WordRefusal.{WordRefusal}
use Rattle.facet_reader.specs.declared.refusal.WordRefusal.TheVariants as word
use Rattle.facet_reader.specs.Meanings.{Refuses, RefusesWord, refused}
use Rattle.language.specs.Words.{Word}
use Rattle.language.specs.declared.fault.FaultKind.{FaultKind}
use Rattle.language.specs.declared.fault.FaultKind.TheVariants.{Missing}
use Rattle.language.specs.Grammar.{Left, one, taken, and_then, at_column}

pub one-taken : {A : Type 0} (read : List ℕ → Result A FaultKind) (left rest : Left) (w : Word) (a : A) → left.words ≡ w ∷ rest.words → rest.line ≡ left.line → read w.bytes ≡ Ok a → one read left ≡ Ok (a, rest)
unfolding one
one-taken read left rest w a words line' is =
    ap (taken read left.line) words
    ∙ ap (λ r. and_then (at_column w.column r) (λ b. Ok (b, record { line = left.line; words = rest.words }))) is
    ∙ ap (λ n. Ok (a, record { line = n; words = rest.words })) (sym line')

pub one-bad : {A : Type 0} (read : List ℕ → Result A FaultKind) (left : Left) (w : Word) (ws : List Word) (k : FaultKind) → left.words ≡ w ∷ ws → read w.bytes ≡ Err k → one read left ≡ Err (record { column = w.column; kind = k })
unfolding one
one-bad read left w ws k words is =
    ap (taken read left.line) words ∙ ap (λ r. and_then (at_column w.column r) (λ b. Ok (b, record { line = left.line; words = ws }))) is

pub one-missing : {A : Type 0} (read : List ℕ → Result A FaultKind) (left : Left) → left.words ≡ [] → one read left ≡ Err (record { column = length left.line + 1; kind = Missing })
unfolding one
one-missing read left words = ap (taken read left.line) words

pub refuses_missing : {A : Type 0} (read : List ℕ → Result A FaultKind) (left : Left) (e : ReadRefusal) → (left.words ≡ []) × (e ≡ line.Bad (record { column = length left.line + 1; kind = bad.Missing })) → Refuses (one read left) e
refuses_missing read left e h = rw h.1 (one-missing read left h.0)

pub refuses_bad : {A : Type 0} (read : List ℕ → Result A FaultKind) (left : Left) (w : Word) (ws : List Word) (k : FaultKind) (e : ReadRefusal) → left.words ≡ w ∷ ws → read w.bytes ≡ Err k → e ≡ line.Bad (record { column = w.column; kind = k }) → Refuses (one read left) e
refuses_bad read left w ws k e words is told = rw told (one-bad read left w ws k words is)

pub refuses_word : {A : Type 0} (read : List ℕ → Result A FaultKind) (left : Left) (w : Word) (ws : List Word) (r : WordRefusal) (e : ReadRefusal) → left.words ≡ w ∷ ws → RefusesWord (read w.bytes) r → e ≡ refused w.column r → Refuses (one read left) e
refuses_word read left w ws (word.Bad k) e words is told = refuses_bad read left w ws k e words is told
refuses_word read left w ws word.Memory e words is told = rw told tt
