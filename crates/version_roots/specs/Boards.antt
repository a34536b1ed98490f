-- What a caller sees of a board.
--     Given               how many entries of each kind its answers gave
--     Sight               the caller whose turn it is, the board's home, the line that it has shown, what it gave, and the
--                         whole line, where it tells it
--     given_by L          the entries of the line L, counted
--     Stays a b           caller and home are the same
--     Looks a b           a look: the line shown has the one before as a beginning, and is the whole line where that is told
--     Makes a x b J       the change x was judged on the line J, and came in; J has the line shown before as a beginning, and
--                         is the whole line where that is told
--     Done a x b P        so for some line J, of which P holds
--     Declines a x b why  the change was refused so on the line then shown; after want of memory all is as before
use Rattle.std.specs.Prelude.{◌≡◌, ℕ, ◌+◌, Bool, true, false, List, ◌++◌, count_by, length, Option, Some, None, IfSome, Err}
use mathlib.Core.List.{IsPrefix}
use Rattle.lines.specs.Lines.{Entry, Attach, Cut, Back, Line, cuts, returns}
use Rattle.lines.specs.Changes.{Change, Refusal, judged}
use Rattle.version_roots.specs.Judged.{Added}

pub record Given : Type 0 where
  pub attaches : ℕ
  pub cuts : ℕ
  pub returns : ℕ

pub record Sight : Type 0 where
  pub caller : ℕ
  pub home : List ℕ
  pub line : Line
  pub given : Given
  pub whole : Option Line

abbrev pub is_attach : Entry → Bool
is_attach (Attach c s) = true
is_attach (Cut c) = false
is_attach (Back c v) = false

abbrev pub given_by : Line → Given
given_by L = record { attaches = count_by is_attach L; cuts = cuts L; returns = returns L }

abbrev pub with_given : Given → Given → Given
with_given g h = record { attaches = g.attaches + h.attaches; cuts = g.cuts + h.cuts; returns = g.returns + h.returns }

abbrev pub Stays : Sight → Sight → Type 0
Stays a b = (b.caller ≡ a.caller) × (b.home ≡ a.home)

pub record Looks (a b : Sight) : Type 0 where
  pub stays : Stays a b
  pub front : IsPrefix a.line b.line
  pub told : IfSome a.whole (λ W. b.line ≡ W)
  pub given : b.given ≡ a.given
  pub whole : b.whole ≡ a.whole

abbrev pub told_anew : Option Line → Line → Option Line
told_anew (Some W) L = Some L
told_anew None L = None

pub record Makes (a : Sight) (x : Change) (b : Sight) (J : Line) : Type 0 where
  pub stays : Stays a b
  pub front : IsPrefix a.line J
  pub told : IfSome a.whole (λ W. J ≡ W)
  pub added : Added J a.caller x b.line
  pub given : b.given ≡ with_given a.given (given_by added.entries)
  pub whole : b.whole ≡ told_anew a.whole b.line

pub record Done (a : Sight) (x : Change) (b : Sight) (P : Line → Type 0) : Type 0 where
  pub on : Line
  pub makes : Makes a x b on
  pub says : P on

pub record Refuses (a : Sight) (x : Change) (b : Sight) (why : Refusal) : Type 0 where
  pub looks : Looks a b
  pub so : judged b.line a.caller x ≡ Err why

abbrev pub Declines : Sight → Change → Sight → Option Refusal → Type 0
Declines a x b (Some why) = Refuses a x b why
Declines a x b None = b ≡ a
