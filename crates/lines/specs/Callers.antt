-- What a caller has of the line, and what its requests make of that.
--     State                    the length of the line that the caller has seen, its names with their versions, and the version
--                              in use
--     start                    the state at first
--     held st x                the version that a name stands for
--     changed L c st x         the state after the change x of the caller c on the line L
--     sees L st                after a look at the line L, whose last version comes into use
--     sees_from n L st         the same where L has at least n entries; else the look alone is kept
--     holds x st, takes x st, releases x st     a name for the version in use; its version into use; the name forgotten
--     after L c st r           the state after the request r of the caller c, whose look, where it looks, is the line L
--     line_after L c r         the line then
--     looks r                  whether the request r looks
-- A request that does not look leaves the length seen as it is.
use Rattle.std.specs.Prelude.{ℕ, Bool, true, false, ◌+◌, ◌-◌, cond, not, List, [], ◌∷◌, ◌++◌, length, map, nat_le, nat_lt, Option, Some, None, Result, Ok, Err}
use Rattle.std.specs.List.{filter}
use Rattle.homology.specs.Simplices.{same_list}
use Rattle.language.specs.Language.{Request, Blank, Attach, Facet, Cut, Back, See, After, Hold, Take, Release, Round, Quit, Ask}
use Rattle.lines.specs.Lines.{Line, cuts}
use Rattle.lines.specs.Changes.{Change, Refusal, judged}
use Rattle.lines.specs.Changes as change

-- the most names that a caller holds
abbrev pub name_capacity : ℕ
name_capacity = 64

pub record State : Type 0 where
  pub seen : ℕ
  pub names : List (List ℕ × ℕ)
  pub in_use : ℕ

abbrev pub start : State
start = record { seen = 0; names = []; in_use = 0 }

abbrev pub version_of : List (List ℕ × ℕ) → List ℕ → Option ℕ
version_of [] x = None
version_of ((y, v) ∷ names) x = cond (same_list y x) (Some v) (version_of names x)

abbrev pub held : State → List ℕ → Option ℕ
held st x = version_of st.names x

-- a cut takes the new version into use
abbrev pub changed_so : Line → State → Change → Result Line Refusal → State
changed_so L st change.Cut (Ok es) = record st { seen = length (L ++ es); in_use = cuts (L ++ es) }
changed_so L st x (Ok es) = record st { seen = length (L ++ es) }
changed_so L st x (Err why) = record st { seen = length L }

abbrev pub changed : Line → ℕ → State → Change → State
changed L c st x = changed_so L st x (judged L c x)

abbrev pub sees : Line → State → State
sees L st = record st { seen = length L; in_use = cuts L }

abbrev pub sees_from : ℕ → Line → State → State
sees_from n L st = cond (nat_le n (length L)) (sees L st) (record st { seen = length L })

abbrev pub named : List ℕ → State → Option ℕ → State
named x st (Some v) = st
named x st None = cond (nat_lt (length st.names) name_capacity) (record st { names = st.names ++ (x, st.in_use) ∷ [] }) st

abbrev pub holds : List ℕ → State → State
holds x st = named x st (held st x)

abbrev pub taken : State → Option ℕ → State
taken st (Some v) = record st { in_use = v }
taken st None = st

abbrev pub takes : List ℕ → State → State
takes x st = taken st (held st x)

abbrev pub releases : List ℕ → State → State
releases x st = record st { names = filter (λ name. not (same_list name.0 x)) st.names }

abbrev pub looks : Request → Bool
looks (Attach s) = true
looks (Facet F) = true
looks Cut = true
looks (Back v) = true
looks See = true
looks (After n) = true
looks (Hold x) = false
looks (Take x) = false
looks (Release x) = false
looks (Round n) = false
looks (Ask q) = false
looks Quit = false
looks Blank = false

-- the change that a request asks for
abbrev pub change_of : Request → Option Change
change_of (Attach s) = Some (change.Attach s)
change_of (Facet F) = Some (change.Facet F)
change_of Cut = Some change.Cut
change_of (Back v) = Some (change.Back v)
change_of _ = None

abbrev pub added_so : Line → Result Line Refusal → Line
added_so L (Ok es) = L ++ es
added_so L (Err why) = L

abbrev pub line_after_change : Line → ℕ → Option Change → Line
line_after_change L c (Some x) = added_so L (judged L c x)
line_after_change L c None = L

abbrev pub line_after : Line → ℕ → Request → Line
line_after L c r = line_after_change L c (change_of r)

abbrev pub after : Line → ℕ → State → Request → State
after L c st (Attach s) = changed L c st (change.Attach s)
after L c st (Facet F) = changed L c st (change.Facet F)
after L c st Cut = changed L c st change.Cut
after L c st (Back v) = changed L c st (change.Back v)
after L c st See = sees L st
after L c st (After n) = sees_from n L st
after L c st (Hold x) = holds x st
after L c st (Take x) = takes x st
after L c st (Release x) = releases x st
after L c st (Round n) = st
after L c st (Ask q) = st
after L c st Quit = st
after L c st Blank = st
