-- The steps of a script: what a request of a caller changes, and what it is answered.
--     State                what a script has come to: the one line, and the states of its sixteen callers
--     start                the state at first
--     refused why          the reply to a change that the line refuses
--     reply L c st r       the reply to the request r of the caller c, whose state is st, where the line is L
--     after st c r         the state after the request r of the caller c, each look of which is the whole line
--     looks_of st r        the lengths at which the request r looks: at most one
--     after_asked, reply_asked, looks_asked     the same of what a line asks; caller 0 where it names none
use Rattle.std.specs.Prelude.{ℕ, cond, List, [], ◌∷◌, ◌++◌, length, nat_lt, nat_le, replicate, slice_set, slice_index_or, Option, Some, None, Result, Ok, Err}
use Rattle.language.specs.Language.{Request, Asked, Blank, Attach, Facet, Cut, Back, See, After, Hold, Take, Release, Round, Quit, Ask}
use Rattle.language.specs.Verbs.{verb}
use Rattle.lines.specs.Lines.{Line, callers, cuts, simplices, version}
use Rattle.lines.specs.Changes.{Change, Refusal, judged}
use Rattle.lines.specs.Changes as change
use Rattle.lines.specs.Callers as caller
use Rattle.lines.specs.Callers.{held, line_after, name_capacity}
use Rattle.transcript.specs.Answers.{answer}
use Rattle.transcript.specs.Replies.{Reply, Silent, Later, Attached, Faceted, WasCut, WentBack, Seen, SeenFrom, NotYet, Holds, HoldsAlready, HoldsFull, HasTaken, HasReleased, NoName, Computed, IsThere, LacksFace, IsFull, NoVersion, HasQuit}

pub record State : Type 0 where
  pub line : Line
  pub callers : List caller.State

abbrev pub start : State
start = record { line = []; callers = replicate callers caller.start }

abbrev pub state_of : State → ℕ → caller.State
state_of st c = slice_index_or st.callers c caller.start

abbrev pub refused : Refusal → Reply
refused (change.IsThere id) = IsThere id
refused (change.LacksFace t) = LacksFace t
refused (change.IsFull n) = IsFull n
refused (change.NoVersion n) = NoVersion n

-- a change that added these entries to the line
abbrev pub accepted : Line → Change → Line → Reply
accepted L (change.Attach s) es = Attached (length (simplices L)) (length (L ++ es))
accepted L (change.Facet F) es = Faceted (length es) (length (L ++ es))
accepted L change.Cut es = WasCut (cuts (L ++ es)) (length (L ++ es))
accepted L (change.Back v) es = WentBack v (length (L ++ es))

abbrev pub told : Line → Change → Result Line Refusal → Reply
told L x (Ok es) = accepted L x es
told L x (Err why) = refused why

abbrev pub reply_to_change : Line → ℕ → Change → Reply
reply_to_change L c x = told L x (judged L c x)

abbrev pub reply_to_hold : List ℕ → caller.State → Option ℕ → Reply
reply_to_hold x st (Some v) = HoldsAlready x
reply_to_hold x st None = cond (nat_lt (length st.names) name_capacity) (Holds x st.in_use) HoldsFull

abbrev pub reply_to_take : List ℕ → Option ℕ → Reply
reply_to_take x (Some v) = HasTaken x v
reply_to_take x None = NoName x

abbrev pub reply_to_release : List ℕ → Option ℕ → Reply
reply_to_release x (Some v) = HasReleased x
reply_to_release x None = NoName x

abbrev pub reply : Line → ℕ → caller.State → Request → Reply
reply L c st Blank = Silent
reply L c st (Attach s) = reply_to_change L c (change.Attach s)
reply L c st (Facet F) = reply_to_change L c (change.Facet F)
reply L c st Cut = reply_to_change L c change.Cut
reply L c st (Back v) = reply_to_change L c (change.Back v)
reply L c st See = Seen (cuts L) (length L)
reply L c st (After n) = cond (nat_le n (length L)) (SeenFrom (cuts L) (length L)) (NotYet (length L))
reply L c st (Hold x) = reply_to_hold x st (held st x)
reply L c st (Take x) = reply_to_take x (held st x)
reply L c st (Release x) = reply_to_release x (held st x)
reply L c st (Round n) = Later
reply L c st (Ask q) = Computed st.in_use (verb q) (answer (version L st.in_use) q)
reply L c st Quit = HasQuit

abbrev pub after : State → ℕ → Request → State
after st c r = record { line = line_after st.line c r; callers = slice_set st.callers c (caller.after st.line c (state_of st c) r) }

abbrev pub looks_of : State → Request → List ℕ
looks_of st r = cond (caller.looks r) (length st.line ∷ []) []

-- a line that names no caller is one of caller 0
abbrev pub caller_of : Option ℕ → ℕ
caller_of (Some c) = c
caller_of None = 0

abbrev pub after_asked : State → Asked → State
after_asked st asked = after st (caller_of asked.caller) asked.request

abbrev pub reply_asked : State → Asked → Reply
reply_asked st asked = reply st.line (caller_of asked.caller) (state_of st (caller_of asked.caller)) asked.request

abbrev pub looks_asked : State → Asked → List ℕ
looks_asked st asked = looks_of st asked.request
