-- The replies to lines.
--     Reply       what a line is answered; n is the number of entries since then
--     is_quit r   whether r is the reply to `quit`, after which a script ends
--     words r     what the reply r says
--     text r      its bytes: none, or one line with its line feed
use Rattle.std.specs.Prelude.{ℕ, Bool, true, false, List, [], ◌∷◌, ◌++◌, codes, decimal, Ok, Err}
use Rattle.language.specs.declared.fault.Fault.{Fault}
use Rattle.language.specs.declared.verb.Verb.{Verb}
use Rattle.language.specs.Faults.{kind_text}
use Rattle.language.specs.Verbs.{verb_text}
use Rattle.lines.specs.Callers.{name_capacity}
use Rattle.transcript.specs.Values.{simplex_text}
use Rattle.transcript.specs.Refusals.{why_text}
use Rattle.transcript.specs.Answers.{Answer, shown_text}

pub data Reply : Type 0 where
  -- nothing is written
  Silent : Reply
  Bad : Fault → Reply
  -- a request that is not answered yet
  Later : Reply
  -- id, n
  Attached : ℕ → ℕ → Reply
  -- the number of simplices that the facets of a line added, n
  Faceted : ℕ → ℕ → Reply
  -- version, n
  WasCut : ℕ → ℕ → Reply
  -- version, n
  WentBack : ℕ → ℕ → Reply
  -- version, n; after a look, and after one that saw as many entries as were wanted
  Seen : ℕ → ℕ → Reply
  SeenFrom : ℕ → ℕ → Reply
  -- n, of a look that saw fewer
  NotYet : ℕ → Reply
  -- name, version
  Holds : List ℕ → ℕ → Reply
  HasTaken : List ℕ → ℕ → Reply
  HasReleased : List ℕ → Reply
  -- the name is held, or no more names can be, or it is not held
  HoldsAlready : List ℕ → Reply
  HoldsFull : Reply
  NoName : List ℕ → Reply
  -- version, what the question asks, and its answer
  Computed : ℕ → Verb → Answer → Reply
  IsThere : ℕ → Reply
  LacksFace : List ℕ → Reply
  IsFull : ℕ → Reply
  NoVersion : ℕ → Reply
  HasQuit : Reply

abbrev pub is_quit : Reply → Bool
is_quit HasQuit = true
is_quit _ = false

-- an answer on a version
abbrev pub computed_text : ℕ → Verb → Answer → List ℕ
computed_text version verb (Ok shown) = codes "ok v" ++ decimal version ++ codes " " ++ verb_text verb ++ shown_text shown
computed_text version verb (Err why) = codes "no v" ++ decimal version ++ codes " " ++ why_text why

abbrev pub words : Reply → List ℕ
words Silent = []
words (Bad fault) = codes "bad " ++ decimal fault.column ++ codes " " ++ kind_text fault.kind
words Later = codes "no later"
words (Attached id n) = codes "ok attach " ++ decimal id ++ codes " " ++ decimal n
words (Faceted added n) = codes "ok facet " ++ decimal added ++ codes " " ++ decimal n
words (WasCut version n) = codes "ok cut " ++ decimal version ++ codes " " ++ decimal n
words (WentBack version n) = codes "ok back " ++ decimal version ++ codes " " ++ decimal n
words (Seen version n) = codes "ok see " ++ decimal version ++ codes " " ++ decimal n
words (SeenFrom version n) = codes "ok after " ++ decimal version ++ codes " " ++ decimal n
words (NotYet n) = codes "no notyet " ++ decimal n
words (Holds name version) = codes "ok hold " ++ name ++ codes " " ++ decimal version
words (HasTaken name version) = codes "ok use " ++ name ++ codes " " ++ decimal version
words (HasReleased name) = codes "ok drop " ++ name
words (HoldsAlready name) = codes "no held " ++ name
words HoldsFull = codes "no holdsfull " ++ decimal name_capacity
words (NoName name) = codes "no noname " ++ name
words (Computed version verb a) = computed_text version verb a
words (IsThere id) = codes "no there " ++ decimal id
words (LacksFace t) = codes "no face " ++ simplex_text t
words (IsFull n) = codes "no full " ++ decimal n
words (NoVersion n) = codes "no noversion " ++ decimal n
words HasQuit = codes "ok quit"

-- a line is ended by a line feed; no words are no line
abbrev pub line_of : List ℕ → List ℕ
line_of [] = []
line_of (c ∷ cs) = (c ∷ cs) ++ 10 ∷ []

unfoldable pub text : Reply → List ℕ
text r = line_of (words r)
