-- What the names of a session come to.
--     line_held names x     the line that a name stands for
--     holding x h, taking x h, releasing x h     a name for the line in use; its line into use; the name forgotten
--     NamesSo h r g said    a request r that keeps a version under a name, or takes one, takes its step from h to g, and is told so
use Rattle.std.specs.Prelude.{◌≡◌, ℕ, ◌++◌, cond, not, List, [], ◌∷◌, length, nat_lt, Option, Some, None}
use Rattle.std.specs.List.{filter}
use Rattle.homology.specs.Simplices.{same_list}
use Rattle.language.specs.Language.{Request}
use Rattle.lines.specs.Lines.{Line}
use Rattle.lines.specs.Callers.{after, name_capacity}
use Rattle.transcript.specs.Replies.{Reply}
use Rattle.transcript.specs.Steps.{reply}
use Rattle.session_core.specs.Holdings.{Holding, state_of}

abbrev pub line_held : List (List ℕ × Line) → List ℕ → Option Line
line_held [] x = None
line_held ((y, L) ∷ names) x = cond (same_list y x) (Some L) (line_held names x)

abbrev pub holding_so : List ℕ → Holding → Option Line → Holding
holding_so x h (Some L) = h
holding_so x h None = cond (nat_lt (length h.names) name_capacity) (record h { names = h.names ++ (x, h.in_use) ∷ [] }) h

abbrev pub holding : List ℕ → Holding → Holding
holding x h = holding_so x h (line_held h.names x)

abbrev pub taking_so : Holding → Option Line → Holding
taking_so h (Some L) = record h { in_use = L }
taking_so h None = h

abbrev pub taking : List ℕ → Holding → Holding
taking x h = taking_so h (line_held h.names x)

abbrev pub releasing : List ℕ → Holding → Holding
releasing x h = record h { names = filter (λ n. not (same_list n.0 x)) h.names }

-- none of these requests reads the line
pub record NamesSo (h : Holding) (r : Request) (g : Holding) (said : Reply) : Type 0 where
  pub state : (L : Line) → (c : ℕ) → state_of g ≡ after L c (state_of h) r
  pub says : (L : Line) → (c : ℕ) → said ≡ reply L c (state_of h) r
