-- A step of a session over a board.
--     Took a h r b g said     the request r, by the caller whose turn it is, took its step: from what the board a had shown and
--                             what the session h held to b and g, and was told so. The line that it looked at has what the board
--                             had shown as a beginning; without a look it is that, and where the board tells its whole line, each
--                             look is that
--     Keeps a b               all is as before, or it was a look
--     spares r                the request r takes no memory
--     Tells why said          a refusal is told so; want of memory is no reply
use Rattle.std.specs.Prelude.{◌≡◌, ◌⊎◌, Bool, true, false, ◌++◌, Option, Some, None, IfSome, Result, MatchResult}
use mathlib.Core.List.{IsPrefix}
use Rattle.language.specs.Language.{Request, Blank, Hold, Take, Release, Round, Quit}
use Rattle.lines.specs.Lines.{Line}
use Rattle.lines.specs.Changes.{Refusal}
use Rattle.lines.specs.Callers.{looks, line_after, after}
use Rattle.transcript.specs.Replies.{Reply}
use Rattle.transcript.specs.Steps.{refused, reply}
use Rattle.version_roots.specs.Boards.{Sight, Looks, Stays, given_by, with_given, told_anew}
use Rattle.reply_text.specs.Replies.{reply_of}
use Rattle.reply_text.specs.declared.reply.Reply as code
use Rattle.session_core.specs.Holdings.{Holding, state_of}

pub record Took (a : Sight) (h : Holding) (r : Request) (b : Sight) (g : Holding) (said : Reply) : Type 0 where
  -- the line looked at, and what was added to it
  pub on : Line
  pub added : Line
  pub front : IsPrefix a.line on
  pub told : looks r ≡ true → IfSome a.whole (λ W. on ≡ W)
  pub rests : looks r ≡ false → b ≡ a
  pub grows : line_after on a.caller r ≡ on ++ added
  pub line : b.line ≡ on ++ added
  pub state : state_of g ≡ after on a.caller (state_of h) r
  pub says : said ≡ reply on a.caller (state_of h) r
  pub stays : Stays a b
  pub given : b.given ≡ with_given a.given (given_by added)
  pub whole : looks r ≡ true → b.whole ≡ told_anew a.whole b.line

-- after a request that was not answered
abbrev pub Keeps : Sight → Sight → Type 0
Keeps a b = (b ≡ a) ⊎ Looks a b

abbrev pub spares : Request → Bool
spares (Hold x) = true
spares (Take x) = true
spares (Release x) = true
spares (Round n) = true
spares Quit = true
spares Blank = true
spares _ = false

abbrev pub IsRefused : Option Refusal → Reply → Type 0
IsRefused (Some why) said = said ≡ refused why
IsRefused None said = ⊥

abbrev pub Tells : {E : Type 0} → Option Refusal → Result code.Reply E → Type 0
Tells {E} why said = MatchResult said (λ r. IsRefused why (reply_of r)) (λ _. why ≡ None)
