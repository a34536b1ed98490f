-- The transcript of a script: the replies to its lines, in order, and how it ends.
--     after_line, reply_to_line, looks_of_line
--                                   the step of a line; a line that is no request changes nothing and is told why
--     End                           the input ended, a line was `quit`, a line was too long, or there were too many lines
--     Transcript                    the bytes of the replies, the lengths of the line at the looks, the number of lines taken, and the end
--     replies st s                  those of the lines of the stream s, taken from the state st; no line after `quit`
--     transcript b                  those of the bytes b, from the start
use Rattle.std.specs.Prelude.{ℕ, ◌+◌, cond, List, [], ◌∷◌, ◌++◌, Result, Ok, Err}
use Rattle.language.specs.Streams.{Ending, Stream, stream}
use Rattle.language.specs.Streams as streams
use Rattle.language.specs.declared.fault.Fault.{Fault}
use Rattle.language.specs.Language.{Asked}
use Rattle.language.specs.Grammar.{reading}
use Rattle.transcript.specs.Replies.{Reply, Bad, is_quit, text}
use Rattle.transcript.specs.Steps.{State, start, after_asked, reply_asked, looks_asked}

abbrev pub after_reading : State → Result Asked Fault → State
after_reading st (Ok asked) = after_asked st asked
after_reading st (Err fault) = st

abbrev pub reply_to_reading : State → Result Asked Fault → Reply
reply_to_reading st (Ok asked) = reply_asked st asked
reply_to_reading st (Err fault) = Bad fault

abbrev pub looks_of_reading : State → Result Asked Fault → List ℕ
looks_of_reading st (Ok asked) = looks_asked st asked
looks_of_reading st (Err fault) = []

abbrev pub after_line : State → List ℕ → State
after_line st l = after_reading st (reading l)

abbrev pub reply_to_line : State → List ℕ → Reply
reply_to_line st l = reply_to_reading st (reading l)

abbrev pub looks_of_line : State → List ℕ → List ℕ
looks_of_line st l = looks_of_reading st (reading l)

pub data End : Type 0 where
  Input : End
  Quit : End
  LongLine : End
  Spent : End

pub record Transcript : Type 0 where
  pub bytes : List ℕ
  pub looks : List ℕ
  pub lines : ℕ
  pub ending : End

abbrev pub end_of : Ending → End
end_of streams.Input = Input
end_of streams.LongLine = LongLine
end_of streams.Spent = Spent

-- a reply, the looks before it, and what comes after it: nothing after that to `quit`
abbrev pub answered : Reply → List ℕ → Transcript → Transcript
answered r looks rest =
    cond (is_quit r)
    (record { bytes = text r; looks = looks; lines = 1; ending = Quit })
    (record { bytes = text r ++ rest.bytes; looks = looks ++ rest.looks; lines = rest.lines + 1; ending = rest.ending })

abbrev pub replies_to : State → List (List ℕ) → Ending → Transcript
replies_to st [] ending = record { bytes = []; looks = []; lines = 0; ending = end_of ending }
replies_to st (l ∷ ls) ending = answered (reply_to_line st l) (looks_of_line st l) (replies_to (after_line st l) ls ending)

abbrev pub replies : State → Stream → Transcript
replies st s = replies_to st s.lines s.ending

unfoldable pub transcript : List ℕ → Transcript
transcript b = replies start (stream 0 b)
