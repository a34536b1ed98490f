-- A text read line by line within limits: its lines, and how they end.
--     line_limit, lines_limit      the most bytes of a line before its line feed; the most lines
--     Ending                       the input ends, a line is too long, or there are too many lines
--     Stream                       lines, and how they end
--     stream n b                   those of the bytes b, where n lines were given before: line by line as in `lines`, until
--                                  there is no byte left, or n is the limit and a byte follows, or more bytes than the limit
--                                  of a line stand at a line's place without a line feed
use Rattle.std.specs.Prelude.{ℕ, ◌+◌, cond, List, [], ◌∷◌, length, nat_lt, nat_le, ◌==◌}
use Rattle.std.specs.List.{slice_split}
use Rattle.std.specs.Str.Lines.{strip_carriage_return}
use Rattle.language.specs.Lines.{line_feed}

abbrev pub line_limit : ℕ
line_limit = 1048575

abbrev pub lines_limit : ℕ
lines_limit = 1000000

pub data Ending : Type 0 where
  Input : Ending
  LongLine : Ending
  Spent : Ending

pub record Stream : Type 0 where
  pub lines : List (List ℕ)
  pub ending : Ending

abbrev pub ended : Ending → Stream
ended e = record { lines = []; ending = e }

-- a line before the others
abbrev pub onto_stream : List ℕ → Stream → Stream
onto_stream l s = record { lines = l ∷ s.lines; ending = s.ending }

-- one line, where n were given before: too many, too long, or itself and the others
abbrev pub with_line : ℕ → List ℕ → List ℕ → Stream → Stream
with_line n part line others =
    cond (nat_le lines_limit n) (ended Spent) (cond (nat_lt line_limit (length part)) (ended LongLine) (onto_stream line others))

-- the parts between the line feeds, where n lines were given before them
abbrev pub stream_between : ℕ → List (List ℕ) → Stream
stream_between n [] = ended Input
stream_between n (last ∷ []) = cond (length last == 0) (ended Input) (with_line n last last (ended Input))
stream_between n (part ∷ next ∷ parts) =
    with_line n part (strip_carriage_return part) (stream_between (n + 1) (next ∷ parts))

unfoldable pub stream : ℕ → List ℕ → Stream
stream n b = stream_between n (slice_split (λ x. x == line_feed) b)
