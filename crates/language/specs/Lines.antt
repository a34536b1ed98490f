-- The lines of a text.
--     lines b       the lines of the bytes b: the parts before each line feed, without one carriage return right before
--                   it, and then the last part as it stands, where it has at least one byte
use Rattle.std.specs.Prelude.{ℕ, List}
use Rattle.std.specs.Str.Lines as std_lines

abbrev pub line_feed : ℕ
line_feed = 10

abbrev pub carriage_return : ℕ
carriage_return = 13

unfoldable pub lines : List ℕ → List (List ℕ)
lines b = std_lines.lines b
