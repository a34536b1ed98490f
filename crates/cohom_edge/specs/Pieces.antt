-- Bytes that were read, and the line that was taken of them last.
--     Waiting         the line, the bytes that wait to be taken, and how many more can be kept without memory
--     EndsAt xs p     the first line feed of xs stands at p
--     Overlong n b    after n lines there is a line's place, and more bytes than a line has stand there without a line feed
--     Exhausted n b   after n lines there is no line's place, and a byte stands there
--     Found x n b     what is found at the next line's place, after n lines, where the bytes b wait
--     Placed xs ..    where the line and the bytes that wait stand in the bytes xs that are kept
--     Flow            the bytes that wait, and what the source has left
--     Gained g old new  what one read did to them
--     Beside old new  what a read does not change
--     Finished x old new  what is given of the bytes that wait where the source has no more
--     Cause x n b     why the answer x stays after n lines, where the bytes b wait
--     Sound ..        what holds of each reading
use Rattle.std.specs.Prelude.{◌≡◌, ℕ, ◌+◌, ◌<◌, ◌≤◌, List, [], length, take, slice_index, Option, None, ⊤, MatchOption, slice_range}
use Rattle.std.specs.Io.KnownBytes.{Keeps, IsAtEnd, prepend_known}
use Rattle.language.specs.Lines.{line_feed}
use Rattle.language.specs.Streams.{line_limit, lines_limit}
use Rattle.cohom_edge.specs.Faults.{Rose}
use Rattle.cohom_edge.specs.Readings.{Reading, Held, NoFeed, Unfinished}
use Rattle.cohom_edge.specs.declared.lines.next.Next.{Next}
use Rattle.cohom_edge.specs.declared.lines.next.Next.TheVariants as next
use Rattle.cohom_edge.specs.declared.lines.next.Ahead.{Ahead}
use Rattle.cohom_edge.specs.declared.lines.next.Ahead.TheVariants.{Line, LongLine, Spent, Part}
use Rattle.cohom_edge.specs.declared.lines.next.Gain.{Gain}
use Rattle.cohom_edge.specs.declared.lines.next.Gain.TheVariants.{Bytes, Nothing, Fault, Memory}

pub record Waiting : Type 0 where
  pub line : List ℕ
  pub bytes : List ℕ
  pub room : ℕ

pub record EndsAt (xs : List ℕ) (p : ℕ) : Type 0 where
  pub bound : p < length xs
  pub before : NoFeed (take p xs)
  pub feed : slice_index xs p ≡ line_feed

pub record Overlong (n : ℕ) (b : List ℕ) : Type 0 where
  pub place : n < lines_limit
  pub long : line_limit < length b
  pub no_feed : NoFeed (take (line_limit + 1) b)

pub record Exhausted (n : ℕ) (b : List ℕ) : Type 0 where
  pub no_place : lines_limit ≤ n
  pub some : 0 < length b

-- a line's place, and a line feed at p within the limit
pub record LineAt (n : ℕ) (b : List ℕ) (p : ℕ) : Type 0 where
  pub place : n < lines_limit
  pub ends : EndsAt b p
  pub short : p ≤ line_limit

abbrev pub Found : Ahead → ℕ → List ℕ → Type 0
Found (Line p) n b = LineAt n b p
Found LongLine n b = Overlong n b
Found Spent n b = Exhausted n b
Found Part n b = Unfinished n b

-- where the line, the waiting bytes and those without a line feed stand in xs
pub record Placed (xs : List ℕ) (line line_end start scanned : ℕ) : Type 0 where
  pub line_ends : line ≤ line_end
  pub line_in : line_end ≤ length xs
  pub starts : start ≤ scanned
  pub scanned_in : scanned ≤ length xs
  pub no_feed : NoFeed (slice_range xs start scanned)

-- bytes on their way: what the source has left, its faults, and the bytes that wait
pub record Flow : Type 0 where
  pub left : Option (List ℕ)
  pub faults : ℕ
  pub buffered : List ℕ

-- all the bytes on their way, where the source tells
abbrev pub coming : Flow → Option (List ℕ)
coming f = prepend_known f.buffered f.left

pub record Added (old new : Flow) : Type 0 where
  pub bytes : Keeps (coming old) (coming new)
  pub more : length old.buffered < length new.buffered
  pub calm : new.faults ≡ old.faults

pub record Drained (old new : Flow) : Type 0 where
  pub bytes : Keeps (coming old) (coming new)
  pub same : new.buffered ≡ old.buffered
  pub ended : IsAtEnd new.left
  pub calm : new.faults ≡ old.faults

pub record Faulted (old new : Flow) : Type 0 where
  pub bytes : Keeps (coming old) (coming new)
  pub same : new.buffered ≡ old.buffered
  pub cause : Rose old.faults new.faults

pub record Unasked (old new : Flow) : Type 0 where
  pub bytes : Keeps (coming old) (coming new)
  pub same : new.buffered ≡ old.buffered
  pub calm : new.faults ≡ old.faults

abbrev pub Gained : Gain → Flow → Flow → Type 0
Gained Bytes old new = Added old new
Gained Nothing old new = Drained old new
Gained Fault old new = Faulted old new
Gained Memory old new = Unasked old new

abbrev pub flow : Reading → Flow
flow r = record { left = r.left; faults = r.faults; buffered = r.buffered }

-- what stands beside the bytes while a line is read
pub record Beside (old new : Reading) : Type 0 where
  pub given : new.given ≡ old.given
  pub line : new.line ≡ []
  pub stopped : new.stopped ≡ None

-- the bytes that waited were given as the last line
pub record GaveRest (old new : Held) : Type 0 where
  pub some : 0 < length old.buffered
  pub whole : new ≡ record old { line = old.buffered; buffered = []; given = old.given + 1 }

-- no bytes waited
pub record GaveNone (old new : Held) : Type 0 where
  pub none : old.buffered ≡ []
  pub same : new ≡ old

abbrev pub Finished : Next → Held → Held → Type 0
Finished next.Line old new = GaveRest old new
Finished next.End old new = GaveNone old new
Finished next.ReadFault old new = ⊥
Finished next.LongLine old new = ⊥
Finished next.Spent old new = ⊥
Finished next.Memory old new = ⊥

-- why the answer x stays after n lines, where the bytes b were read and not yet given
abbrev pub Cause : Next → ℕ → List ℕ → Type 0
Cause next.Line n b = ⊥
Cause next.End n b = ⊥
Cause next.ReadFault n b = Unfinished n b
Cause next.LongLine n b = Overlong n b
Cause next.Spent n b = Exhausted n b
Cause next.Memory n b = ⊥

-- an answer that stays has its cause, and gives no line
abbrev pub Stands : Option Next → ℕ → List ℕ → List ℕ → Type 0
Stands stopped n b line = MatchOption stopped ⊤ (λ x. Cause x n b × (line ≡ []))

-- what holds of a reading: the bytes of a read, and the lines given within their limit
pub record Sound (room given : ℕ) (stopped : Option Next) (buffered line : List ℕ) : Type 0 where
  pub some : 0 < room
  pub counted : given ≤ lines_limit
  pub stands : Stands stopped given buffered line
