-- Lines read one by one from a source: what contracts see of `Lines`, and what its answers mean.
--     Reading              what the source has left and how many faults it has had, the bytes that were read and not yet
--                          given, the line of the last answer, the number of lines given, and the answer that stays
--     Held, reading_of     the part of it beside the source, and the reading of both
--     unread r             the bytes that no line has yet, those that were read first, where the source tells what it has left
--     NoFeed xs            no byte of xs is a line feed
--     Unfinished n b       after n lines, b holds no line feed, nor more bytes than a line has, nor any past the last line
--     FirstLine b l r      b is a part without a line feed, a line feed and r; l is the part less one carriage return at its end
--     LastLine b l r       b is the line l alone: some bytes without a line feed; r is empty
--     WhereTold R old new  where the bytes are told they are told still, and R holds of them
--     Answered x old new   what the answer x of `next_line` means for the reading before and after the call
--     stays x              the answer of later calls, where the answer x stays
use Rattle.std.specs.Prelude.{◌≡◌, ℕ, ◌+◌, ◌<◌, ◌≤◌, ◌⊎◌, false, ◌==◌, List, [], ◌∷◌, ◌++◌, length, Option, Some, None, ⊤}
use Rattle.std.specs.List.{All}
use Rattle.std.specs.Io.KnownBytes.{Keeps, IsAtEnd, prepend_known}
use Rattle.std.specs.Str.Lines.{strip_carriage_return}
use Rattle.language.specs.Lines.{line_feed}
use Rattle.language.specs.Streams as streams
use Rattle.language.specs.Streams.{line_limit, lines_limit, Ending, ended, onto_stream, stream}
use Rattle.cohom_edge.specs.Faults.{Rose}
use Rattle.cohom_edge.specs.declared.lines.next.Next.{Next}
use Rattle.cohom_edge.specs.declared.lines.next.Next.TheVariants.{Line, End, ReadFault, LongLine, Spent, Memory}

pub record Reading : Type 0 where
  pub left : Option (List ℕ)
  pub faults : ℕ
  pub buffered : List ℕ
  pub line : List ℕ
  pub given : ℕ
  pub stopped : Option Next

pub record Held : Type 0 where
  pub buffered : List ℕ
  pub line : List ℕ
  pub given : ℕ
  pub stopped : Option Next

-- what is held of a source that has `left` left and has had so many faults
abbrev pub reading_of : Option (List ℕ) → ℕ → Held → Reading
reading_of left faults h =
    record { left = left; faults = faults; buffered = h.buffered; line = h.line; given = h.given; stopped = h.stopped }

abbrev pub unread : Reading → Option (List ℕ)
unread r = prepend_known r.buffered r.left

abbrev pub NoFeed : List ℕ → Type 0
NoFeed xs = All (λ x. (x == line_feed) ≡ false) xs

pub record Unfinished (n : ℕ) (b : List ℕ) : Type 0 where
  pub no_feed : NoFeed b
  pub short : length b ≤ line_limit
  pub place : (n < lines_limit) ⊎ (b ≡ [])

pub record FirstLine (b l r : List ℕ) : Type 0 where
  pub part : List ℕ
  pub whole : b ≡ part ++ line_feed ∷ r
  pub no_feed : NoFeed part
  pub short : length part ≤ line_limit
  pub line : l ≡ strip_carriage_return part

pub record LastLine (b l r : List ℕ) : Type 0 where
  pub whole : l ≡ b
  pub nothing : r ≡ []
  pub some : 0 < length b
  pub no_feed : NoFeed b
  pub short : length b ≤ line_limit

abbrev pub WhereTold : (List ℕ → List ℕ → Type 0) → Option (List ℕ) → Option (List ℕ) → Type 0
WhereTold R None new = ⊤
WhereTold R (Some xs) None = ⊥
WhereTold R (Some xs) (Some ys) = R xs ys

-- a line was given: the next one of the bytes
pub record Gave (old new : Reading) : Type 0 where
  pub stream : WhereTold (λ b r. stream old.given b ≡ onto_stream new.line (stream new.given r)) (unread old) (unread new)
  pub bytes : WhereTold (λ b r. FirstLine b new.line r ⊎ LastLine b new.line r) (unread old) (unread new)
  pub given : new.given ≡ old.given + 1
  pub place : old.given < lines_limit
  pub short : length new.line ≤ line_limit
  pub calm : new.faults ≡ old.faults

-- no line was given, and no byte is lost
pub record Kept (old new : Reading) : Type 0 where
  pub bytes : Keeps (unread old) (unread new)
  pub given : new.given ≡ old.given
  pub line : new.line ≡ []

-- the source had no byte left, and none was kept
pub record Ended (old new : Reading) : Type 0 where
  pub kept : Kept old new
  pub bytes : IsAtEnd (unread old)
  pub buffered : new.buffered ≡ []
  pub calm : new.faults ≡ old.faults

-- the source failed in this call, or before, and what was read of it holds no line
pub record Broke (old new : Reading) : Type 0 where
  pub kept : Kept old new
  pub unfinished : Unfinished new.given new.buffered
  pub cause : Rose old.faults new.faults ⊎ ((old.stopped ≡ Some ReadFault) × (new.faults ≡ old.faults))

-- the bytes end the lines
pub record Halted (ending : Ending) (old new : Reading) : Type 0 where
  pub kept : Kept old new
  pub stream : WhereTold (λ b _. stream old.given b ≡ ended ending) (unread old) (unread new)
  pub calm : new.faults ≡ old.faults

pub record Wanting (old new : Reading) : Type 0 where
  pub kept : Kept old new
  pub calm : new.faults ≡ old.faults

abbrev pub Answered : Next → Reading → Reading → Type 0
Answered Line old new = Gave old new
Answered End old new = Ended old new
Answered ReadFault old new = Broke old new
Answered LongLine old new = Halted streams.LongLine old new
Answered Spent old new = Halted streams.Spent old new
Answered Memory old new = Wanting old new

-- the answer that stays after an answer
abbrev pub stays : Next → Option Next
stays Line = None
stays End = None
stays ReadFault = Some ReadFault
stays LongLine = Some LongLine
stays Spent = Some Spent
stays Memory = None
