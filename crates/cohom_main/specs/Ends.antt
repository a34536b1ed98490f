-- What the end of a script says.
--     Begins old new bytes              the sink holds what it held and a beginning of the bytes
--     Sent fault old new bytes          the same after a fault: where the sink failed, the beginning is not all of them
--     answered n b                      the replies to the first n lines of b
--     reach n b                         the number of bytes of these
--     Whole b old new e looks n         the transcript of the bytes b ends so after n lines with these looks, and the sink holds it
--     Part b old new n                  n lines of b were given, and the sink holds a beginning of the transcript: the replies to
--                                       all of these lines, or to all but the last and a beginning of the last reply
--     Torn b old new n                  the same, and of the last reply bytes are lacking
--     feeds r                           the number of line feeds in r
--     CountsFeeds n read rest           n is that of the bytes that were read, or the last line, without one, counts too
--     Broken b left old new n           the source failed: n lines were read of b, which are the whole lines that were read,
--                                       none of them was `quit`, and the sink holds the replies to them
--     Says b left old new how looks n   what an end after n lines says of the bytes b that the source had left, of what it
--                                       has left, and of what the sink held before and holds now
--     Answers b left old new end        the same of an end
--     how_of fault, end_at next         how a script ends where a reply was not written, and where no further line came
use Rattle.std.specs.Prelude.{◌≡◌, ℕ, ◌+◌, ◌-◌, ◌<◌, ◌≤◌, ◌⊎◌, ◌==◌, List, [], ◌++◌, length, take, Option, Some, None}
use Rattle.std.specs.List.{count_by}
use Rattle.std.specs.Io.KnownBytes.{Appends}
use Rattle.cohom_edge.specs.Contents.{AppendsPart}
use Rattle.cohom_edge.specs.declared.faults.SinkFault.{SinkFault}
use Rattle.cohom_edge.specs.declared.faults.SinkFault.TheVariants as fault
use Rattle.cohom_edge.specs.declared.lines.next.Next.{Next}
use Rattle.cohom_edge.specs.declared.lines.next.Next.TheVariants as next
use Rattle.language.specs.Lines.{line_feed}
use Rattle.language.specs.Streams as streams
use Rattle.language.specs.Streams.{stream}
use Rattle.transcript.specs.Steps.{start}
use Rattle.transcript.specs.Transcripts as transcripts
use Rattle.transcript.specs.Transcripts.{Transcript, End, replies_to, transcript}
use Rattle.session_core.specs.declared.ends.SessionEnd.{SessionEnd}
use Rattle.session_core.specs.declared.ends.How.{How}
use Rattle.session_core.specs.declared.ends.How.TheVariants.{Input, Quit, ReadFault, WriteFault, LongLine, Spent, Memory}

abbrev pub Begins : Option (List ℕ) → Option (List ℕ) → List ℕ → Type 0
Begins old new bytes = (n : ℕ) × (n ≤ length bytes) × Appends old new (take n bytes)

abbrev pub Sent : SinkFault → Option (List ℕ) → Option (List ℕ) → List ℕ → Type 0
Sent fault.Failed old new bytes = AppendsPart old new bytes
Sent fault.Memory old new bytes = Begins old new bytes

abbrev pub answered : ℕ → List ℕ → Transcript
answered n b = replies_to start (take n (stream 0 b).lines) streams.Input

abbrev pub reach : ℕ → List ℕ → ℕ
reach n b = length (answered n b).bytes

pub record Whole (b : List ℕ) (old new : Option (List ℕ)) (e : End) (looks : List ℕ) (n : ℕ) : Type 0 where
  pub ending : (transcript b).ending ≡ e
  pub bytes : Appends old new (transcript b).bytes
  pub looks_are : looks ≡ (transcript b).looks
  pub lines : n ≡ (transcript b).lines

pub record Part (b : List ℕ) (old new : Option (List ℕ)) (n : ℕ) : Type 0 where
  pub held : ℕ
  pub bytes : Appends old new (take held (transcript b).bytes)
  pub all_but_last : reach (n - 1) b ≤ held
  pub at_most : held ≤ reach n b
  pub lines : n ≤ (transcript b).lines

pub record Torn (b : List ℕ) (old new : Option (List ℕ)) (n : ℕ) : Type 0 where
  pub part : Part b old new n
  pub lacking : part.held < reach n b

abbrev pub feeds : List ℕ → ℕ
feeds r = count_by (λ x. x == line_feed) r

-- a source may fail where it was asked for what follows its last line, which needs no line feed
abbrev pub CountsFeeds : ℕ → List ℕ → List ℕ → Type 0
CountsFeeds n read rest = (n ≡ feeds read) ⊎ ((rest ≡ []) × (n ≡ feeds read + 1))

pub record Broken (b : List ℕ) (left old new : Option (List ℕ)) (n : ℕ) : Type 0 where
  pub read : List ℕ
  pub rest : List ℕ
  pub told : left ≡ Some rest
  pub whole : b ≡ read ++ rest
  pub lines : CountsFeeds n read rest
  -- no line of the bytes that were read is too long, and none is one too many
  pub no_cause : (stream 0 read).ending ≡ streams.Input
  pub within : n ≤ length (stream 0 b).lines
  pub replies : Appends old new (answered n b).bytes
  pub going : (answered n b).ending ≡ transcripts.Input

abbrev pub Says : List ℕ → Option (List ℕ) → Option (List ℕ) → Option (List ℕ) → How → List ℕ → ℕ → Type 0
Says b left old new Input looks n = Whole b old new transcripts.Input looks n
Says b left old new Quit looks n = Whole b old new transcripts.Quit looks n
Says b left old new LongLine looks n = Whole b old new transcripts.LongLine looks n
Says b left old new Spent looks n = Whole b old new transcripts.Spent looks n
Says b left old new ReadFault looks n = Broken b left old new n
Says b left old new WriteFault looks n = Torn b old new n
Says b left old new Memory looks n = Part b old new n

abbrev pub Answers : List ℕ → Option (List ℕ) → Option (List ℕ) → Option (List ℕ) → SessionEnd → Type 0
Answers b left old new end = Says b left old new end.how end.looks.lengths end.lines

abbrev pub how_of : SinkFault → How
how_of fault.Failed = WriteFault
how_of fault.Memory = Memory

abbrev pub end_at : Next → Option How
end_at next.Line = None
end_at next.End = Some Input
end_at next.ReadFault = Some ReadFault
end_at next.LongLine = Some LongLine
end_at next.Spent = Some Spent
end_at next.Memory = Some Memory
