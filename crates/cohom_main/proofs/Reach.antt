-- The replies to more lines have no fewer bytes.
--     replies-longer    those to the first k lines, and those to the first m, where k is at most m
--     reach-back        the replies to all lines but the last, and those to all
use Rattle.std.proofs.Common.{ℕ, Bool, true, false, cond, zero, suc, ◌+◌, ◌-◌, ◌≤◌, List, [], ◌∷◌, ◌++◌, length, take, arith, length-append}
use Rattle.language.specs.Streams as streams
use Rattle.language.specs.Streams.{stream}
use Rattle.transcript.specs.Replies.{Reply, is_quit, text}
use Rattle.transcript.specs.Steps.{State, start}
use Rattle.transcript.specs.Transcripts.{Transcript, Quit, answered, replies_to, after_line, reply_to_line, looks_of_line}
use Rattle.cohom_main.specs.Ends.{reach}

-- behind the same bytes, the longer is the longer
longer : (xs ys zs : List ℕ) → length ys ≤ length zs → length (xs ++ ys) ≤ length (xs ++ zs)
longer xs ys zs le = omega (arith, le, length-append xs ys, length-append xs zs)

answered-longer : (r : Reply) (looks : List ℕ) (t u : Transcript) → length t.bytes ≤ length u.bytes → length (answered r looks t).bytes ≤ length (answered r looks u).bytes
answered-longer r looks t u le = by (is_quit r)
  where
    ends : Transcript
    ends = record { bytes = text r; looks = looks; lines = 1; ending = Quit }

    on : Transcript → Transcript
    on v = record { bytes = text r ++ v.bytes; looks = looks ++ v.looks; lines = v.lines + 1; ending = v.ending }

    by : (q : Bool) → length (cond q ends (on t)).bytes ≤ length (cond q ends (on u)).bytes
    by true = omega arith
    by false = longer (text r) t.bytes u.bytes le

pub replies-longer : (ls : List (List ℕ)) (st : State) (k m : ℕ) → k ≤ m
    → length (replies_to st (take k ls) streams.Input).bytes ≤ length (replies_to st (take m ls) streams.Input).bytes
replies-longer ls st zero m le = omega arith
replies-longer ls st (suc k) zero le = absurd (omega (arith, le))
replies-longer [] st (suc k) (suc m) le = omega arith
replies-longer (l ∷ ls) st (suc k) (suc m) le =
    answered-longer (reply_to_line st l) (looks_of_line st l) (replies_to (after_line st l) (take k ls) streams.Input) (replies_to (after_line st l) (take m ls) streams.Input)
    (replies-longer ls (after_line st l) k m (omega (arith, le)))

pub reach-back : (n : ℕ) (b : List ℕ) → reach (n - 1) b ≤ reach n b
reach-back n b = replies-longer (stream 0 b).lines start (n - 1) n (omega arith)
