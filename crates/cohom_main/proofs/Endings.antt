-- How a script ends, after the lines that were answered.
--     quit_whole        a line was `quit`: the transcript is written
--     fault_part        a reply was not written, or in part: what the end says, by the fault
--     ended-answers     no further line comes: what the end says
--     line-gave, line-going
--                       where a further line comes, it was given, and later calls go on
use Rattle.std.proofs.Common.{◌≡◌, ℕ, ◌+◌, ◌-◌, ◌<◌, ◌≤◌, List, [], ◌∷◌, ◌++◌, length, take, Option, Some, None, true, refl, sym, ap, subst, ◌∙◌, arith, append_assoc, append-nil, length-append, inl, inr}
use Rattle.std.specs.Io.KnownBytes.{Appends, Keeps, IsAtEnd, prepend_known}
use Rattle.std.proofs.KnownBytes.{Appends-trans}
use Rattle.std.proofs.Math.Seq.{take-append-add}
use Rattle.std.proofs.lemmas.List.{take-append-le}
use Rattle.language.specs.Streams as streams
use Rattle.language.specs.Streams.{Ending, stream, lines_limit, ended, onto_stream}
use Rattle.transcript.specs.Replies.{is_quit, text}
use Rattle.transcript.specs.Steps.{State}
use Rattle.transcript.specs.Transcripts as transcripts
use Rattle.transcript.specs.Transcripts.{Transcript, End, end_of, replies_to, replies, transcript, after_line, reply_to_line, looks_of_line}
use Rattle.language.proofs.StreamLaws.{stream-empty}
use Rattle.cohom_edge.specs.Readings.{Reading, unread, NoFeed, Unfinished, Gave, Ended, Broke, Halted, Wanting, Answered, stays}
use Rattle.cohom_edge.specs.declared.faults.SinkFault.{SinkFault}
use Rattle.cohom_edge.specs.declared.faults.SinkFault.TheVariants as fault
use Rattle.cohom_edge.specs.declared.lines.next.Next.{Next}
use Rattle.cohom_edge.specs.declared.lines.next.Next.TheVariants as next
use Rattle.cohom_main.proofs.ReadBytes.{Continues, part-ending}
use Rattle.cohom_main.specs.Ends.{Begins, Sent, Whole, Part, Torn, Broken, CountsFeeds, Says, reach, how_of, end_at}
use Rattle.cohom_main.specs.Ends as ends
use Rattle.session_core.specs.declared.ends.How.{How}
use Rattle.session_core.specs.declared.ends.How.TheVariants.{Input, ReadFault, LongLine, Spent, Memory}
use Rattle.cohom_main.proofs.Reach.{reach-back}
use Rattle.cohom_main.proofs.Midst.{InMidst, onto, answered-quit, answered-front, midst-transcript, midst-answered, line-transcript, line-answered, told_at, feeds-append, feeds-none}

pub quit_whole : (b : List ℕ) (old now sink : Option (List ℕ)) (st : State) (looked : List ℕ) (r new : Reading) → InMidst b old now st looked r → Gave r new
    → is_quit (reply_to_line st new.line) ≡ true → Appends now sink (text (reply_to_line st new.line)) → Whole b old sink transcripts.Quit (looked ++ looks_of_line st new.line) new.given
quit_whole b old now sink st looked r new m g is more =
    let said = reply_to_line st new.line in
    let t = line-transcript b old now st looked r new m g in
    let whole : transcript b ≡ onto m.sent looked r.given (record { bytes = text said; looks = looks_of_line st new.line; lines = 1; ending = transcripts.Quit }) =
    t.1 ∙ ap (onto m.sent looked r.given) (answered-quit said (looks_of_line st new.line) t.0 is) in
    let all = Appends-trans old now sink m.sent (text said) m.appended more in
    record {
      ending = ap (λ x. x.ending) whole;
      bytes = subst (Appends old sink) (sym (ap (λ x. x.bytes) whole)) all;
      looks_are = sym (ap (λ x. x.looks) whole);
      lines = g.given ∙ sym (ap (λ x. x.lines) whole);
    }

-- a beginning of the reply to the last line that was given is written
reply_part : (b : List ℕ) (old now sink : Option (List ℕ)) (st : State) (looked : List ℕ) (r new : Reading) → InMidst b old now st looked r → Gave r new
    → (begun : Begins now sink (text (reply_to_line st new.line)))
    → (p : Part b old sink new.given) × (begun.0 < length (text (reply_to_line st new.line)) → p.held < reach new.given b)
reply_part b old now sink st looked r new m g part =
    let said = text (reply_to_line st new.line) in
    let t = line-transcript b old now st looked r new m g in
    let front = answered-front (reply_to_line st new.line) (looks_of_line st new.line) t.0 in
    let bytes : (transcript b).bytes ≡ m.sent ++ (said ++ front.more) = ap (λ x. x.bytes) t.1 ∙ ap (λ x. m.sent ++ x) front.bytes in
    let cut : take (length m.sent + part.0) (transcript b).bytes ≡ m.sent ++ take part.0 said =
    ap (take (length m.sent + part.0)) bytes ∙ take-append-add m.sent (said ++ front.more) part.0 ∙ ap (λ x. m.sent ++ x) (take-append-le part.0 said front.more part.1) in
    let before = midst-answered b old now st looked r m in
    let after = line-answered b old now st looked r new m g in
    let last = answered-front (reply_to_line st new.line) (looks_of_line st new.line) (replies_to (after_line st new.line) [] streams.Input) in
    let sent : reach (new.given - 1) b ≡ length m.sent =
    ap (λ n. reach n b) (omega (arith, g.given)) ∙ ap (λ x. length x.bytes) before ∙ ap length (append-nil m.sent) in
    let reached : reach new.given b ≡ length (m.sent ++ (said ++ last.more)) =
    ap (λ n. reach n b) g.given ∙ ap (λ x. length x.bytes) after ∙ ap (λ x. length (m.sent ++ x)) last.bytes in
    let long : length m.sent + length said ≤ reach new.given b = omega (arith, reached, length-append m.sent (said ++ last.more), length-append said last.more) in (
      record {
        held = length m.sent + part.0;
        bytes = subst (Appends old sink) (sym cut) (Appends-trans old now sink m.sent (take part.0 said) m.appended part.2);
        all_but_last = omega (arith, sent);
        at_most = omega (arith, long, part.1);
        lines = omega (arith, g.given, front.some, ap (λ x. x.lines) t.1);
      },
      λ short. omega (arith, long, short),
    )

pub fault_part : (b : List ℕ) (old now sink : Option (List ℕ)) (st : State) (looked : List ℕ) (r new : Reading) (f : SinkFault) → InMidst b old now st looked r → Gave r new
    → Sent f now sink (text (reply_to_line st new.line)) → (left : Option (List ℕ)) (looks : List ℕ) → Says b left old sink (how_of f) looks new.given
fault_part b old now sink st looked r new fault.Failed m g part left looks =
    let written = reply_part b old now sink st looked r new m g (part.0, omega (arith, part.1), part.2) in record { part = written.0; lacking = written.1 part.1 }
fault_part b old now sink st looked r new fault.Memory m g part left looks = (reply_part b old now sink st looked r new m g part).0

-- the bytes end the lines
ended_whole : (b : List ℕ) (old now : Option (List ℕ)) (st : State) (looked : List ℕ) (r : Reading) (n : ℕ) (e : Ending) (m : InMidst b old now st looked r)
    → stream r.given m.rest ≡ ended e → n ≡ r.given → Whole b old now (end_of e) looked n
ended_whole b old now st looked r n e m none same =
    let whole = midst-transcript b old now st looked r m ∙ ap (λ s. onto m.sent looked r.given (replies st s)) none in
    record {
      ending = ap (λ x. x.ending) whole;
      bytes = subst (Appends old now) (sym (append-nil m.sent) ∙ sym (ap (λ x. x.bytes) whole)) m.appended;
      looks_are = sym (append-nil looked) ∙ sym (ap (λ x. x.looks) whole);
      lines = omega (arith, same, ap (λ x. x.lines) whole);
    }

-- bytes that are told, at the end
at_end : (o : Option (List ℕ)) (x : List ℕ) → o ≡ Some x → IsAtEnd o → x ≡ []
at_end None x e end = cc
at_end (Some y) x e end = let same : y ≡ x = (cc e) in sym same ∙ end

end_whole : (b : List ℕ) (old now : Option (List ℕ)) (st : State) (looked : List ℕ) (r new : Reading) → InMidst b old now st looked r → Ended r new
    → Whole b old now transcripts.Input looked new.given
end_whole b old now st looked r new m a =
    ended_whole b old now st looked r new.given streams.Input m (ap (stream r.given) (at_end (unread r) m.rest m.told a.bytes) ∙ stream-empty r.given) a.kept.given

halt_whole : (b : List ℕ) (old now : Option (List ℕ)) (st : State) (looked : List ℕ) (r new : Reading) (e : Ending) → InMidst b old now st looked r → Halted e r new
    → Whole b old now (end_of e) looked new.given
halt_whole b old now st looked r new e m a =
    let t = told_at (λ x _. stream r.given x ≡ ended e) (λ x _. stream r.given x ≡ ended e) (unread r) (unread new) m.rest m.told a.stream a.stream in
    ended_whole b old now st looked r new.given e m t.2 a.kept.given

-- no memory to read on: what was sent is a beginning
want_part : (b : List ℕ) (old now : Option (List ℕ)) (st : State) (looked : List ℕ) (r new : Reading) → InMidst b old now st looked r → Wanting r new → Part b old now new.given
want_part b old now st looked r new m a =
    let whole = midst-transcript b old now st looked r m in
    let more = (replies st (stream r.given m.rest)).bytes in
    let bytes : (transcript b).bytes ≡ m.sent ++ more = ap (λ x. x.bytes) whole in
    let cut : take (length m.sent + 0) (transcript b).bytes ≡ m.sent =
    ap (take (length m.sent + 0)) bytes ∙ take-append-add m.sent more 0 ∙ append-nil m.sent in
    let sent : reach new.given b ≡ length m.sent =
    ap (λ n. reach n b) a.kept.given ∙ ap (λ x. length x.bytes) (midst-answered b old now st looked r m) ∙ ap length (append-nil m.sent) in
    record {
      held = length m.sent + 0;
      bytes = subst (Appends old now) (sym cut) m.appended;
      all_but_last = omega (arith, sent, reach-back new.given b);
      at_most = omega (arith, sent);
      lines = omega (arith, a.kept.given, ap (λ x. x.lines) whole);
    }

-- told bytes that are kept are what was read and not given, and what is left
kept_told : (o left : Option (List ℕ)) (buffered x : List ℕ) → o ≡ Some x → Keeps o (prepend_known buffered left) → (y : List ℕ) × (left ≡ Some y) × (x ≡ buffered ++ y)
kept_told None left buffered x e k = absurd (cc e)
kept_told (Some z) None buffered x e k = absurd k
kept_told (Some z) (Some y) buffered x e k = let same : z ≡ x = (cc e) in (y, refl, sym same ∙ sym k)

-- bytes without a line feed were read on
read_part : (n : ℕ) (read rest part y : List ℕ) → CountsFeeds n read rest → rest ≡ part ++ y → NoFeed part → CountsFeeds n (read ++ part) y
read_part n read rest part y (inl count) whole free = inl (omega (arith, count, feeds-append read part, feeds-none part free))
read_part n read rest part y (inr over) whole free =
    let none : length part + length y ≡ 0 = sym (length-append part y) ∙ ap length (sym whole ∙ over.0) in
    inr (empty y (omega (arith, none)), omega (arith, over.1, feeds-append read part, feeds-none part free))
  where
    empty : (xs : List ℕ) → length xs ≡ 0 → xs ≡ []
    empty [] e = refl
    empty (x ∷ xs) e = absurd (omega (arith, e))

-- where two parts are nothing, the first is
first_nothing : (xs ys : List ℕ) → xs ++ ys ≡ [] → xs ≡ []
first_nothing [] ys e = refl
first_nothing (x ∷ xs) ys e = absurd (cc e)

-- the bytes that were read, and a part of a line, end by the end of the input
no_cause-part : (b : List ℕ) (old now : Option (List ℕ)) (st : State) (looked : List ℕ) (r : Reading) (m : InMidst b old now st looked r) (part y : List ℕ) → m.rest ≡ part ++ y → Unfinished r.given part
    → Continues m.read m.rest r.given → (stream 0 (m.read ++ part)).ending ≡ streams.Input
no_cause-part b old now st looked r m part y whole unfinished (inl goes) = goes part ∙ part-ending r.given part unfinished
no_cause-part b old now st looked r m part y whole unfinished (inr none) =
    ap (λ z. (stream 0 (m.read ++ z)).ending) (first_nothing part y (sym whole ∙ none) ∙ sym none)
    ∙ ap (λ z. (stream 0 z).ending) (sym m.whole)
    ∙ m.ending
    ∙ ap (λ z. (stream r.given z).ending) none
    ∙ ap (λ s. s.ending) (stream-empty r.given)

-- the source failed: the replies to the lines before stand written
broken : (b : List ℕ) (old now : Option (List ℕ)) (st : State) (looked : List ℕ) (r new : Reading) → InMidst b old now st looked r → Broke r new → Broken b new.left old now new.given
broken b old now st looked r new m a =
    let t = kept_told (unread r) new.left new.buffered m.rest m.told a.kept.bytes in
    let said : ends.answered new.given b ≡ onto m.sent looked r.given (record { bytes = []; looks = []; lines = 0; ending = transcripts.Input }) =
    ap (λ n. ends.answered n b) a.kept.given ∙ midst-answered b old now st looked r m in
    record {
      read = m.read ++ new.buffered;
      rest = t.0;
      told = t.1;
      whole = m.whole ∙ ap (λ x. m.read ++ x) t.2 ∙ sym (append_assoc m.read new.buffered t.0);
      no_cause = no_cause-part b old now st looked r m new.buffered t.0 t.2 (subst (λ n. Unfinished n new.buffered) a.kept.given a.unfinished) m.continues;
      lines = subst (λ n. CountsFeeds n (m.read ++ new.buffered) t.0) (sym a.kept.given) (read_part r.given m.read m.rest new.buffered t.0 m.feeds_read t.2 a.unfinished.no_feed);
      within = omega (arith, a.kept.given, m.counted, ap length m.lines, length-append m.done (stream r.given m.rest).lines);
      replies = subst (Appends old now) (sym (append-nil m.sent) ∙ sym (ap (λ x. x.bytes) said)) m.appended;
      going = ap (λ x. x.ending) said;
    }

pub ended-answers : (x : Next) (how : How) (b : List ℕ) (old now : Option (List ℕ)) (st : State) (looked : List ℕ) (r new : Reading) → end_at x ≡ Some how → Answered x r new
    → InMidst b old now st looked r → Says b new.left old now how looked new.given
ended-answers next.Line how b old now st looked r new e a m = absurd (cc e)
ended-answers next.End how b old now st looked r new e a m =
    let same : Input ≡ how = (cc e) in subst (λ h. Says b new.left old now h looked new.given) same (end_whole b old now st looked r new m a)
ended-answers next.ReadFault how b old now st looked r new e a m =
    let same : ReadFault ≡ how = (cc e) in subst (λ h. Says b new.left old now h looked new.given) same (broken b old now st looked r new m a)
ended-answers next.LongLine how b old now st looked r new e a m =
    let same : LongLine ≡ how = (cc e) in subst (λ h. Says b new.left old now h looked new.given) same (halt_whole b old now st looked r new streams.LongLine m a)
ended-answers next.Spent how b old now st looked r new e a m =
    let same : Spent ≡ how = (cc e) in subst (λ h. Says b new.left old now h looked new.given) same (halt_whole b old now st looked r new streams.Spent m a)
ended-answers next.Memory how b old now st looked r new e a m =
    let same : Memory ≡ how = (cc e) in subst (λ h. Says b new.left old now h looked new.given) same (want_part b old now st looked r new m a)

pub line-gave : (x : Next) (r new : Reading) → end_at x ≡ None → Answered x r new → Gave r new
line-gave next.Line r new e a = a
line-gave next.End r new e a = absurd (cc e)
line-gave next.ReadFault r new e a = absurd (cc e)
line-gave next.LongLine r new e a = absurd (cc e)
line-gave next.Spent r new e a = absurd (cc e)
line-gave next.Memory r new e a = absurd (cc e)

-- a line is no answer that stays
pub line-going : (x : Next) → end_at x ≡ None → stays x ≡ None
line-going next.Line e = refl
line-going next.End e = absurd (cc e)
line-going next.ReadFault e = absurd (cc e)
line-going next.LongLine e = absurd (cc e)
line-going next.Spent e = absurd (cc e)
line-going next.Memory e = absurd (cc e)
