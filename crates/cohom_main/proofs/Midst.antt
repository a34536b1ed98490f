-- A script whose lines so far are answered.
--     InMidst b old now st looked r
--                       of b the lines before the reading r are answered, the state is st, and these were the looks
--     InMidst-start     before the first line
--     InMidst-step      one more line, whose reply was written
--     looks-read, few_looks
--                       the looks of a line that asks for something; there is at most one
--     midst-answered    the replies so far are those that were sent
--     given_line, line-transcript, line-answered
--                       one more line was given: the bytes that are left, the transcript, and the replies with its own
--     on-told, still-told
--                       what holds where the source tells its bytes
use Rattle.std.proofs.Common.{◌≡◌, ℕ, ◌+◌, ◌<◌, ◌≤◌, ◌⊎◌, List, [], ◌∷◌, ◌++◌, length, take, Option, Some, None, Result, Ok, Err, cond, eqb, Bool, true, false, refl, sym, ap, subst, ◌∙◌, arith, zero-add, append_assoc, append-nil, length-append, inl, inr}
use Rattle.std.specs.Option.{IfSome}
use Rattle.std.specs.Io.KnownBytes.{Appends, prepend_known}
use Rattle.std.proofs.KnownBytes.{Appends-nil, Appends-trans}
use Rattle.std.proofs.Math.Seq.{take-append-add}
use Rattle.std.proofs.lemmas.List.Elements.{All-head, All-tail}
use Rattle.std.proofs.lemmas.List.Sums.{sum_by-append, sum_by-cons}
use Rattle.language.specs.Streams as streams
use Rattle.language.specs.Streams.{Ending, stream, lines_limit, ended, onto_stream}
use Rattle.language.specs.Language.{Asked}
use Rattle.language.specs.Grammar.{reading}
use Rattle.language.specs.declared.fault.Fault.{Fault}
use Rattle.lines.specs.Callers.{looks}
use Rattle.transcript.specs.Replies.{Reply, is_quit, text}
use Rattle.transcript.specs.Steps.{State, start}
use Rattle.transcript.specs.Transcripts as transcripts
use Rattle.transcript.specs.Transcripts.{Transcript, End, end_of, answered, replies_to, replies, transcript, after_line, reply_to_line, looks_of_line, looks_of_reading}
use Rattle.cohom_edge.specs.Readings.{Reading, reading_of, unread, NoFeed, FirstLine, LastLine, WhereTold, Gave}
use Rattle.cohom_main.proofs.ReadBytes.{Continues, Continues-first}
use Rattle.cohom_main.specs.Ends.{CountsFeeds, feeds}
use Rattle.cohom_main.specs.Ends as ends

-- a transcript behind the bytes that were sent for n lines, and behind their looks
abbrev pub onto : List ℕ → List ℕ → ℕ → Transcript → Transcript
onto sent looked n t = record { bytes = sent ++ t.bytes; looks = looked ++ t.looks; lines = n + t.lines; ending = t.ending }

pub record InMidst (b : List ℕ) (old now : Option (List ℕ)) (st : State) (looked : List ℕ) (r : Reading) : Type 0 where
  pub sent : List ℕ
  pub appended : Appends old now sent
  pub done : List (List ℕ)
  pub counted : length done ≡ r.given
  pub rest : List ℕ
  pub told : unread r ≡ Some rest
  pub lines : (stream 0 b).lines ≡ done ++ (stream r.given rest).lines
  pub ending : (stream 0 b).ending ≡ (stream r.given rest).ending
  pub replied : (ls : List (List ℕ)) (e : Ending) → replies_to start (done ++ ls) e ≡ onto sent looked r.given (replies_to st ls e)
  pub read : List ℕ
  pub whole : b ≡ read ++ rest
  pub feeds_read : CountsFeeds r.given read rest
  pub continues : Continues read rest r.given

-- known bytes, with none before them
told_all : (left : Option (List ℕ)) (b : List ℕ) → left ≡ Some b → prepend_known [] left ≡ Some b
told_all None b e = cc
told_all (Some xs) b e = e

pub InMidst-start : (b : List ℕ) (old left : Option (List ℕ)) (faults : ℕ) → left ≡ Some b
    → InMidst b old old start [] (reading_of left faults (record { buffered = []; line = []; given = 0; stopped = None }))
InMidst-start b old left faults e = record {
  sent = [];
  appended = Appends-nil old;
  done = [];
  counted = refl;
  rest = b;
  told = told_all left b e;
  lines = refl;
  ending = refl;
  replied = λ ls k. (λ i. record { bytes = (replies_to start ls k).bytes; looks = (replies_to start ls k).looks; lines = sym (zero-add (replies_to start ls k).lines) i; ending = (replies_to start ls k).ending });
  read = [];
  whole = refl;
  feeds_read = inl refl;
  continues = inl (λ x. refl);
}

-- what holds of told bytes
pub told_at : (R Q : List ℕ → List ℕ → Type 0) (o n : Option (List ℕ)) (x : List ℕ) → o ≡ Some x → WhereTold R o n → WhereTold Q o n
    → (y : List ℕ) × (n ≡ Some y) × R x y × Q x y
told_at R Q None n x e r q = absurd (cc e)
told_at R Q (Some z) None x e r q = absurd r
told_at R Q (Some z) (Some y) x e r q =
    let same : z ≡ x = (cc e) in
    (y, refl, subst (λ t. R t y) same r, subst (λ t. Q t y) same q)

-- the line feeds of two parts
pub feeds-append : (xs ys : List ℕ) → feeds (xs ++ ys) ≡ feeds xs + feeds ys
feeds-append xs ys = sum_by-append (λ x. cond (eqb x 10) 1 0) xs ys

-- none
pub feeds-none : (xs : List ℕ) → NoFeed xs → feeds xs ≡ 0
feeds-none [] none = refl
feeds-none (x ∷ xs) none =
    let free : ℕ → Type 0 = λ c. eqb c 10 ≡ false in
    let first : eqb x 10 ≡ false = All-head free x xs none in
    let more = feeds-none xs (All-tail free x xs none) in
    sum_by-cons (λ c. cond (eqb c 10) 1 0) x xs ∙ ap (λ t. cond t 1 0 + feeds xs) first ∙ omega (arith, more)

-- the bytes that were read with one more line
pub record ReadOn (b y : List ℕ) (n : ℕ) : Type 0 where
  pub read : List ℕ
  pub whole : b ≡ read ++ y
  pub feeds_read : CountsFeeds n read y
  pub continues : Continues read y n

read_first : (b read rest l y : List ℕ) (n : ℕ) → n < lines_limit → b ≡ read ++ rest → CountsFeeds n read rest → Continues read rest n → FirstLine rest l y → ReadOn b y (n + 1)
read_first b read rest l y n room whole (inl count) goes f =
    let all : rest ≡ (f.part ++ 10 ∷ []) ++ y = f.whole ∙ sym (append_assoc f.part (10 ∷ []) y) in
    record {
      read = read ++ (f.part ++ 10 ∷ []);
      whole = whole ∙ ap (λ t. read ++ t) all ∙ sym (append_assoc read (f.part ++ 10 ∷ []) y);
      feeds_read = inl (omega (arith, count, feeds-append read (f.part ++ 10 ∷ []), feeds-append f.part (10 ∷ []), feeds-none f.part f.no_feed));
      continues = Continues-first read rest l y n room goes f;
    }
read_first b read rest l y n room whole (inr over) goes f =
    absurd (omega (arith, ap length (sym over.0 ∙ f.whole), length-append f.part (10 ∷ y)))

read_last : (b read rest l y : List ℕ) (n : ℕ) → b ≡ read ++ rest → CountsFeeds n read rest → LastLine rest l y → ReadOn b y (n + 1)
read_last b read rest l y n whole (inl count) f = record {
  read = read ++ rest;
  whole = whole ∙ sym (append-nil (read ++ rest)) ∙ ap (λ t. (read ++ rest) ++ t) (sym f.nothing);
  feeds_read = inr (f.nothing, omega (arith, count, feeds-append read rest, feeds-none rest f.no_feed));
  continues = inr f.nothing;
}
read_last b read rest l y n whole (inr over) f = absurd (omega (arith, ap length over.0, f.some))

read_on : (b read rest l y : List ℕ) (n : ℕ) → n < lines_limit → b ≡ read ++ rest → CountsFeeds n read rest → Continues read rest n → FirstLine rest l y ⊎ LastLine rest l y → ReadOn b y (n + 1)
read_on b read rest l y n room whole count goes (inl f) = read_first b read rest l y n room whole count goes f
read_on b read rest l y n room whole count goes (inr f) = read_last b read rest l y n whole count f

-- what a reply, its looks and what comes after it make where it is that to `quit`, and where it is another
abbrev ends_so : Reply → List ℕ → Transcript
ends_so r looks = record { bytes = text r; looks = looks; lines = 1; ending = transcripts.Quit }

abbrev goes_on : Reply → List ℕ → Transcript → Transcript
goes_on r looks t = record { bytes = text r ++ t.bytes; looks = looks ++ t.looks; lines = t.lines + 1; ending = t.ending }

-- a reply other than that to `quit`, and what comes after it
answered-on : (r : Reply) (looks : List ℕ) (t : Transcript) → is_quit r ≡ false → answered r looks t ≡ goes_on r looks t
answered-on r looks t other = ap (λ q. cond q (ends_so r looks) (goes_on r looks t)) other

-- that to `quit`
pub answered-quit : (r : Reply) (looks : List ℕ) (t : Transcript) → is_quit r ≡ true → answered r looks t ≡ record { bytes = text r; looks = looks; lines = 1; ending = transcripts.Quit }
answered-quit r looks t quit = ap (λ q. cond q (ends_so r looks) (goes_on r looks t)) quit

-- its bytes come first, and it counts
pub record Fronted (r : Reply) (t : Transcript) : Type 0 where
  pub more : List ℕ
  pub bytes : t.bytes ≡ text r ++ more
  pub some : 1 ≤ t.lines

pub answered-front : (r : Reply) (looks : List ℕ) (t : Transcript) → Fronted r (answered r looks t)
answered-front r looks t = by (is_quit r)
  where
    by : (q : Bool) → Fronted r (cond q (ends_so r looks) (goes_on r looks t))
    by true = record { more = []; bytes = sym (append-nil (text r)); some = omega arith }
    by false = record { more = t.bytes; bytes = refl; some = omega arith }

-- one more text sent
onto-more : (sent looked bytes looks : List ℕ) (n m : ℕ) (t : Transcript) → m ≡ n + 1
    → onto sent looked n (record { bytes = bytes ++ t.bytes; looks = looks ++ t.looks; lines = t.lines + 1; ending = t.ending }) ≡ onto (sent ++ bytes) (looked ++ looks) m t
onto-more sent looked bytes looks n m t e =
    let count : n + (t.lines + 1) ≡ m + t.lines = omega (arith, e) in
    (λ i. record { bytes = sym (append_assoc sent bytes t.bytes) i; looks = sym (append_assoc looked looks t.looks) i; lines = count i; ending = t.ending })

-- the looks of a line that asks for something
pub looks-read : (st : State) (l : List ℕ) (a : Asked) (q : Bool) → reading l ≡ Ok a → q ≡ looks a.request → looks_of_line st l ≡ cond q (length st.line ∷ []) []
looks-read st l a q is so = ap (looks_of_reading st) is ∙ ap (λ b. cond b (length st.line ∷ []) []) (sym so)

pub few_looks : (st : State) (l : List ℕ) → length (looks_of_line st l) ≤ 1
few_looks st l = by (reading l)
  where
    at_most : (q : Bool) (n : ℕ) → length (cond q (n ∷ []) []) ≤ 1
    at_most true n = omega arith
    at_most false n = omega arith

    by : (a : Result Asked Fault) → length (looks_of_reading st a) ≤ 1
    by (Ok asked) = at_most (looks asked.request) (length st.line)
    by (Err fault) = omega arith

-- what a given line says of the bytes that are left
pub record Given (b : List ℕ) (rest : List ℕ) (r new : Reading) : Type 0 where
  pub others : List ℕ
  pub told : unread new ≡ Some others
  pub streamed : stream r.given rest ≡ onto_stream new.line (stream new.given others)
  pub read_on : ReadOn b others new.given

pub given_line : (b : List ℕ) (old now : Option (List ℕ)) (st : State) (looked : List ℕ) (r new : Reading) (m : InMidst b old now st looked r) → Gave r new → Given b m.rest r new
given_line b old now st looked r new m g =
    let t = told_at (λ x y. stream r.given x ≡ onto_stream new.line (stream new.given y)) (λ x y. FirstLine x new.line y ⊎ LastLine x new.line y) (unread r) (unread new) m.rest m.told g.stream g.bytes in
    record {
      others = t.0;
      told = t.1;
      streamed = t.2;
      read_on = subst (ReadOn b t.0) (sym g.given) (read_on b m.read m.rest new.line t.0 r.given g.place m.whole m.feeds_read m.continues t.3);
    }

pub InMidst-step : (b : List ℕ) (old now sink : Option (List ℕ)) (st : State) (looked : List ℕ) (r new : Reading) → InMidst b old now st looked r → Gave r new
    → is_quit (reply_to_line st new.line) ≡ false → Appends now sink (text (reply_to_line st new.line)) → InMidst b old sink (after_line st new.line) (looked ++ looks_of_line st new.line) new
InMidst-step b old now sink st looked r new m g other more =
    let next = given_line b old now st looked r new m g in
    let l = new.line in
    let said = text (reply_to_line st l) in
    record {
      sent = m.sent ++ said;
      appended = Appends-trans old now sink m.sent said m.appended more;
      done = m.done ++ l ∷ [];
      counted = omega (arith, length-append m.done (l ∷ []), m.counted, g.given);
      rest = next.others;
      told = next.told;
      lines = m.lines ∙ ap (λ s. m.done ++ s.lines) next.streamed ∙ sym (append_assoc m.done (l ∷ []) (stream new.given next.others).lines);
      ending = m.ending ∙ ap (λ s. s.ending) next.streamed;
      replied = λ ls e.
          ap (λ x. replies_to start x e) (append_assoc m.done (l ∷ []) ls)
          ∙ m.replied (l ∷ ls) e
          ∙ ap (onto m.sent looked r.given) (answered-on (reply_to_line st l) (looks_of_line st l) (replies_to (after_line st l) ls e) other)
          ∙ onto-more m.sent looked said (looks_of_line st l) r.given new.given (replies_to (after_line st l) ls e) g.given;
      read = next.read_on.read;
      whole = next.read_on.whole;
      feeds_read = next.read_on.feeds_read;
      continues = next.read_on.continues;
    }

-- the transcript, from here on
pub midst-transcript : (b : List ℕ) (old now : Option (List ℕ)) (st : State) (looked : List ℕ) (r : Reading) (m : InMidst b old now st looked r)
    → transcript b ≡ onto m.sent looked r.given (replies st (stream r.given m.rest))
unfolding transcript
midst-transcript b old now st looked r m =
    (λ i. replies_to start (m.lines i) (m.ending i))
    ∙ m.replied (stream r.given m.rest).lines (stream r.given m.rest).ending

-- the same, with a line that was given
pub line-transcript : (b : List ℕ) (old now : Option (List ℕ)) (st : State) (looked : List ℕ) (r new : Reading) (m : InMidst b old now st looked r) → Gave r new
    → (t : Transcript) × (transcript b ≡ onto m.sent looked r.given (answered (reply_to_line st new.line) (looks_of_line st new.line) t))
line-transcript b old now st looked r new m g =
    let next = given_line b old now st looked r new m g in (
      replies (after_line st new.line) (stream new.given next.others),
      midst-transcript b old now st looked r m ∙ ap (λ s. onto m.sent looked r.given (replies st s)) next.streamed,
    )

-- the replies so far are those that were sent
pub midst-answered : (b : List ℕ) (old now : Option (List ℕ)) (st : State) (looked : List ℕ) (r : Reading) (m : InMidst b old now st looked r)
    → ends.answered r.given b ≡ onto m.sent looked r.given (record { bytes = []; looks = []; lines = 0; ending = transcripts.Input })
midst-answered b old now st looked r m =
    let more = (stream r.given m.rest).lines in
    ap (λ ls. replies_to start ls streams.Input) (ap (take r.given) m.lines ∙ ap (λ n. take n (m.done ++ more)) (sym m.counted ∙ omega arith) ∙ take-append-add m.done more 0)
    ∙ m.replied [] streams.Input

-- and with a line that was given, its own reply comes after them
pub line-answered : (b : List ℕ) (old now : Option (List ℕ)) (st : State) (looked : List ℕ) (r new : Reading) (m : InMidst b old now st looked r) → Gave r new
    → ends.answered (r.given + 1) b ≡ onto m.sent looked r.given (answered (reply_to_line st new.line) (looks_of_line st new.line) (replies_to (after_line st new.line) [] streams.Input))
line-answered b old now st looked r new m g =
    let next = given_line b old now st looked r new m g in
    let more = (stream r.given m.rest).lines in
    ap (λ ls. replies_to start ls streams.Input)
    (ap (take (r.given + 1)) m.lines
    ∙ ap (λ n. take (n + 1) (m.done ++ more)) (sym m.counted)
    ∙ take-append-add m.done more 1
    ∙ ap (λ s. m.done ++ take 1 s.lines) next.streamed)
    ∙ m.replied (new.line ∷ []) streams.Input

-- what holds where the bytes are told
pub on-told : (o : Option (List ℕ)) (F : List ℕ → Type 0) → ((x : List ℕ) → o ≡ Some x → F x) → IfSome o F
on-told None F all = tt
on-told (Some x) F all = all x refl

pub still-told : (o : Option (List ℕ)) (F G : List ℕ → Type 0) → IfSome o F → ((x : List ℕ) → F x → G x) → IfSome o G
still-told None F G some all = tt
still-told (Some x) F G some all = all x some
