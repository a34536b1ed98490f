-- Lemmas on readings: what the bytes that were read, and those that follow, say of the next answer.
use Rattle.std.proofs.Common.{◌≡◌, ℕ, ◌+◌, ◌-◌, ◌<◌, ◌≤◌, ◌⊎◌, Bool, true, false, cond, List, [], ◌∷◌, ◌++◌, length, take, drop, Option, Some, None, slice_index, eqb, ◌==◌, refl, sym, ap, ◌∙◌, subst, arith, append_assoc, length-append, length-take-le, take-append-drop, inl, inr}
use Rattle.std.specs.Io.KnownBytes.{Keeps, IsAtEnd, prepend_known}
use Rattle.std.specs.Str.Lines.{strip_carriage_return}
use Rattle.std.proofs.KnownBytes.{Keeps-refl, Keeps-trans}
use Rattle.std.proofs.lemmas.List.{append-nil, drop_more, length-take, take-take}
use Rattle.std.proofs.lemmas.List.Elements.{All-same, All-take}
use Rattle.language.specs.Streams as streams
use Rattle.language.specs.Streams.{line_limit, lines_limit, Ending, ended, onto_stream, stream}
use Rattle.language.proofs.StreamLaws.{stream-empty, stream-first, stream-last, stream-long, stream-spent}
use Rattle.cohom_edge.specs.Faults.{Rose}
use Rattle.cohom_edge.specs.Readings.{Reading, Held, reading_of, unread, NoFeed, Unfinished, FirstLine, LastLine, WhereTold, Gave, Kept, Ended, Broke, Halted, Wanting, Answered, stays}
use Rattle.cohom_edge.specs.Pieces.{EndsAt, Overlong, Exhausted, LineAt, Added, Drained, Faulted, Unasked, Beside, Finished, Cause, flow}
use Rattle.cohom_edge.specs.declared.lines.next.Next.{Next}
use Rattle.cohom_edge.specs.declared.lines.next.Next.TheVariants.{Line, End, ReadFault, LongLine, Spent, Memory}

-- the bytes read on since a line was asked for: none is lost, and nothing else changed
pub record Reads (start now : Reading) : Type 0 where
  pub bytes : Keeps (unread start) (unread now)
  pub given : now.given ≡ start.given
  pub line : now.line ≡ []
  pub calm : now.faults ≡ start.faults
  pub stopped : now.stopped ≡ None

-- of kept bytes the same holds
pub told-kept : (R : List ℕ → List ℕ → Type 0) (a b c : Option (List ℕ)) → Keeps a b → WhereTold R b c → WhereTold R a c
told-kept R None b c p q = tt
told-kept R (Some x) None c p q = absurd p
told-kept R (Some x) (Some y) None p q = absurd q
told-kept R (Some x) (Some y) (Some z) p q = subst (λ t. R t z) p q

-- what holds whatever follows
pub told-any : (R : List ℕ → List ℕ → Type 0) (b c : List ℕ) (left : Option (List ℕ)) → ((rest : List ℕ) → R (b ++ rest) (c ++ rest)) → WhereTold R (prepend_known b left) (prepend_known c left)
told-any R b c None all = tt
told-any R b c (Some rest) all = all rest

-- what holds where nothing follows
pub told-end : (R : List ℕ → List ℕ → Type 0) (b c : List ℕ) (left : Option (List ℕ)) → IsAtEnd left → R b c → WhereTold R (prepend_known b left) (prepend_known c left)
told-end R b c None end one = tt
told-end R b c (Some rest) end one = rw (end, append-nil b, append-nil c) one

-- a line without its carriage return is not longer
strip-short : (l : List ℕ) → length (strip_carriage_return l) ≤ length l
strip-short l = by (slice_index l (length l - 1) == 13)
  where
    by : (t : Bool) → length (cond t (take (length l - 1) l) l) ≤ length l
    by true = omega (arith, length-take (length l - 1) l)
    by false = omega arith

-- a line feed within the limit ends the first line, whatever follows
first_line : (n : ℕ) (b : List ℕ) (p : ℕ) → LineAt n b p → (rest : List ℕ) → FirstLine (b ++ rest) (strip_carriage_return (take p b)) (drop (p + 1) b ++ rest)
first_line n b p found rest = record {
  part = take p b;
  whole =
      ap (λ t. t ++ rest) (sym (take-append-drop p b) ∙ ap (λ t. take p b ++ t) (drop_more b p 0 found.ends.bound ∙ ap (λ x. x ∷ drop (p + 1) b) found.ends.feed))
      ∙ append_assoc (take p b) (10 ∷ drop (p + 1) b) rest;
  no_feed = found.ends.before;
  short = omega (arith, length-take p b, found.short);
  line = refl;
}

-- the first line, and then the others
first-stream : (n : ℕ) (b l r : List ℕ) → n < lines_limit → FirstLine b l r → stream n b ≡ onto_stream l (stream (n + 1) r)
first-stream n b l r place first = rw (first.whole, first.line) (stream-first n first.part r place first.no_feed first.short)

-- the last line, and then nothing
last-stream : (n : ℕ) (b l r : List ℕ) → n < lines_limit → LastLine b l r → stream n b ≡ onto_stream l (stream (n + 1) r)
last-stream n b l r place last = rw (last.whole, last.nothing, stream-empty (n + 1)) (stream-last n b place last.some last.no_feed last.short)

-- too many bytes without a line feed, whatever follows
overlong-stream : (n most : ℕ) (b rest : List ℕ) → n < lines_limit → line_limit < most → most ≤ length b → NoFeed (take most b) → stream n (b ++ rest) ≡ ended streams.LongLine
overlong-stream n most b rest place over long none =
    ap (stream n) (ap (λ t. t ++ rest) (sym (take-append-drop most b)) ∙ append_assoc (take most b) (drop most b) rest)
    ∙ stream-long n (take most b) (drop most b ++ rest) place none (omega (arith, over, long, length-take-le most b long))

-- a byte where there is no line's place, whatever follows
exhausted-stream : (n : ℕ) (b rest : List ℕ) → Exhausted n b → stream n (b ++ rest) ≡ ended streams.Spent
exhausted-stream n b rest why = stream-spent n (b ++ rest) why.no_place (omega (arith, why.some, length-append b rest))

-- a line is given up to a line feed
pub gave_first : (start now : Reading) (p : ℕ) → Reads start now → LineAt now.given now.buffered p → Gave start (record now { line = strip_carriage_return (take p now.buffered); buffered = drop (p + 1) now.buffered; given = now.given + 1 })
gave_first start now p reads found =
    let b = now.buffered in
    let l = strip_carriage_return (take p b) in
    let first = first_line now.given b p found in
    let place : start.given < lines_limit = subst (λ n. n < lines_limit) reads.given found.place in
    record {
      stream =
          subst (λ n. WhereTold (λ x r. stream n x ≡ onto_stream l (stream (now.given + 1) r)) (unread start) (prepend_known (drop (p + 1) b) now.left)) reads.given
          (told-kept (λ x r. stream now.given x ≡ onto_stream l (stream (now.given + 1) r)) (unread start) (unread now) (prepend_known (drop (p + 1) b) now.left) reads.bytes
          (told-any (λ x r. stream now.given x ≡ onto_stream l (stream (now.given + 1) r)) b (drop (p + 1) b) now.left (λ rest. first-stream now.given (b ++ rest) l (drop (p + 1) b ++ rest) found.place (first rest))));
      bytes =
          told-kept (λ x r. FirstLine x l r ⊎ LastLine x l r) (unread start) (unread now) (prepend_known (drop (p + 1) b) now.left) reads.bytes
          (told-any (λ x r. FirstLine x l r ⊎ LastLine x l r) b (drop (p + 1) b) now.left (λ rest. inl (first rest)));
      given = ap (λ n. n + 1) reads.given;
      place = place;
      short = omega (arith, strip-short (take p b), length-take p b, found.short);
      calm = reads.calm;
    }

-- what waits is given, where the source has no more
pub gave_rest : (start now : Reading) → Reads start now → IsAtEnd now.left → Unfinished now.given now.buffered → 0 < length now.buffered → Gave start (record now { line = now.buffered; buffered = []; given = now.given + 1 })
gave_rest start now reads end part some =
    let b = now.buffered in
    let place : now.given < lines_limit = by part.place in
    let last : LastLine b b [] = record { whole = refl; nothing = refl; some = some; no_feed = part.no_feed; short = part.short } in
    record {
      stream =
          subst (λ n. WhereTold (λ x r. stream n x ≡ onto_stream b (stream (now.given + 1) r)) (unread start) (prepend_known [] now.left)) reads.given
          (told-kept (λ x r. stream now.given x ≡ onto_stream b (stream (now.given + 1) r)) (unread start) (unread now) (prepend_known [] now.left) reads.bytes
          (told-end (λ x r. stream now.given x ≡ onto_stream b (stream (now.given + 1) r)) b [] now.left end (last-stream now.given b b [] place last)));
      bytes =
          told-kept (λ x r. FirstLine x b r ⊎ LastLine x b r) (unread start) (unread now) (prepend_known [] now.left) reads.bytes
          (told-end (λ x r. FirstLine x b r ⊎ LastLine x b r) b [] now.left end (inr last));
      given = ap (λ n. n + 1) reads.given;
      place = subst (λ n. n < lines_limit) reads.given place;
      short = part.short;
      calm = reads.calm;
    }
  where
    by : (now.given < lines_limit) ⊎ (now.buffered ≡ []) → now.given < lines_limit
    by (inl less) = less
    by (inr none) = absurd (omega (arith, some, ap length none))

-- what was read on is kept, with an answer that stays or none
pub kept : (start now : Reading) (x : Option Next) → Reads start now → Kept start (record now { stopped = x })
kept start now x reads = record { bytes = reads.bytes; given = reads.given; line = reads.line }

-- the end: nothing waits, and the source has no more
pub ended_here : (start now : Reading) → Reads start now → IsAtEnd now.left → now.buffered ≡ [] → Ended start now
ended_here start now reads end none = record {
  kept = kept start now now.stopped reads;
  bytes = by (unread start) (prepend_known now.buffered now.left) reads.bytes (at_end now.left end);
  buffered = none;
  calm = reads.calm;
}
  where
    at_end : (left : Option (List ℕ)) → IsAtEnd left → IsAtEnd (prepend_known now.buffered left)
    at_end None end = tt
    at_end (Some xs) end = rw (none, end) refl

    by : (a b : Option (List ℕ)) → Keeps a b → IsAtEnd b → IsAtEnd a
    by None b p q = tt
    by (Some x) None p q = absurd p
    by (Some x) (Some y) p q = sym p ∙ q

-- the bytes end the lines, whatever follows
halted : (ending : Ending) (start now : Reading) (x : Option Next) → Reads start now → ((rest : List ℕ) → stream now.given (now.buffered ++ rest) ≡ ended ending) → Halted ending start (record now { stopped = x })
halted ending start now x reads all = record {
  kept = kept start now x reads;
  stream =
      subst (λ n. WhereTold (λ b _. stream n b ≡ ended ending) (unread start) (unread now)) reads.given
      (told-kept (λ b _. stream now.given b ≡ ended ending) (unread start) (unread now) (unread now) reads.bytes
      (told-any (λ b _. stream now.given b ≡ ended ending) now.buffered now.buffered now.left all));
  calm = reads.calm;
}

pub halted_long : (start now : Reading) (x : Option Next) → Reads start now → Overlong now.given now.buffered → Halted streams.LongLine start (record now { stopped = x })
halted_long start now x reads why = halted streams.LongLine start now x reads (λ rest. overlong-stream now.given (line_limit + 1) now.buffered rest why.place (omega arith) (omega (arith, why.long)) why.no_feed)

pub halted_spent : (start now : Reading) (x : Option Next) → Reads start now → Exhausted now.given now.buffered → Halted streams.Spent start (record now { stopped = x })
halted_spent start now x reads why = halted streams.Spent start now x reads (λ rest. exhausted-stream now.given now.buffered rest why)

-- a read that gave bytes
pub reads_more : (start mid new : Reading) → Reads start mid → Added (flow mid) (flow new) → Beside mid new → Reads start new
reads_more start mid new reads more beside = record {
  bytes = Keeps-trans (unread start) (unread mid) (unread new) reads.bytes more.bytes;
  given = beside.given ∙ reads.given;
  line = beside.line;
  calm = more.calm ∙ reads.calm;
  stopped = beside.stopped;
}

-- a read that gave nothing, at the end
pub reads_none : (start mid new : Reading) → Reads start mid → Drained (flow mid) (flow new) → Beside mid new → Reads start new
reads_none start mid new reads none beside = record {
  bytes = Keeps-trans (unread start) (unread mid) (unread new) reads.bytes none.bytes;
  given = beside.given ∙ reads.given;
  line = beside.line;
  calm = none.calm ∙ reads.calm;
  stopped = beside.stopped;
}

-- what was unfinished is so, where neither the bytes nor the number of lines changed
pub unfinished_still : (mid new : Reading) → Unfinished mid.given mid.buffered → new.buffered ≡ mid.buffered → Beside mid new → Unfinished new.given new.buffered
unfinished_still mid new part same beside = rw (beside.given, same) part

-- a read that failed
pub broke : (start mid new : Reading) (x : Option Next) → Reads start mid → Unfinished mid.given mid.buffered → Faulted (flow mid) (flow new) → Beside mid new → Broke start (record new { stopped = x })
broke start mid new x reads part fault beside = record {
  kept = record {
    bytes = Keeps-trans (unread start) (unread mid) (unread new) reads.bytes fault.bytes;
    given = beside.given ∙ reads.given;
    line = beside.line;
  };
  unfinished = unfinished_still mid new part fault.same beside;
  cause = inl (subst (λ n. Rose n new.faults) reads.calm fault.cause);
}

-- a read for which there was no memory
pub wanting : (start mid new : Reading) → Reads start mid → Unasked (flow mid) (flow new) → Beside mid new → Wanting start new
wanting start mid new reads none beside = record {
  kept = record {
    bytes = Keeps-trans (unread start) (unread mid) (unread new) reads.bytes none.bytes;
    given = beside.given ∙ reads.given;
    line = beside.line;
  };
  calm = none.calm ∙ reads.calm;
}

-- nothing read on
pub reads_here : (r : Reading) → r.stopped ≡ None → Reads r (record r { line = [] })
reads_here r going = record { bytes = Keeps-refl (unread r); given = refl; line = refl; calm = refl; stopped = going }

-- an answer that stays is given again
pub again : (r : Reading) (x : Next) → r.stopped ≡ Some x → Cause x r.given r.buffered → r.line ≡ [] → Answered x r r
again r Line is why line = absurd why
again r End is why line = absurd why
again r ReadFault is why line = record {
  kept = record { bytes = Keeps-refl (unread r); given = refl; line = line };
  unfinished = why;
  cause = inr (is, refl);
}
again r LongLine is why line = record {
  kept = record { bytes = Keeps-refl (unread r); given = refl; line = line };
  stream = told-any (λ b _. stream r.given b ≡ ended streams.LongLine) r.buffered r.buffered r.left (λ rest. overlong-stream r.given (line_limit + 1) r.buffered rest why.place (omega arith) (omega (arith, why.long)) why.no_feed);
  calm = refl;
}
again r Spent is why line = record {
  kept = record { bytes = Keeps-refl (unread r); given = refl; line = line };
  stream = told-any (λ b _. stream r.given b ≡ ended streams.Spent) r.buffered r.buffered r.left (λ rest. exhausted-stream r.given r.buffered rest why);
  calm = refl;
}
again r Memory is why line = absurd why

-- an answer that stays is its own
pub stays-again : (x : Next) (n : ℕ) (b : List ℕ) → Cause x n b → Some x ≡ stays x
stays-again Line n b why = absurd why
stays-again End n b why = absurd why
stays-again ReadFault n b why = refl
stays-again LongLine n b why = refl
stays-again Spent n b why = refl
stays-again Memory n b why = absurd why

-- no answer lowers the count of faults
pub faults_rise : (x : Next) (old new : Reading) → Answered x old new → old.faults ≤ new.faults
faults_rise Line old new is = omega (arith, is.calm)
faults_rise End old new is = omega (arith, is.calm)
faults_rise ReadFault old new is = by is.cause
  where
    by : Rose old.faults new.faults ⊎ ((old.stopped ≡ Some ReadFault) × (new.faults ≡ old.faults)) → old.faults ≤ new.faults
    by (inl (inl more)) = omega arith
    by (inl (inr most)) = omega (arith, most.0, most.1)
    by (inr before) = omega (arith, before.1)
faults_rise LongLine old new is = omega (arith, is.calm)
faults_rise Spent old new is = omega (arith, is.calm)
faults_rise Memory old new is = omega (arith, is.calm)

-- a front of a front
front_free : (b : List ℕ) (m p : ℕ) → m ≤ p → NoFeed (take p b) → NoFeed (take m b)
front_free b m p le free = All-same (λ x. eqb x 10 ≡ false) (take m b) (take m (take p b)) (sym (take-take m p b le)) (All-take (λ x. eqb x 10 ≡ false) m (take p b) free)

-- a line feed past the limit
pub found_past : (n most : ℕ) (b : List ℕ) (p : ℕ) → most ≡ line_limit + 1 → n < lines_limit → EndsAt b p → most ≤ p → Overlong n b
found_past n most b p is place ends past = record {
  place = place;
  long = omega (arith, is, ends.bound, past);
  no_feed = subst (λ m. NoFeed (take m b)) is (front_free b most p past ends.before);
}

-- no line feed, and more bytes than a line has
pub found_none : (n most : ℕ) (b : List ℕ) → most ≡ line_limit + 1 → n < lines_limit → NoFeed b → line_limit < length b → Overlong n b
found_none n most b is place free long = record {
  place = place;
  long = long;
  no_feed = subst (λ m. NoFeed (take m b)) is (All-take (λ x. eqb x 10 ≡ false) most b free);
}

-- what is given where the source has no more
pub finished : (x : Next) (start : Reading) (left : Option (List ℕ)) (faults : ℕ) (now new : Held) → Reads start (reading_of left faults now) → IsAtEnd left → Unfinished now.given now.buffered → Finished x now new → Answered x start (reading_of left faults new)
finished Line start left faults now new reads end part gave = subst (λ h. Gave start (reading_of left faults h)) (sym gave.whole) (gave_rest start (reading_of left faults now) reads end part gave.some)
finished End start left faults now new reads end part none = subst (λ h. Ended start (reading_of left faults h)) (sym none.same) (ended_here start (reading_of left faults now) reads end none.none)
finished ReadFault start left faults now new reads end part never = absurd never
finished LongLine start left faults now new reads end part never = absurd never
finished Spent start left faults now new reads end part never = absurd never
finished Memory start left faults now new reads end part never = absurd never
