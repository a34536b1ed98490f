-- Laws of a text read line by line within limits, where n lines were given before.
--     stream-empty      no bytes: the input ends
--     stream-first      a part without a line feed and within the limit, and a line feed: a line, and then the others
--     stream-last       bytes without a line feed and within the limit: one line, and then the input ends
--     stream-long       more bytes than a line has without a line feed: a line is too long
--     stream-spent      no further line's place, and a byte follows: the lines are spent
use Rattle.std.proofs.Common.{◌≡◌, ℕ, ◌+◌, ◌<◌, ◌≤◌, ◌⊎◌, Bool, true, false, cond, List, [], ◌∷◌, ◌++◌, length, refl, ap, ◌∙◌, arith, eqb, length-append, inl, inr}
use Rattle.std.specs.List.{All, slice_split, onto_first}
use Rattle.std.specs.Str.Lines.{strip_carriage_return}
use Rattle.std.proofs.lemmas.Bool.{lt-leb, le-leb}
use Rattle.std.proofs.lemmas.List.Elements.{All-head, All-tail}
use Rattle.std.proofs.lemmas.List.Splits.{slice_split_none, slice_split_at, slice_split-cons_yes, slice_split-cons_no, length-slice_split}
use Rattle.std.proofs.Math.Dec.{eqb-suc-zero}
use Rattle.language.specs.Streams.{Stream, Input, LongLine, Spent, line_limit, lines_limit, ended, onto_stream, with_line, stream_between, stream}

-- a line's place, and a part within the limit
with_line-fits : (n : ℕ) (part line : List ℕ) (others : Stream) → n < lines_limit → length part ≤ line_limit → with_line n part line others ≡ onto_stream line others
with_line-fits n part line others room short = rw (lt-leb lines_limit n room, lt-leb (line_limit + 1) (length part) (omega arith)) refl

-- a line's place, and a part past the limit
with_line-long : (n : ℕ) (part line : List ℕ) (others : Stream) → n < lines_limit → line_limit < length part → with_line n part line others ≡ ended LongLine
with_line-long n part line others room long = rw (lt-leb lines_limit n room, le-leb (line_limit + 1) (length part) (omega arith)) refl

-- no line's place
with_line-spent : (n : ℕ) (part line : List ℕ) (others : Stream) → lines_limit ≤ n → with_line n part line others ≡ ended Spent
with_line-spent n part line others full = rw (le-leb lines_limit n full) refl

-- bytes without a line feed begin the first of the parts
split_front : (l rest : List ℕ) → All (λ x. eqb x 10 ≡ false) l → (first : List ℕ) × (others : List (List ℕ)) × (slice_split (λ x. eqb x 10) (l ++ rest) ≡ (l ++ first) ∷ others)
split_front [] rest none = by (slice_split (λ x. eqb x 10) rest) refl (omega (arith, length-slice_split (λ x. eqb x 10) rest))
  where
    by : (parts : List (List ℕ)) → slice_split (λ x. eqb x 10) rest ≡ parts → 0 < length parts → (first : List ℕ) × (others : List (List ℕ)) × (slice_split (λ x. eqb x 10) rest ≡ first ∷ others)
    by [] is some = absurd (omega arith)
    by (part ∷ parts) is some = (part, parts, is)
split_front (x ∷ l) rest none =
    let all : ℕ → Type 0 = λ y. eqb y 10 ≡ false in
    let more = split_front l rest (All-tail all x l none) in
    (more.0, more.1, slice_split-cons_no (λ y. eqb y 10) x (l ++ rest) (All-head all x l none) ∙ ap (onto_first x) more.2)

-- the first part is too long
stream_between-long : (n : ℕ) (part : List ℕ) (parts : List (List ℕ)) → n < lines_limit → line_limit < length part → stream_between n (part ∷ parts) ≡ ended LongLine
stream_between-long n [] parts room long = absurd (omega arith)
stream_between-long n (x ∷ part) [] room long = ap (λ t. cond t (ended Input) (with_line n (x ∷ part) (x ∷ part) (ended Input))) (eqb-suc-zero (length part)) ∙ with_line-long n (x ∷ part) (x ∷ part) (ended Input) room long
stream_between-long n (x ∷ part) (next ∷ parts) room long = with_line-long n (x ∷ part) (strip_carriage_return (x ∷ part)) (stream_between (n + 1) (next ∷ parts)) room long

-- there is no place for a first part that is more than an empty end
stream_between-spent : (n : ℕ) (part : List ℕ) (parts : List (List ℕ)) → lines_limit ≤ n → (0 < length part) ⊎ (0 < length parts) → stream_between n (part ∷ parts) ≡ ended Spent
stream_between-spent n part (next ∷ parts) full some = with_line-spent n part (strip_carriage_return part) (stream_between (n + 1) (next ∷ parts)) full
stream_between-spent n (x ∷ part) [] full some = ap (λ t. cond t (ended Input) (with_line n (x ∷ part) (x ∷ part) (ended Input))) (eqb-suc-zero (length part)) ∙ with_line-spent n (x ∷ part) (x ∷ part) (ended Input) full
stream_between-spent n [] [] full (inl some) = absurd (omega arith)
stream_between-spent n [] [] full (inr some) = absurd (omega arith)

pub stream-empty : (n : ℕ) → stream n [] ≡ ended Input
unfolding stream
stream-empty n = refl

pub stream-first : (n : ℕ) (l rest : List ℕ) → n < lines_limit → All (λ x. eqb x 10 ≡ false) l → length l ≤ line_limit → stream n (l ++ 10 ∷ rest) ≡ onto_stream (strip_carriage_return l) (stream (n + 1) rest)
unfolding stream
stream-first n l rest room none short = ap (stream_between n) (slice_split_at (λ x. eqb x 10) l 10 rest none refl) ∙ by (slice_split (λ x. eqb x 10) rest) (omega (arith, length-slice_split (λ x. eqb x 10) rest))
  where
    by : (parts : List (List ℕ)) → 0 < length parts → stream_between n (l ∷ parts) ≡ onto_stream (strip_carriage_return l) (stream_between (n + 1) parts)
    by [] some = absurd (omega arith)
    by (part ∷ parts) some = with_line-fits n l (strip_carriage_return l) (stream_between (n + 1) (part ∷ parts)) room short

pub stream-last : (n : ℕ) (b : List ℕ) → n < lines_limit → 0 < length b → All (λ x. eqb x 10 ≡ false) b → length b ≤ line_limit → stream n b ≡ onto_stream b (ended Input)
unfolding stream
stream-last n [] room some none short = absurd (omega arith)
stream-last n (x ∷ b) room some none short =
    ap (stream_between n) (slice_split_none (λ y. eqb y 10) (x ∷ b) none)
    ∙ ap (λ t. cond t (ended Input) (with_line n (x ∷ b) (x ∷ b) (ended Input))) (eqb-suc-zero (length b))
    ∙ with_line-fits n (x ∷ b) (x ∷ b) (ended Input) room short

pub stream-long : (n : ℕ) (l rest : List ℕ) → n < lines_limit → All (λ x. eqb x 10 ≡ false) l → line_limit < length l → stream n (l ++ rest) ≡ ended LongLine
unfolding stream
stream-long n l rest room none long =
    let front = split_front l rest none in
    ap (stream_between n) front.2 ∙ stream_between-long n (l ++ front.0) front.1 room (omega (arith, length-append l front.0))

pub stream-spent : (n : ℕ) (b : List ℕ) → lines_limit ≤ n → 0 < length b → stream n b ≡ ended Spent
unfolding stream
stream-spent n [] full some = absurd (omega arith)
stream-spent n (x ∷ b) full some = by (eqb x 10) refl
  where
    parts : List (List ℕ)
    parts = slice_split (λ y. eqb y 10) b

    onto : (qs : List (List ℕ)) → stream_between n (onto_first x qs) ≡ ended Spent
    onto [] = stream_between-spent n (x ∷ []) [] full (inl (omega arith))
    onto (q ∷ qs) = stream_between-spent n (x ∷ q) qs full (inl (omega arith))

    by : (t : Bool) → eqb x 10 ≡ t → stream_between n (slice_split (λ y. eqb y 10) (x ∷ b)) ≡ ended Spent
    by true is = ap (stream_between n) (slice_split-cons_yes (λ y. eqb y 10) x b is) ∙ stream_between-spent n [] parts full (inr (omega (arith, length-slice_split (λ y. eqb y 10) b)))
    by false is = ap (stream_between n) (slice_split-cons_no (λ y. eqb y 10) x b is) ∙ onto parts
