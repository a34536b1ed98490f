-- Lemmas on bytes that wait, and on the search for the first line feed in them.
use Rattle.std.proofs.Common.{◌≡◌, ℕ, ◌+◌, ◌-◌, ◌<◌, ◌≤◌, false, List, ◌++◌, length, take, drop, get_or, slice_range, eqb, sym, ap, ◌∙◌, arith, length-drop}
use Rattle.std.proofs.Math.Seq.{take-add}
use Rattle.std.proofs.lemmas.Bool.{false_from_ne_true, eqb-true}
use Rattle.std.proofs.lemmas.List.{drop-drop, get_or-take, get_or-drop, length-take, take_rest}
use Rattle.std.proofs.lemmas.List.Elements.{All-append, All-same, All-from_get_or}
use Rattle.memchr.specs.Find.{Nowhere, NoneBefore, Passes, is_byte}
use Rattle.cohom_edge.specs.Readings.{NoFeed}
use Rattle.cohom_edge.specs.Pieces.{EndsAt}

-- bytes of which the search passes none hold no line feed
pub front_free : (xs : List ℕ) (k : ℕ) → Nowhere (Passes (is_byte 10) xs) 0 k → NoFeed (take k xs)
front_free xs k none = All-from_get_or (λ x. eqb x 10 ≡ false) (take k xs) 0 (λ i below.
    let inside : i < k = omega (arith, below, length-take k xs) in
    rw (get_or-take k xs i 0 inside) (false_from_ne_true (eqb (get_or xs i 0) 10) (none i (omega arith) inside)))

-- a part, and the k bytes after it
slice_more : (xs : List ℕ) (s c k : ℕ) → s ≤ c → slice_range xs s (c + k) ≡ slice_range xs s c ++ take k (drop c xs)
slice_more xs s c k le =
    let d = c - s in
    let count : (c + k) - s ≡ d + k = omega arith in
    let place : s + d ≡ c = omega arith in
    ap (λ n. take n (drop s xs)) count ∙ take-add d k (drop s xs) ∙ ap (λ t. take d (drop s xs) ++ take k t) (drop-drop d s xs ∙ ap (λ n. drop n xs) place)

-- a part without a line feed, and the bytes after it of which the search passes none
pub more_scanned : (xs : List ℕ) (s c k : ℕ) → s ≤ c → NoFeed (slice_range xs s c) → Nowhere (Passes (is_byte 10) (drop c xs)) 0 k → NoFeed (slice_range xs s (c + k))
more_scanned xs s c k le known more =
    let free : ℕ → Type 0 = λ x. eqb x 10 ≡ false in
    All-same free (slice_range xs s (c + k)) (slice_range xs s c ++ take k (drop c xs)) (slice_more xs s c k le) (All-append free (slice_range xs s c) (take k (drop c xs)) known (front_free (drop c xs) k more))

-- the search from c on finds the first line feed from s on
pub ends_at : (xs : List ℕ) (s c k : ℕ) → s ≤ c → c ≤ length xs → NoFeed (slice_range xs s c) → NoneBefore (Passes (is_byte 10) (drop c xs)) 0 (length (drop c xs)) k → Passes (is_byte 10) (drop c xs) k → EndsAt (drop s xs) (c + k - s)
ends_at xs s c k le in' known first found =
    let place : s + (c + k - s) ≡ c + k = omega arith in
    record {
      bound = omega (arith, first.high, length-drop s xs, length-drop c xs);
      before = more_scanned xs s c k le known first.before;
      feed = get_or-drop s xs (c + k - s) 0 ∙ ap (λ n. get_or xs n 0) place ∙ sym (get_or-drop c xs k 0) ∙ eqb-true (get_or (drop c xs) k 0) 10 found;
    }

-- no line feed from s on: none is known up to c, and the search from c on passes none
pub none_found : (xs : List ℕ) (s c : ℕ) → s ≤ c → c ≤ length xs → NoFeed (slice_range xs s c) → Nowhere (Passes (is_byte 10) (drop c xs)) 0 (length (drop c xs)) → NoFeed (drop s xs)
none_found xs s c le in' known none =
    let all : c + length (drop c xs) ≡ length xs = omega (arith, length-drop c xs) in
    All-same (λ x. eqb x 10 ≡ false) (drop s xs) (slice_range xs s (c + length (drop c xs))) (sym (take_rest xs s) ∙ ap (slice_range xs s) (sym all)) (more_scanned xs s c (length (drop c xs)) le known none)

-- the last part is all that is left
pub slice_rest : (xs : List ℕ) (s n : ℕ) → n ≡ length xs → NoFeed (drop s xs) → NoFeed (slice_range xs s n)
slice_rest xs s n all free = All-same (λ x. eqb x 10 ≡ false) (slice_range xs s n) (drop s xs) (ap (slice_range xs s) all ∙ take_rest xs s) free
