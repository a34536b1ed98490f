-- Bits of machine words, and the entries of the row that they make.
--     entry-row_of, length-row_of        the row's entries are the bits
--     entry-past, entry-within           a row has no one past its end
--     set-bits                           a word with one more bit
--     row_of-set, row_of-plus            rows whose bits are one more, and the sums
use Rattle.std.proofs.Common.{◌≡◌, ℕ, zero, suc, ◌+◌, ◌*◌, ◌/◌, ◌%◌, ◌^◌, ◌<◌, ◌≤◌, ◌==◌, Bool, true, false, ◌||◌, ◌⊎◌, inl, inr, List, [], ◌∷◌, ◌++◌, ◌&&◌, cond, replicate, length, take, drop, append-nil, add-one, add-zero, nat_eq, refl, sym, ap, ◌∙◌, subst, arith, ⊎_elim, zero-add, get_or, set, w64}
use Rattle.std.specs.Prelude.{bit_or, bit_xor, slice_index_or}
use Rattle.std.specs.Int.{bit_at, div_ceil}
use Rattle.std.specs.List.{filter, range_with_len}
use Rattle.std.specs.List.Sorted.{IsStrictlyIncreasing}
use Rattle.std.proofs.lemmas.Bool.{true≢false, cases_eq, cases_lt, and_from}
use Rattle.std.proofs.lemmas.List.{get_or_past, get_or-set_same, get_or-set_other}
use Rattle.std.proofs.lemmas.List.FromFn.{get_or-map-range_with_len, length-map-range_with_len}
use Rattle.std.proofs.lemmas.Nat.Bits.{bit_at_set_same, bit_at_set_other, bit_at_xor, bit_at-lt, bit_at-zero}
use Rattle.std.proofs.Math.Seq.{take-append_seam}
use Rattle.std.proofs.lemmas.List.Elements.{filter-append}
use Rattle.std.proofs.lemmas.List.Kept.{IsStrictlyIncreasing-filter}
use Rattle.homology.specs.Parity.{xor}
use Rattle.homology.specs.Sets.{empty, plus, set_of}
use Rattle.homology.proofs.ParityLaws.{nat_eq-self, nat_eq-apart}
use Rattle.homology.proofs.KindLaws.{set_of-filter, set_of-range_holds}
use Rattle.homology.proofs.ListSetLaws.{Rises, ascending-Rises}
use Rattle.elimination.specs.Rows.{entry}
use Rattle.elimination.specs.Bits.{bit, row_of}

pub length-row_of : (n : ℕ) (ws : List ℕ) → length (row_of n ws) ≡ n
length-row_of n ws = length-map-range_with_len (bit ws) 0 n

pub entry-row_of : (n : ℕ) (ws : List ℕ) (q : ℕ) → q < n → entry (row_of n ws) q ≡ bit ws q
entry-row_of n ws q lt = get_or-map-range_with_len (bit ws) 0 n q q false lt (zero-add q)

pub entry-past : (r : List Bool) (q : ℕ) → length r ≤ q → entry r q ≡ false
entry-past r q le = get_or_past r q false le

pub entry-within : (r : List Bool) (q : ℕ) → entry r q ≡ true → q < length r
entry-within r q one = ⊎_elim
    (λ (lt : q < length r). lt)
    (λ (le : length r ≤ q). absurd (true≢false (sym one ∙ entry-past r q le)))
    (cases_lt q (length r))

-- rows whose bits have one more
pub row_of-set : (n : ℕ) (ws vs : List ℕ) (p : ℕ) → p < n → ((q : ℕ) → bit vs q ≡ (nat_eq q p || bit ws q))
    → (q : ℕ) → entry (row_of n vs) q ≡ (nat_eq q p || entry (row_of n ws) q)
row_of-set n ws vs p lt is q = ⊎_elim
    (λ (here : q < n). entry-row_of n vs q here ∙ is q ∙ ap (λ b. nat_eq q p || b) (sym (entry-row_of n ws q here)))
    (λ (past : n ≤ q).
    entry-past (row_of n vs) q (omega (arith, past, length-row_of n vs))
    ∙ sym (λ i. nat_eq-apart q p (λ e. omega (arith, past, lt, e)) i || entry-past (row_of n ws) q (omega (arith, past, length-row_of n ws)) i))
    (cases_lt q n)

-- rows whose bits are the sums
pub row_of-plus : (n m : ℕ) (ws us vs : List ℕ) → n ≡ m → ((q : ℕ) → bit vs q ≡ xor (bit ws q) (bit us q))
    → entry (row_of n vs) ≡ plus (entry (row_of n ws)) (entry (row_of m us))
row_of-plus n m ws us vs same is = λ i q. at q i
  where
    at : (q : ℕ) → entry (row_of n vs) q ≡ xor (entry (row_of n ws) q) (entry (row_of m us) q)
    at q = ⊎_elim
        (λ (here : q < n).
        entry-row_of n vs q here ∙ is q ∙ sym (λ i. xor (entry-row_of n ws q here i) (entry-row_of m us q (omega (arith, here, same)) i)))
        (λ (past : n ≤ q).
        entry-past (row_of n vs) q (omega (arith, past, length-row_of n vs))
        ∙ sym
        (λ i.
        xor (entry-past (row_of n ws) q (omega (arith, past, length-row_of n ws)) i)
        (entry-past (row_of m us) q (omega (arith, past, same, length-row_of m us)) i)))
        (cases_lt q n)

-- ---- words
-- the bit of a sum modulo 2
one-or-other : (a b : ℕ) → a < 2 → b < 2 → ((a + b) % 2 == 1) ≡ xor (a == 1) (b == 1)
one-or-other a b la lb = ⊎_elim
    (λ (ea : a ≡ 0). ⊎_elim
    (λ (eb : b ≡ 0). (λ i. (ea i + eb i) % 2 == 1) ∙ sym (λ i. xor (ea i == 1) (eb i == 1)))
    (λ (eb : b ≡ 1). (λ i. (ea i + eb i) % 2 == 1) ∙ sym (λ i. xor (ea i == 1) (eb i == 1)))
    (zero-one b lb))
    (λ (ea : a ≡ 1). ⊎_elim
    (λ (eb : b ≡ 0). (λ i. (ea i + eb i) % 2 == 1) ∙ sym (λ i. xor (ea i == 1) (eb i == 1)))
    (λ (eb : b ≡ 1). (λ i. (ea i + eb i) % 2 == 1) ∙ sym (λ i. xor (ea i == 1) (eb i == 1)))
    (zero-one b lb))
    (zero-one a la)
  where
    zero-one : (c : ℕ) → c < 2 → (c ≡ 0) ⊎ (c ≡ 1)
    zero-one c lt = ⊎_elim (λ (e : c ≡ 0). inl e) (λ (other : c ≡ 0 → ⊥). inr (omega (arith, other, lt))) (cases_eq c 0)

-- words that are sums have the sums of the bits
pub bit-xor : (ws us vs : List ℕ) → ((k : ℕ) → slice_index_or vs k 0 ≡ bit_xor (slice_index_or ws k 0) (slice_index_or us k 0))
    → (q : ℕ) → bit vs q ≡ xor (bit ws q) (bit us q)
bit-xor ws us vs is q =
    let w : ℕ = slice_index_or ws (q / 64) 0 in
    let u : ℕ = slice_index_or us (q / 64) 0 in
    let i : ℕ = q % 64 in
    ap (λ n. bit_at n i == 1) (is (q / 64))
    ∙ ap (λ n. n == 1) (bit_at_xor w u i)
    ∙ one-or-other (bit_at w i) (bit_at u i) (bit_at-lt w i) (bit_at-lt u i)

-- a word with one bit more
pub bit-set : (ws vs : List ℕ) (p : ℕ) → p / 64 < length ws
    → vs ≡ set ws (p / 64) (bit_or (get_or ws (p / 64) 0) (1 * 2 ^ (p % 64) % 2 ^ 64))
    → (q : ℕ) → bit vs q ≡ (nat_eq q p || bit ws q)
bit-set ws vs p lt is q = ⊎_elim
    (λ (word : q / 64 ≡ p / 64). ⊎_elim
    (λ (place : q % 64 ≡ p % 64).
    let same : q ≡ p = omega (arith, word, place) in
    ap (λ n. bit_at n (q % 64) == 1) (at word)
    ∙ ap (λ i. bit_at new i == 1) place
    ∙ ap (λ n. n == 1) (bit_at_set_same w64 old (p % 64) (omega arith))
    ∙ sym (ap (λ b. b || bit ws q) (ap (λ x. nat_eq x p) same ∙ nat_eq-self p)))
    (λ (other : q % 64 ≡ p % 64 → ⊥).
    ap (λ n. bit_at n (q % 64) == 1) (at word)
    ∙ ap (λ n. n == 1) (bit_at_set_other w64 old (p % 64) (omega arith) (q % 64) other)
    ∙ ap (λ k. bit_at (get_or ws k 0) (q % 64) == 1) (sym word)
    ∙ sym (ap (λ b. b || bit ws q) (nat_eq-apart q p (λ same. other (ap (λ x. x % 64) same)))))
    (cases_eq (q % 64) (p % 64)))
    (λ (other : q / 64 ≡ p / 64 → ⊥).
    ap (λ n. bit_at n (q % 64) == 1) (ap (λ l. get_or l (q / 64) 0) is ∙ get_or-set_other ws (p / 64) (q / 64) new 0 other)
    ∙ sym (ap (λ b. b || bit ws q) (nat_eq-apart q p (λ same. other (ap (λ x. x / 64) same)))))
    (cases_eq (q / 64) (p / 64))
  where
    old : ℕ
    old = get_or ws (p / 64) 0

    new : ℕ
    new = bit_or old (1 * 2 ^ (p % 64) % 2 ^ 64)

    at : q / 64 ≡ p / 64 → get_or vs (q / 64) 0 ≡ new
    at word = (λ i. get_or (is i) (word i) 0) ∙ get_or-set_same ws (p / 64) new 0 lt

-- sums word by word, as far as the words go
pub words-done : (ws us vs : List ℕ) (i : ℕ) → length ws ≤ i → length ws ≡ length us
    → ((k : ℕ) → k < i → slice_index_or vs k 0 ≡ bit_xor (slice_index_or ws k 0) (slice_index_or us k 0))
    → ((k : ℕ) → i ≤ k → slice_index_or vs k 0 ≡ slice_index_or ws k 0)
    → (k : ℕ) → slice_index_or vs k 0 ≡ bit_xor (slice_index_or ws k 0) (slice_index_or us k 0)
words-done ws us vs i all same done rest k = ⊎_elim
    (λ (lt : k < i). done k lt)
    (λ (le : i ≤ k).
    rest k le
    ∙ get_or_past ws k 0 (omega (arith, le, all))
    ∙ sym (λ j. bit_xor (get_or_past ws k 0 (omega (arith, le, all)) j) (get_or_past us k 0 (omega (arith, le, all, same)) j)))
    (cases_lt k i)

-- ---- rows
-- rows of words with equal lengths have equally many entries
pub same-width : (n m : ℕ) (ws us : List ℕ) (r s : List Bool) → row_of n ws ≡ r → row_of m us ≡ s → length r ≡ length s → n ≡ m
same-width n m ws us r s is_r is_s same =
    sym (length-row_of n ws) ∙ ap length is_r ∙ same ∙ sym (ap length is_s) ∙ length-row_of m us

pub width-row : (n : ℕ) (ws : List ℕ) (r : List Bool) → row_of n ws ≡ r → n ≡ length r
width-row n ws r is = sym (length-row_of n ws) ∙ ap length is

pub word-within : (n q c : ℕ) → q < n → c ≡ div_ceil n 64 → q / 64 < c
word-within n q c lt is = omega (arith, lt, is)

same-everywhere : (c k x : ℕ) → get_or (replicate c x) k x ≡ x
same-everywhere zero k x = refl
same-everywhere (suc c) zero x = refl
same-everywhere (suc c) (suc k) x = same-everywhere c k x

pub zero-row : (n c : ℕ) (ws : List ℕ) → ws ≡ replicate c 0 → entry (row_of n ws) ≡ empty
zero-row n c ws is = λ i q. at q i
  where
    none : (k : ℕ) → get_or ws k 0 ≡ 0
    none k = ap (λ l. get_or l k 0) is ∙ same-everywhere c k 0

    at : (q : ℕ) → entry (row_of n ws) q ≡ false
    at q = ⊎_elim
        (λ (lt : q < n). entry-row_of n ws q lt ∙ ap (λ x. bit_at x (q % 64) == 1) (none (q / 64)) ∙ ap (λ x. x == 1) (bit_at-zero (q % 64)))
        (λ (le : n ≤ q). entry-past (row_of n ws) q (omega (arith, le, length-row_of n ws)))
        (cases_lt q n)

-- the places with a one
pub range-more : (a n : ℕ) → range_with_len a (n + 1) ≡ range_with_len a n ++ (a + n) ∷ []
range-more a n = ap (range_with_len a) (add-one n) ∙ at a n
  where
    at : (a n : ℕ) → range_with_len a (suc n) ≡ range_with_len a n ++ (a + n) ∷ []
    at a zero = ap (λ k. k ∷ []) (sym (add-zero a))
    at a (suc n) = ap (λ l. a ∷ l) (at (a + 1) n ∙ ap (λ k. range_with_len (a + 1) n ++ k ∷ []) (omega arith))

pub filter-more : (p : ℕ → Bool) (n : ℕ) (xs : List ℕ) → xs ≡ filter p (range_with_len 0 n)
    → (p n ≡ true → xs ++ n ∷ [] ≡ filter p (range_with_len 0 (n + 1))) × (p n ≡ false → xs ≡ filter p (range_with_len 0 (n + 1)))
filter-more p n xs is = (
  λ one. (λ i. is i ++ n ∷ []) ∙ ap (λ l. filter p (range_with_len 0 n) ++ l) (sym (ap (λ b. cond b (n ∷ []) []) one)) ∙ sym whole,
  λ none. is ∙ sym (append-nil (filter p (range_with_len 0 n))) ∙ ap (λ l. filter p (range_with_len 0 n) ++ l) (sym (ap (λ b. cond b (n ∷ []) []) none)) ∙ sym whole,
)
  where
    whole : filter p (range_with_len 0 (n + 1)) ≡ filter p (range_with_len 0 n) ++ cond (p n) (n ∷ []) []
    whole =
        ap (filter p) (range-more 0 n ∙ ap (λ k. range_with_len 0 n ++ k ∷ []) (zero-add n))
        ∙ filter-append p (range_with_len 0 n) (n ∷ [])

pub listed : (r : List Bool) (n : ℕ) (xs : List ℕ) → xs ≡ filter (entry r) (range_with_len 0 n) → length r ≤ n → set_of xs ≡ entry r
listed r n xs is le = λ i q. at q i
  where
    by : (q : ℕ) (b : Bool) → entry r q ≡ b → (entry r q && set_of (range_with_len 0 n) q) ≡ b
    by q true one = and_from (entry r q) (set_of (range_with_len 0 n) q) one (set_of-range_holds 0 n q (omega arith) (omega (arith, le, entry-within r q one)))
    by q false none = ap (λ b. b && set_of (range_with_len 0 n) q) none

    at : (q : ℕ) → set_of xs q ≡ entry r q
    at q = ap (λ l. set_of l q) is ∙ set_of-filter (entry r) (range_with_len 0 n) q ∙ by q (entry r q) refl

range-rises : (a n : ℕ) → Rises a (range_with_len a n)
range-rises a zero = tt
range-rises a (suc n) = (omega arith, range-rises (a + 1) n)

pub listed-ascending : (p : ℕ → Bool) (n : ℕ) (xs : List ℕ) → xs ≡ filter p (range_with_len 0 n) → IsStrictlyIncreasing xs
listed-ascending p n xs is =
    subst IsStrictlyIncreasing (sym is) (IsStrictlyIncreasing-filter p (range_with_len 0 n) (ascending-Rises 0 (range_with_len 0 n) (range-rises 0 n)))

-- what was lent whole is what was given back
given-back : (n : ℕ) (items new shown : List ℕ) → n ≡ length items → length new ≡ length items → shown ≡ take n (new ++ drop (length new) items) → shown ≡ new
given-back n items new shown count fits is =
    is ∙ ap (λ m. take m (new ++ drop (length new) items)) (count ∙ sym fits) ∙ take-append_seam new (drop (length new) items)

pub given-plus : (n m k : ℕ) (ws us new shown : List ℕ) → n ≡ m → k ≡ length ws → length new ≡ length ws → shown ≡ take k (new ++ drop (length new) ws)
    → ((q : ℕ) → bit new q ≡ xor (bit ws q) (bit us q)) → entry (row_of n shown) ≡ plus (entry (row_of n ws)) (entry (row_of m us))
given-plus n m k ws us new shown same count fits back is =
    ap (λ l. entry (row_of n l)) (given-back k ws new shown count fits back) ∙ row_of-plus n m ws us new same is

pub given-bit : (n k : ℕ) (ws new shown : List ℕ) (p : ℕ) → p < n → k ≡ length ws → length new ≡ length ws → shown ≡ take k (new ++ drop (length new) ws)
    → ((q : ℕ) → bit new q ≡ (nat_eq q p || bit ws q)) → (q : ℕ) → entry (row_of n shown) q ≡ (nat_eq q p || entry (row_of n ws) q)
given-bit n k ws new shown p lt count fits back is q =
    ap (λ l. entry (row_of n l) q) (given-back k ws new shown count fits back) ∙ row_of-set n ws new p lt is q
