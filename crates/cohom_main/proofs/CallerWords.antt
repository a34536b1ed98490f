-- The caller of a line.
--     caller-within     a line that asks for something is of one of the callers
--     caller-or         caller 0 where it names none
use Rattle.std.proofs.Common.{◌≡◌, ℕ, ◌<◌, Bool, true, false, cond, ◌&&◌, ◌==◌, List, [], ◌∷◌, nat_le, drop, Option, Some, None, Result, Ok, Err, refl, sym, ap, subst, arith}
use Rattle.std.specs.Option.{unwrap_or}
use Rattle.std.proofs.lemmas.Bool.{true≢false, leb-true}
use Rattle.language.specs.Words.{Word, words}
use Rattle.language.specs.declared.fault.FaultKind.{FaultKind}
use Rattle.language.specs.declared.fault.Fault.{Fault}
use Rattle.language.specs.declared.fault.FaultKind.TheVariants as kind
use Rattle.language.specs.Language.{Request, Asked}
use Rattle.language.specs.Arguments.{is_run, is_short, lies_in, value, provided, caller_word}
use Rattle.language.specs.Grammar.{Left, and_then, at_column, one, taken, first_byte, request, asked, asked_at, reading}
use Rattle.lines.specs.Lines.{callers}
use Rattle.transcript.specs.Steps.{caller_of}

-- what a value holds, where it is a value
ok_same : {A E : Type 0} (x y : A) (r s : Result A E) → r ≡ Ok x → s ≡ Ok y → r ≡ s → x ≡ y
ok_same x y r s is so e = cc (is, so, e)

-- a request has the caller that was read before it
of_caller : (k : Option ℕ) (left : Left) (a : Asked) → asked k left ≡ Ok a → a.caller ≡ k
of_caller k left a = by (request left)
  where
    by : (r : Result Request Fault) → and_then r (λ r. Ok (record { caller = k; request = r })) ≡ Ok a → a.caller ≡ k
    by (Ok r) e = sym (ap (λ (x : Asked). x.caller) (ok_same (record { caller = k; request = r }) a (Ok (record { caller = k; request = r })) (Ok a) refl refl e))
    by (Err f) e = absurd (cc e)

both_true : (p q : Bool) → (p && q) ≡ true → (p ≡ true) × (q ≡ true)
both_true true q e = (refl, e)
both_true false q e = absurd (true≢false (sym e))

small : (w : List ℕ) → lies_in 0 15 w ≡ true → value w < callers
small w lies =
    let within = both_true (is_short w) (nat_le 0 (value w) && nat_le (value w) 15) lies in
    let below = both_true (nat_le 0 (value w)) (nat_le (value w) 15) within.1 in
    omega (arith, leb-true (value w) 15 below.1)

-- a caller word is the number of a caller
word-within : (w : List ℕ) (k : ℕ) → caller_word w ≡ Ok k → k < callers
unfolding caller_word
word-within w k = by (is_run (drop 1 w)) (lies_in 0 15 (drop 1 w)) refl
  where
    by : (p q : Bool) → lies_in 0 15 (drop 1 w) ≡ q → provided (p && q) kind.Caller (Ok (value (drop 1 w))) ≡ Ok k → k < callers
    by true true lies e = subst (λ n. n < callers) (ok_same (value (drop 1 w)) k (Ok (value (drop 1 w))) (Ok k) refl refl e) (small (drop 1 w) lies)
    by true false lies e = absurd (cc e)
    by false q lies e = absurd (cc e)

at_word : (line : List ℕ) (w : Word) (ws : List Word) (a : Asked) → and_then (taken caller_word line (w ∷ ws)) (λ (k, rest). asked (Some k) rest) ≡ Ok a → caller_of a.caller < callers
at_word line w ws a = by (caller_word w.bytes) refl
  where
    rest : Left
    rest = record { line = line; words = ws }

    by : (r : Result ℕ FaultKind) → caller_word w.bytes ≡ r → and_then (and_then (at_column w.column r) (λ k. Ok (k, rest))) (λ (k, left). asked (Some k) left) ≡ Ok a → caller_of a.caller < callers
    by (Ok k) is e = subst (λ o. caller_of o < callers) (sym (of_caller (Some k) rest a e)) (word-within w.bytes k is)
    by (Err f) is e = absurd (cc e)

pub caller-within : (l : List ℕ) (a : Asked) → reading l ≡ Ok a → caller_of a.caller < callers
unfolding reading one
caller-within l a = at (words l)
  where
    none : (left : Left) → asked None left ≡ Ok a → caller_of a.caller < callers
    none left e = subst (λ o. caller_of o < callers) (sym (of_caller None left a e)) (omega arith)

    by : (w : Word) (ws : List Word) (q : Bool)
        → cond q (and_then (one caller_word (record { line = l; words = w ∷ ws })) (λ (k, rest). asked (Some k) rest)) (asked None (record { line = l; words = w ∷ ws })) ≡ Ok a
        → caller_of a.caller < callers
    by w ws true e = at_word l w ws a e
    by w ws false e = none (record { line = l; words = w ∷ ws }) e

    at : (ws : List Word) → asked_at (record { line = l; words = ws }) ws ≡ Ok a → caller_of a.caller < callers
    at [] e = none (record { line = l; words = [] }) e
    at (w ∷ ws) e = by w ws (first_byte w == 64) e

-- the caller that a line names, or else caller 0
pub caller-or : (k : Option ℕ) → unwrap_or k 0 ≡ caller_of k
caller-or (Some c) = refl
caller-or None = refl
