-- What is answered, taken apart: one thing after another may be wrong.
--     unless-ok, unless-cases, unless-told     something is wrong, or the rest is answered
--     where_zero-ok, where_zero-cases          a word is empty, or has a first number
--     kind, id_of, chain_of                    refusals of different names are different
--     unbroken-cocycle, cocycle-unbroken       nothing is broken exactly at cocycles
--     none-on_part, outside-none, on_part-first, first-on_part     the first member in the part
use Rattle.std.proofs.Common.{◌≡◌, ℕ, ◌+◌, ◌<◌, ◌≤◌, Bool, true, false, ◌&&◌, ◌⊎◌, inl, inr, List, [], ◌∷◌, length, refl, sym, ap, ◌∙◌, subst, arith, ⊎_elim, MatchOption, Option, Some, None}
use Rattle.std.specs.Prelude.{Result, Ok, Err}
use Rattle.std.specs.Result.{is_ok}
use Rattle.std.proofs.lemmas.Bool.{true≢false, and_parts, and_from, cases_order}
use Rattle.homology.specs.Sets.{Ids, empty}
use Rattle.homology.specs.Complexes.{Complex, simplex_at}
use Rattle.homology.specs.Growth.{is_there}
use Rattle.homology.specs.Chains.{IsChain, IsCocycle, coboundary}
use Rattle.cohomology.specs.Searches.{first_broken}
use Rattle.cohomology.proofs.TestLaws.{broken-first, range-first}
use Rattle.pairs.specs.Pairs.{IsRelativeChain}
use Rattle.pairs.specs.Sequences.{NotTaken, NotCocycle, Stops, OnPart, Differs, unless, where_zero, first_on_part}

err-ok : (e : NotTaken) (c : Ids) → Err e ≡ Ok c → ⊥
err-ok e c q = true≢false (sym (ap is_ok q))

ok-err : (c : Ids) (e : NotTaken) → Ok c ≡ Err e → ⊥
ok-err c e q = true≢false (ap is_ok q)

abbrev cochain_of : Result Ids NotTaken → Ids
cochain_of (Ok c) = c
cochain_of (Err e) = empty

abbrev why_of : NotTaken → Result Ids NotTaken → NotTaken
why_of d (Ok c) = d
why_of d (Err e) = e

-- refusals of different names
abbrev pub kind : NotTaken → ℕ
kind (NotCocycle x) = 0
kind (Stops z) = 1
kind (OnPart x) = 2
kind (Differs h) = 3

abbrev pub id_of : NotTaken → ℕ
id_of (NotCocycle x) = x
id_of (Stops z) = 0
id_of (OnPart x) = x
id_of (Differs h) = h

abbrev pub chain_of : NotTaken → List ℕ
chain_of (NotCocycle x) = []
chain_of (Stops z) = z
chain_of (OnPart x) = []
chain_of (Differs h) = []

pub unless-ok : (o : Option ℕ) (why : ℕ → NotTaken) (rest : Result Ids NotTaken) (c : Ids) → unless o why rest ≡ Ok c → (o ≡ None) × (rest ≡ Ok c)
unless-ok None why rest c e = (refl, e)
unless-ok (Some x) why rest c e = absurd (err-ok (why x) c e)

-- what is wrong first, or in the rest
pub unless-cases : (o : Option ℕ) (why : ℕ → NotTaken) (rest : Result Ids NotTaken) (e : NotTaken) → unless o why rest ≡ Err e
    → ((x : ℕ) × (o ≡ Some x) × (why x ≡ e)) ⊎ ((o ≡ None) × (rest ≡ Err e))
unless-cases None why rest e q = inr (refl, q)
unless-cases (Some x) why rest e q = inl (x, refl, ap (why_of (why x)) q)

pub unless-told : (o : Option ℕ) (why : ℕ → NotTaken) (rest : Result Ids NotTaken) (x : ℕ) → o ≡ Some x → unless o why rest ≡ Err (why x)
unless-told o why rest x e = ap (λ z. unless z why rest) e

pub where_zero-ok : (w : List ℕ) (why : ℕ → NotTaken) (c d : Ids) → where_zero w why c ≡ Ok d → (w ≡ []) × (c ≡ d)
where_zero-ok [] why c d e = (refl, ap cochain_of e)
where_zero-ok (k ∷ w) why c d e = absurd (err-ok (why k) d e)

pub where_zero-cases : (w : List ℕ) (why : ℕ → NotTaken) (c : Ids) (e : NotTaken) → where_zero w why c ≡ Err e
    → (k : ℕ) × (v : List ℕ) × (w ≡ k ∷ v) × (why k ≡ e)
where_zero-cases [] why c e q = absurd (ok-err c e q)
where_zero-cases (k ∷ v) why c e q = (k, v, refl, ap (why_of (why k)) q)

-- nothing is broken
none-of : (o : Option ℕ) (N : Type 0) (S : ℕ → Type 0) → MatchOption o N S → ((x : ℕ) → S x → ⊥) → o ≡ None
none-of None N S is none = refl
none-of (Some x) N S is none = absurd (none x is)

pub unbroken-cocycle : (K : Complex) (p : ℕ) (a : Ids) → IsChain K p a → first_broken K a ≡ None → IsCocycle K p a
unbroken-cocycle K p a chain e = record {
  cochain = chain;
  closed = subst
      (λ o. MatchOption o ((x : ℕ) → x < length K → coboundary K a x ≡ false)
      (λ x. (x < length K) × (coboundary K a x ≡ true) × ((y : ℕ) → y < x → coboundary K a y ≡ false)))
      e (broken-first K a);
}

pub cocycle-unbroken : (K : Complex) (p : ℕ) (a : Ids) → IsCocycle K p a → first_broken K a ≡ None
cocycle-unbroken K p a A = none-of (first_broken K a) _ _ (broken-first K a) (λ x is. true≢false (sym is.1 ∙ A.closed x is.0))

-- no member is in the part
module _ (K A : Complex) (r : Ids) where
  abbrev on : ℕ → Bool
  on t = r t && is_there A (simplex_at K t)

  abbrev NoneOn : Type 0
  NoneOn = (q : ℕ) → 0 ≤ q → q < 0 + length K → on q ≡ false

  abbrev FirstOn : ℕ → Type 0
  FirstOn x = (0 ≤ x) × (x < 0 + length K) × (on x ≡ true) × ((q : ℕ) → 0 ≤ q → q < x → on q ≡ false)

  first : MatchOption (first_on_part K A r) NoneOn FirstOn
  first = range-first on 0 (length K)

  pub none-on_part : (p : ℕ) → IsChain K p r → first_on_part K A r ≡ None → IsRelativeChain K A p r
  none-on_part p chain e = record {
    chain = chain;
    outside = λ t m.
        let none : NoneOn = subst (λ o. MatchOption o NoneOn FirstOn) e first in
        sym (ap (λ b. b && is_there A (simplex_at K t)) m) ∙ none t (omega arith) (omega (arith, chain.there t m));
  }

  pub outside-none : (p : ℕ) → IsRelativeChain K A p r → first_on_part K A r ≡ None
  outside-none p R = none-of (first_on_part K A r) NoneOn FirstOn first (λ x is.
      let both = and_parts (r x) (is_there A (simplex_at K x)) is.2 in
      true≢false (sym both.1 ∙ R.outside x both.0))

  pub on_part-first : (x : ℕ) → first_on_part K A r ≡ Some x → (x < length K) × (r x ≡ true) × (is_there A (simplex_at K x) ≡ true)
      × ((y : ℕ) → y < x → r y ≡ true → is_there A (simplex_at K y) ≡ false)
  on_part-first x e =
      let is : FirstOn x = subst (λ o. MatchOption o NoneOn FirstOn) e first in
      let both = and_parts (r x) (is_there A (simplex_at K x)) is.2 in
      (omega (arith, is.1), both.0, both.1, λ y lt m. sym (ap (λ b. b && is_there A (simplex_at K y)) m) ∙ is.3 y (omega arith) lt)

  pub first-on_part : (x : ℕ) → x < length K → r x ≡ true → is_there A (simplex_at K x) ≡ true
      → ((y : ℕ) → y < x → r y ≡ true → is_there A (simplex_at K y) ≡ false) → first_on_part K A r ≡ Some x
  first-on_part x lt m here before = by (first_on_part K A r) first
    where
      has : on x ≡ true
      has = and_from (r x) (is_there A (simplex_at K x)) m here

      -- an earlier one would be before x
      earlier : (y : ℕ) → y < x → on y ≡ true → ⊥
      earlier y less e =
          let both = and_parts (r y) (is_there A (simplex_at K y)) e in true≢false (sym both.1 ∙ before y less both.0)

      by : (o : Option ℕ) → MatchOption o NoneOn FirstOn → o ≡ Some x
      by None none = absurd (true≢false (sym has ∙ none x (omega arith) (omega (arith, lt))))
      by (Some y) is = ⊎_elim
          (λ (same : y ≡ x). ap Some same)
          (λ (apart : (y < x) ⊎ (x < y)). ⊎_elim
          (λ (less : y < x). absurd (earlier y less is.2))
          (λ (more : x < y). absurd (true≢false (sym has ∙ is.3 x (omega arith) more)))
          apart)
          (cases_order y x)
