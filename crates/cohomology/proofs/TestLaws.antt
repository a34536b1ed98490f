-- The tests of cochains, and the list of class words.
--     cocycle-test          the test for cocycles
--     range-first           the first number of a run that passes a test
--     broken-first          the first id at which a coboundary is 1
--     classes-words         the listed class words are all there are
use Rattle.std.proofs.Common.{◌≡◌, ◌↔◌, ℕ, zero, suc, ◌+◌, ◌<◌, ◌≤◌, Bool, true, false, cond, ◌&&◌, ◌⊎◌, inl, inr, List, [], ◌∷◌, length, get_or, sym, ap, ◌∙◌, subst, arith, Option, Some, None, find, MatchOption}
use Rattle.std.specs.List.{Contains, filter, range_with_len}
use Rattle.std.proofs.lemmas.Bool.{cases_Bool, cases_eq}
use Rattle.std.proofs.lemmas.Map.Views.{Contains-from_any}
use Rattle.homology.specs.Sets.{Ids, set_of}
use Rattle.homology.specs.Simplices.{same_list}
use Rattle.homology.specs.Complexes.{Complex}
use Rattle.homology.specs.Chains.{IsChain, IsCocycle, coboundary}
use Rattle.homology.specs.Kinds.{betti}
use Rattle.homology.proofs.SetLaws.{same_members}
use Rattle.homology.proofs.BoundaryLaws.{same_list-true, same_list-same}
use Rattle.homology.proofs.KindLaws.{set_of-filter, set_of-range, set_of-range_holds, sublists-filter}
use Rattle.homology.proofs.ListSetLaws.{ascending-Rises, set_of-All, same_ascending}
use Rattle.cohomology.specs.Searches.{is_cocycle, first_broken}
use Rattle.cohomology.specs.Classes.{IsClass, classes}
use Rattle.cohomology.proofs.Searching.{Each, Sublist, sublists-each, rises-range, filter-rises}
use Rattle.cohomology.proofs.Naming.{word-below}
use Rattle.cohomology.proofs.Canonicals.{none-below, is_empty-below}

pub cocycle-test : (K : Complex) (p : ℕ) (a : Ids) → IsChain K p a → (is_cocycle K a ≡ true) ↔ IsCocycle K p a
cocycle-test K p a chain = (
  λ e. record { cochain = chain; closed = none-below (length K) (coboundary K a) e },
  λ A. is_empty-below (length K) (coboundary K a) A.closed,
)

-- no number from b on, below b + n
abbrev NoneFrom : (ℕ → Bool) → ℕ → ℕ → Type 0
NoneFrom p b n = (q : ℕ) → b ≤ q → q < b + n → p q ≡ false

-- x is the first such number
abbrev FirstFrom : (ℕ → Bool) → ℕ → ℕ → ℕ → Type 0
FirstFrom p b n x = (b ≤ x) × (x < b + n) × (p x ≡ true) × ((q : ℕ) → b ≤ q → q < x → p q ≡ false)

pub range-first : (p : ℕ → Bool) (b n : ℕ) → MatchOption (find p (range_with_len b n)) (NoneFrom p b n) (FirstFrom p b n)
range-first p b zero = λ q le lt. absurd (omega (arith, lt))
range-first p b (suc n) = at (cases_Bool (p b)) (find p (range_with_len (b + 1) n)) (range-first p (b + 1) n)
  where
    at : (p b ≡ true) ⊎ (p b ≡ false) → (o : Option ℕ) → MatchOption o (NoneFrom p (b + 1) n) (FirstFrom p (b + 1) n)
        → MatchOption (cond (p b) (Some b) o) (NoneFrom p b (suc n)) (FirstFrom p b (suc n))
    at (inl e) o rest = subst (λ c. MatchOption (cond c (Some b) o) (NoneFrom p b (suc n)) (FirstFrom p b (suc n))) (sym e)
        (omega arith, omega arith, e, λ q le lt. absurd (omega (arith, le, lt)))
    at (inr e) None rest = subst (λ c. MatchOption (cond c (Some b) None) (NoneFrom p b (suc n)) (FirstFrom p b (suc n))) (sym e)
        (λ q le lt. by q (cases_eq q b) le lt)
      where
        by : (q : ℕ) → (q ≡ b) ⊎ (q ≡ b → ⊥) → b ≤ q → q < b + suc n → p q ≡ false
        by q (inl same) le lt = ap p same ∙ e
        by q (inr other) le lt = rest q (omega (arith, other)) (omega arith)
    at (inr e) (Some x) rest = subst (λ c. MatchOption (cond c (Some b) (Some x)) (NoneFrom p b (suc n)) (FirstFrom p b (suc n))) (sym e)
        (omega (arith, rest.0), omega (arith, rest.1), rest.2, λ q le lt. by q (cases_eq q b) le lt)
      where
        by : (q : ℕ) → (q ≡ b) ⊎ (q ≡ b → ⊥) → b ≤ q → q < x → p q ≡ false
        by q (inl same) le lt = ap p same ∙ e
        by q (inr other) le lt = rest.3 q (omega (arith, other)) lt

pub broken-first : (K : Complex) (a : Ids)
    → MatchOption (first_broken K a) ((x : ℕ) → x < length K → coboundary K a x ≡ false)
    (λ x. (x < length K) × (coboundary K a x ≡ true) × ((y : ℕ) → y < x → coboundary K a y ≡ false))
broken-first K a = at (first_broken K a) (range-first (coboundary K a) 0 (length K))
  where
    at : (o : Option ℕ) → MatchOption o (NoneFrom (coboundary K a) 0 (length K)) (FirstFrom (coboundary K a) 0 (length K))
        → MatchOption o ((x : ℕ) → x < length K → coboundary K a x ≡ false)
        (λ x. (x < length K) × (coboundary K a x ≡ true) × ((y : ℕ) → y < x → coboundary K a y ≡ false))
    at None none = λ x lt. none x (omega arith) (omega (arith, lt))
    at (Some x) is = (omega (arith, is.1), is.2, λ y lt. is.3 y (omega arith) lt)

Each-at : (P : List ℕ → Type 0) (cs : List (List ℕ)) (i : ℕ) (d : List ℕ) → Each P cs → i < length cs → P (get_or cs i d)
Each-at P [] i d a lt = absurd (omega (arith, lt))
Each-at P (c ∷ cs) zero d a lt = a.0
Each-at P (c ∷ cs) (suc i) d a lt = Each-at P cs i d a.1 (omega (arith, lt))

module _ (K : Complex) (p : ℕ) (w : List ℕ) where
  abbrev numbers : List ℕ
  numbers = range_with_len 0 (betti K p)

  listed-word : Contains (classes K p) w → IsClass K p w
  listed-word c =
      subst (IsClass K p) c.2 (class (get_or (classes K p) c.0 w) (Each-at (Sublist 0 numbers) (classes K p) c.0 w (sublists-each 0 numbers (rises-range 0 (betti K p))) c.1))
    where
      class : (v : List ℕ) → Sublist 0 numbers v → IsClass K p v
      class v s = record {
        ascending = ascending-Rises 0 v s.rises;
        numbers = set_of-All (λ k. k < betti K p) v (λ k m. omega (arith, (set_of-range 0 (betti K p) k (s.within k m)).1));
      }

  word-listed : IsClass K p w → Contains (classes K p) w
  word-listed W = Contains-from_any {eq = same_list} same_list-true w (classes K p)
      (sublists-filter numbers (same_list w) (set_of w) (same_list-same w (filter (set_of w) numbers) (sym kept)))
    where
      at : (k : ℕ) → (set_of w k ≡ true) ⊎ (set_of w k ≡ false) → (set_of w k && set_of numbers k) ≡ set_of w k
      at k (inl m) = ap (λ b. b && set_of numbers k) m ∙ set_of-range_holds 0 (betti K p) k (omega arith) (omega (arith, word-below K p w W k m)) ∙ sym m
      at k (inr e) = ap (λ b. b && set_of numbers k) e ∙ sym e

      kept : filter (set_of w) numbers ≡ w
      kept =
          same_ascending (filter (set_of w) numbers) w (ascending-Rises 0 (filter (set_of w) numbers) (filter-rises (set_of w) numbers (rises-range 0 (betti K p)))) W.ascending
          (same_members _ _ (λ k. set_of-filter (set_of w) numbers k ∙ at k (cases_Bool (set_of w k))))

  pub classes-words : Contains (classes K p) w ↔ IsClass K p w
  classes-words = (listed-word, word-listed)
