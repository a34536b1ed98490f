-- What is left of entries when kept rows are added where needed.
--     rest-sum             what is left of a sum is the sum of what is left
--     rest-push, rest-take one kept row more
--     rest-leads           it has zeros at the leading places, where each kept row has a one at its own and a zero at those before it
--     leads-fresh          so no leading place comes twice
--     sum-step             adding a kept row keeps track of what was added
use Rattle.std.proofs.Common.{◌≡◌, ℕ, zero, suc, ◌+◌, ◌<◌, Bool, true, false, ◌&&◌, List, [], ◌∷◌, ◌++◌, map, length, take, nat_eq, refl, sym, ap, ◌∙◌, arith, ⊎_elim, eqb-true, get_or}
use Rattle.std.specs.List.{All, AllPairs}
use Rattle.std.proofs.lemmas.Bool.{true≢false, or_cases, or_from}
use Rattle.std.proofs.lemmas.List.{take_more}
use Rattle.std.proofs.lemmas.List.Elements.{All-head, All-tail}
use Rattle.std.proofs.lemmas.List.Sums.{fold-append}
use Rattle.homology.specs.Parity.{xor}
use Rattle.homology.specs.Sets.{Ids, empty, plus, image, set_of}
use Rattle.homology.specs.ListSums.{sum_over}
use Rattle.homology.proofs.ParityLaws.{xor-self, xor-middle, xor-and, and-false, and-true, nat_eq-apart}
use Rattle.homology.proofs.SetLaws.{plus-assoc, image-plus}
use Rattle.homology.proofs.Changes.{when, image-when_set}
use Rattle.elimination.specs.Rows.{entry}
use Rattle.elimination.specs.Reductions.{after, rest_of}
use Rattle.elimination.specs.declared.reduction.Kept.{Kept}
use Rattle.elimination.proofs.Counts.{Fresh}

after-plus : (u v : Ids) (k : Kept) → after (plus u v) k ≡ plus (after u k) (after v k)
after-plus u v k = λ i q. at q i
  where
    at : (q : ℕ) → after (plus u v) k q ≡ plus (after u k) (after v k) q
    at q =
        ap (xor (xor (u q) (v q))) (xor-and (u k.lead) (v k.lead) (entry k.reduced q))
        ∙ xor-middle (u q) (v q) (u k.lead && entry k.reduced q) (v k.lead && entry k.reduced q)

rest-plus : (ks : List Kept) (u v : Ids) → rest_of (plus u v) ks ≡ plus (rest_of u ks) (rest_of v ks)
rest-plus [] u v = refl
rest-plus (k ∷ ks) u v = ap (λ w. rest_of w ks) (after-plus u v k) ∙ rest-plus ks (after u k) (after v k)

pub rest-empty : (ks : List Kept) → rest_of empty ks ≡ empty
rest-empty [] = refl
rest-empty (k ∷ ks) = rest-empty ks

-- what is left of a sum
pub rest-sum : (ks : List Kept) (φ : ℕ → Ids) (numbers : List ℕ) → rest_of (sum_over numbers φ) ks ≡ sum_over numbers (λ j. rest_of (φ j) ks)
rest-sum ks φ [] = rest-empty ks
rest-sum ks φ (x ∷ xs) = rest-plus ks (φ x) (sum_over xs φ) ∙ ap (plus (rest_of (φ x) ks)) (rest-sum ks φ xs)

-- one kept row more
pub rest-push : (ks : List Kept) (k : Kept) (v : Ids) → rest_of v (ks ++ k ∷ []) ≡ after (rest_of v ks) k
rest-push ks k v = fold-append after v ks (k ∷ [])

pub rest-take : (ks : List Kept) (i : ℕ) (d : Kept) (v : Ids) → i < length ks → rest_of v (take (i + 1) ks) ≡ after (rest_of v (take i ks)) (get_or ks i d)
rest-take ks i d v lt = ap (rest_of v) (take_more ks i d lt) ∙ rest-push (take i ks) (get_or ks i d) v

-- a zero stays where all kept rows have one
kept-zero : (x : ℕ) (ks : List Kept) (v : Ids) → v x ≡ false → All (λ l. entry l.reduced x ≡ false) ks → rest_of v ks x ≡ false
kept-zero x [] v zero_there zeros = zero_there
kept-zero x (k ∷ ks) v zero_there zeros =
    kept-zero x ks (after v k)
    ((λ i. xor (zero_there i) (v k.lead && All-head (λ l. entry l.reduced x ≡ false) k ks zeros i)) ∙ and-false (v k.lead))
    (All-tail (λ l. entry l.reduced x ≡ false) k ks zeros)

abbrev Clears : Kept → Kept → Type 0
Clears k l = entry l.reduced k.lead ≡ false

abbrev Leads : Kept → Type 0
Leads l = entry l.reduced l.lead ≡ true

pairs-first : (k : Kept) (ks : List Kept) → AllPairs Clears (k ∷ ks) → All (Clears k) ks
pairs-first k ks pairs = λ j d lt. pairs zero (suc j) d (omega arith) (omega arith)

pairs-tail : (k : Kept) (ks : List Kept) → AllPairs Clears (k ∷ ks) → AllPairs Clears ks
pairs-tail k ks pairs = λ i j d lt below. pairs (suc i) (suc j) d (omega arith) (omega arith)

abbrev pub leads : List Kept → List ℕ
leads ks = map (λ k. k.lead) ks

-- a row that was added where there was a one leaves a zero there
after-lead : (v : Ids) (k : Kept) → Leads k → after v k k.lead ≡ false
after-lead v k one =
    ap (λ b. xor (v k.lead) (v k.lead && b)) one ∙ ap (xor (v k.lead)) (and-true (v k.lead)) ∙ xor-self (v k.lead)

-- what is left has zeros at the leading places
pub rest-leads : (ks : List Kept) (v : Ids) → AllPairs Clears ks → All Leads ks → (x : ℕ) → set_of (leads ks) x ≡ true → rest_of v ks x ≡ false
rest-leads [] v pairs ones x there = absurd (true≢false (sym there))
rest-leads (k ∷ ks) v pairs ones x there = ⊎_elim
    (λ (own : nat_eq x k.lead ≡ true).
    let same : x ≡ k.lead = eqb-true x k.lead own in
    ap (rest_of (after v k) ks) same
    ∙ kept-zero k.lead ks (after v k) (after-lead v k (All-head Leads k ks ones)) (pairs-first k ks pairs))
    (λ (other : set_of (leads ks) x ≡ true). rest-leads ks (after v k) (pairs-tail k ks pairs) (All-tail Leads k ks ones) x other)
    (or_cases (nat_eq x k.lead) (set_of (leads ks) x) there)

-- a place at which the kept rows have zeros is no leading place
apart : (x : ℕ) (ks : List Kept) → All (λ l. entry l.reduced x ≡ false) ks → All Leads ks → set_of (leads ks) x ≡ false
apart x [] zeros ones = refl
apart x (l ∷ ks) zeros ones =
    or_from (nat_eq x l.lead) (set_of (leads ks) x)
    (nat_eq-apart x l.lead
    (λ same. true≢false (sym (All-head Leads l ks ones) ∙ ap (entry l.reduced) (sym same) ∙ All-head (λ m. entry m.reduced x ≡ false) l ks zeros)))
    (apart x ks (All-tail (λ m. entry m.reduced x ≡ false) l ks zeros) (All-tail Leads l ks ones))

-- no leading place comes twice
pub leads-fresh : (ks : List Kept) → AllPairs Clears ks → All Leads ks → Fresh (leads ks)
leads-fresh [] pairs ones = tt
leads-fresh (k ∷ ks) pairs ones =
    let tail : All Leads ks = All-tail Leads k ks ones in
    (apart k.lead ks (pairs-first k ks pairs) tail, leads-fresh ks (pairs-tail k ks pairs) tail)

-- where r is v and the sum of some rows, and a row that is such a sum is added, the sum has its terms too
pub sum-step : (n : ℕ) (φ : ℕ → Ids) (v t r t' r' kt kr : Ids) (b : Bool) → plus v (image n φ t) ≡ r → kr ≡ image n φ kt
    → t' ≡ plus t (λ j. b && kt j) → r' ≡ plus r (λ q. b && kr q) → plus v (image n φ t') ≡ r'
sum-step n φ v t r t' r' kt kr b sum sound is is_r =
    ap (λ z. plus v (image n φ z)) is
    ∙ ap (plus v) (image-plus n φ t (when b kt))
    ∙ sym (plus-assoc v (image n φ t) (image n φ (when b kt)))
    ∙ (λ i. plus (sum i) ((image-when_set n φ b kt ∙ ap (when b) (sym sound)) i))
    ∙ sym is_r
