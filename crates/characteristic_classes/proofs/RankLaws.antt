-- Independent rows over the field with two elements are at most as many as their places.
--     Independent a b row     the first a rows, read below b, have no sum zero but the empty one
--     odd-out                 one term of a sum goes out, and the last takes its number
--     independent-few         so there are at most b of them
-- Source: Gauss elimination, one place after the other; any textbook of linear algebra.
use Rattle.std.proofs.Common.{◌≡◌, ℕ, zero, suc, ◌<◌, ◌≤◌, Bool, true, false, cond, not, ◌&&◌, ◌⊎◌, inl, inr, nat_eq, refl, sym, ap, ◌∙◌, arith, eqb-true, ⊎_elim}
use Rattle.std.proofs.lemmas.Bool.{true≢false, cases_eq}
use Rattle.homology.specs.Parity.{xor, odd}
use Rattle.homology.specs.Sets.{Ids}
use Rattle.homology.proofs.ParityLaws.{xor-false, xor-comm, xor-assoc, and-false, and-assoc, and-xor, nat_eq-self, nat_eq-apart, odd-same, odd-none, odd-xor, odd-one, odd-and_right}
use Rattle.characteristic_classes.proofs.SolvingLaws.{zero-or-place}

abbrev pub Independent : ℕ → ℕ → (ℕ → Ids) → Type 0
Independent a b row = (x : Ids) → ((l : ℕ) → l < b → odd a (λ j. x j && row j l) ≡ false) → (j : ℕ) → j < a → x j ≡ false

-- a number below a, with a in the place of i
abbrev moved : ℕ → ℕ → ℕ → ℕ
moved a i j = cond (nat_eq j i) a j

-- the other terms
abbrev others : ℕ → (ℕ → Bool) → ℕ → Bool
others i p j = not (nat_eq j i) && p j

odd-others : (a i : ℕ) (p : ℕ → Bool) (last : Bool) → i < a → odd a (λ j. cond (nat_eq j i) last (p j)) ≡ xor last (odd a (others i p))
odd-others a i p last lt =
    odd-same a (λ j. cond (nat_eq j i) last (p j)) (λ j. xor (nat_eq j i && last) (others i p j)) (λ j _. by (nat_eq j i) (p j))
    ∙ odd-xor a (λ j. nat_eq j i && last) (others i p)
    ∙ ap (λ b. xor b (odd a (others i p))) (odd-one a i (λ _. last) lt)
  where
    by : (b c : Bool) → cond b last c ≡ xor (b && last) (not b && c)
    by true c = sym (xor-false last)
    by false c = refl

pub odd-out : (a i : ℕ) (p : ℕ → Bool) → i < suc a → odd (suc a) p ≡ xor (p i) (odd a (λ j. p (moved a i j)))
odd-out a i p lt = ⊎_elim
    (λ (same : i ≡ a).
    (λ k. xor (p (sym same k)) (odd a p))
    ∙ ap (xor (p i)) (odd-same a p (λ j. p (moved a i j)) (λ j below. ap (λ b. p (cond b a j)) (sym (nat_eq-apart j i (λ e. omega (arith, e, same)))))))
    (λ (other : i ≡ a → ⊥).
    let less : i < a = omega (arith, other) in
    ap (xor (p a)) (whole less)
    ∙ turned (p a) (p i) (odd a (others i p))
    ∙ ap (xor (p i)) (sym (odd-others a i p (p a) less) ∙ odd-same a (λ j. cond (nat_eq j i) (p a) (p j)) (λ j. p (moved a i j)) (λ j _. by (nat_eq j i) j)))
    (cases_eq i a)
  where
    by : (b : Bool) (j : ℕ) → cond b (p a) (p j) ≡ p (cond b a j)
    by true j = refl
    by false j = refl

    turned : (x y z : Bool) → xor x (xor y z) ≡ xor y (xor x z)
    turned x y z = sym (xor-assoc x y z) ∙ ap (λ b. xor b z) (xor-comm x y) ∙ xor-assoc y x z

    whole : i < a → odd a p ≡ xor (p i) (odd a (others i p))
    whole less =
        odd-same a p (λ j. cond (nat_eq j i) (p i) (p j)) (λ j _. at j (nat_eq j i) refl) ∙ odd-others a i p (p i) less
      where
        at : (j : ℕ) (b : Bool) → nat_eq j i ≡ b → p j ≡ cond (nat_eq j i) (p i) (p j)
        at j true e = ap p (eqb-true j i e) ∙ ap (λ b. cond b (p i) (p j)) (sym e)
        at j false e = ap (λ b. cond b (p i) (p j)) (sym e)

-- no row has a 1 at the last place
independent-less : (a b : ℕ) (row : ℕ → Ids) → Independent a (suc b) row → ((j : ℕ) → j < a → row j b ≡ false) → Independent a b row
independent-less a b row free none x sums = free x (λ l lt. ⊎_elim
    (λ (same : l ≡ b). ap (λ m. odd a (λ j. x j && row j m)) same ∙ odd-none a (λ j. x j && row j b) (λ j below. ap (λ c. x j && c) (none j below) ∙ and-false (x j)))
    (λ (other : l ≡ b → ⊥). sums l (omega (arith, other)))
    (cases_eq l b))

-- the row i has one: it is added to the others that have one
module _ (a b : ℕ) (row : ℕ → Ids) (i : ℕ) (below : i < suc a) (one : row i b ≡ true) where
  abbrev cleared : ℕ → Ids
  cleared j = λ l. xor (row (moved a i j) l) (row (moved a i j) b && row i l)

  -- the sum of the rows at x, with the row i as often as it was added
  abbrev times_added : Ids → Bool
  times_added x = odd a (λ j. x j && row (moved a i j) b)

  abbrev with_row : Ids → Ids
  with_row x m = cond (nat_eq m i) (times_added x) (cond (nat_eq m a) (x i) (x m))

  with_row-own : (x : Ids) → with_row x i ≡ times_added x
  with_row-own x = ap (λ c. cond c (times_added x) (cond (nat_eq i a) (x i) (x i))) (nat_eq-self i)

  with_row-moved : (x : Ids) (j : ℕ) → j < a → with_row x (moved a i j) ≡ x j
  with_row-moved x j lt = at (nat_eq j i) refl
    where
      at : (c : Bool) → nat_eq j i ≡ c → with_row x (cond (nat_eq j i) a j) ≡ x j
      at true e =
          let same : j ≡ i = eqb-true j i e in
          ap (λ c. with_row x (cond c a j)) e
          ∙ ap (λ c. cond c (times_added x) (cond (nat_eq a a) (x i) (x a))) (nat_eq-apart a i (λ q. omega (arith, q, same, lt)))
          ∙ ap (λ c. cond c (x i) (x a)) (nat_eq-self a)
          ∙ ap x (sym same)
      at false e =
          ap (λ c. with_row x (cond c a j)) e
          ∙ ap (λ c. cond c (times_added x) (cond (nat_eq j a) (x i) (x j))) e
          ∙ ap (λ c. cond c (x i) (x j)) (nat_eq-apart j a (λ q. omega (arith, q, lt)))

  sum-whole : (x : Ids) (l : ℕ) → odd (suc a) (λ m. with_row x m && row m l) ≡ xor (times_added x && row i l) (odd a (λ j. x j && row (moved a i j) l))
  sum-whole x l =
      odd-out a i (λ m. with_row x m && row m l) below
      ∙ (λ k. xor (with_row-own x k && row i l) (odd-same a (λ j. with_row x (moved a i j) && row (moved a i j) l) (λ j. x j && row (moved a i j) l)
      (λ j lt. ap (λ c. c && row (moved a i j) l) (with_row-moved x j lt)) k))

  sum-cleared : (x : Ids) (l : ℕ) → odd a (λ j. x j && cleared j l) ≡ xor (odd a (λ j. x j && row (moved a i j) l)) (times_added x && row i l)
  sum-cleared x l =
      odd-same a (λ j. x j && cleared j l) (λ j. xor (x j && row (moved a i j) l) ((x j && row (moved a i j) b) && row i l))
      (λ j _. and-xor (x j) (row (moved a i j) l) (row (moved a i j) b && row i l) ∙ ap (xor (x j && row (moved a i j) l)) (sym (and-assoc (x j) (row (moved a i j) b) (row i l))))
      ∙ odd-xor a (λ j. x j && row (moved a i j) l) (λ j. (x j && row (moved a i j) b) && row i l)
      ∙ ap (xor (odd a (λ j. x j && row (moved a i j) l))) (odd-and_right a (λ j. x j && row (moved a i j) b) (row i l))

  independent-cleared : Independent (suc a) (suc b) row → Independent a b cleared
  independent-cleared free x sums j lt =
      sym (with_row-moved x j lt) ∙ free (with_row x) zero_sums (moved a i j) (moved-below (nat_eq j i))
    where
      moved-below : (c : Bool) → cond c a j < suc a
      moved-below true = omega arith
      moved-below false = omega arith

      zero_sums : (l : ℕ) → l < suc b → odd (suc a) (λ m. with_row x m && row m l) ≡ false
      zero_sums l below_b = sum-whole x l ∙ ⊎_elim
          (λ (same : l ≡ b).
          ap (λ m. xor (times_added x && row i m) (odd a (λ k. x k && row (moved a i k) m))) same
          ∙ ap (λ c. xor (times_added x && c) (times_added x)) one
          ∙ both (times_added x))
          (λ (other : l ≡ b → ⊥).
          xor-comm (times_added x && row i l) (odd a (λ k. x k && row (moved a i k) l)) ∙ sym (sum-cleared x l) ∙ sums l (omega (arith, other)))
          (cases_eq l b)
        where
          both : (c : Bool) → xor (c && true) c ≡ false
          both true = refl
          both false = refl

pub independent-few : (b a : ℕ) (row : ℕ → Ids) → Independent a b row → a ≤ b
independent-few zero zero row free = omega arith
independent-few zero (suc a) row free = absurd (true≢false (free (λ _. true) (λ l lt. absurd (omega arith)) 0 (omega arith)))
independent-few (suc b) zero row free = omega arith
independent-few (suc b) (suc a) row free =
    at (λ r f. independent-few b (suc a) r f) (λ r f. independent-few b a r f) (zero-or-place (suc a) (λ j. row j b))
  where
    at : ((r : ℕ → Ids) → Independent (suc a) b r → suc a ≤ b) → ((r : ℕ → Ids) → Independent a b r → a ≤ b)
        → ((j : ℕ) → j < suc a → row j b ≡ false) ⊎ ((j : ℕ) × (j < suc a) × (row j b ≡ true)) → suc a ≤ suc b
    at all fewer (inl none) = omega (arith, all row (independent-less (suc a) b row free none))
    at all fewer (inr some) = omega (arith, fewer (cleared a b row some.0 some.1 some.2) (independent-cleared a b row some.0 some.1 some.2 free))
