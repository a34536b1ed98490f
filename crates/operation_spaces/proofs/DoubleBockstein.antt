-- The Bockstein of a Bockstein is a coboundary.
--     total even A s          the sum of whole numbers A over s without each even, or each odd, place
--     total-twice             two vertices left out, in both orders: the terms with the sign plus are those with the sign minus
--     fold K a t              the coboundary of a at t with signs, halved: a whole number modulo 8 for the signed sum, so 7 stands for -1
--     rest K a                the cochain of its second binary digit; its first is the Bockstein
--     bockstein-twice         the Bockstein of the Bockstein is the coboundary of that cochain
-- The whole coboundary of the half is zero, and the half is the Bockstein, with values 0 and 1, and twice the rest. So the signed
-- coboundary of the Bockstein is twice that of the rest, up to its sign.
use Rattle.std.proofs.Common.{◌≡◌, ℕ, zero, suc, ◌+◌, ◌-◌, ◌*◌, ◌/◌, ◌%◌, ◌<◌, ◌≤◌, Bool, true, false, cond, ◌&&◌, not, List, [], ◌∷◌, length, nat_eq, nat_lt, refl, sym, ap, ◌∙◌, subst, arith, eqb-true, eq-eqb, lt-ltb, ltb-true, ⊎_elim, inl, inr}
use Rattle.std.proofs.lemmas.Bool.{true≢false, and_parts, false_from_ne_true, cases_Bool, cases_lt, cases_eq}
use Rattle.homology.specs.Parity.{xor}
use Rattle.homology.specs.Sets.{Ids}
use Rattle.homology.specs.Complexes.{Complex, simplex_at, dim, IsComplex}
use Rattle.homology.specs.Chains.{IsCocycle, IsCoboundary, coboundary}
use Rattle.homology.proofs.ParityLaws.{nat_eq-apart}
use Rattle.homology.proofs.SetLaws.{same_members}
use Rattle.homology.proofs.FaceLists.{Picks, Picks-self, Picks-skip}
use Rattle.products.specs.Products.{value_at}
use Rattle.products.proofs.SplittingLaws.{delta}
use Rattle.products.proofs.ValueLaws.{Found, value_at-there, value_at-empty, picks-found, value_at-coboundary}
use Rattle.products.proofs.CoboundaryLaw.{coboundary-outside, value_at-length}
use Rattle.cohomology_operations.specs.Bocksteins.{difference, faces_with, bockstein}
use Rattle.cohomology_operations.proofs.CountLaws.{parity, parity-sum, one, number, odd_number, odd_number-both, faces_with-number}
use Rattle.cohomology_operations.proofs.ClassLaws.{Lowers, bounds}
use Rattle.cohomology_operations.proofs.BocksteinLaws.{bockstein-outside, faces-even}

abbrev total : Bool → (List ℕ → ℕ) → List ℕ → ℕ
total even A [] = 0
total even A (v ∷ s) = cond even (A s) 0 + total (not even) (λ t. A (v ∷ t)) s

total-same : (even : Bool) (A B : List ℕ → ℕ) (s : List ℕ) → ((t : List ℕ) → Picks t s → A t ≡ B t) → total even A s ≡ total even B s
total-same even A B [] e = refl
total-same even A B (v ∷ s) e = λ i.
    cond even (e s (Picks-skip s s v (Picks-self s)) i) 0
    + total-same (not even) (λ t. A (v ∷ t)) (λ t. B (v ∷ t)) s (λ t P. e (v ∷ t) (inl (refl, P))) i

total-plus : (even : Bool) (A B : List ℕ → ℕ) (s : List ℕ) → total even (λ t. A t + B t) s ≡ total even A s + total even B s
total-plus even A B [] = refl
total-plus true A B (v ∷ s) = omega (arith, total-plus false (λ t. A (v ∷ t)) (λ t. B (v ∷ t)) s)
total-plus false A B (v ∷ s) = omega (arith, total-plus true (λ t. A (v ∷ t)) (λ t. B (v ∷ t)) s)

total-double : (even : Bool) (A : List ℕ → ℕ) (s : List ℕ) → total even (λ t. 2 * A t) s ≡ 2 * total even A s
total-double even A [] = refl
total-double true A (v ∷ s) = omega (arith, total-double false (λ t. A (v ∷ t)) s)
total-double false A (v ∷ s) = omega (arith, total-double true (λ t. A (v ∷ t)) s)

total-seven : (even : Bool) (A : List ℕ → ℕ) (s : List ℕ) → total even (λ t. 7 * A t) s ≡ 7 * total even A s
total-seven even A [] = refl
total-seven true A (v ∷ s) = omega (arith, total-seven false (λ t. A (v ∷ t)) s)
total-seven false A (v ∷ s) = omega (arith, total-seven true (λ t. A (v ∷ t)) s)

-- the new vertex left out first, last, or not at all
module _ (A : List ℕ → ℕ) (v : ℕ) (s : List ℕ) where
  abbrev behind : List ℕ → ℕ
  behind t = A (v ∷ t)

  even_even : total true (total true A) (v ∷ s) ≡ total true A s + (total false A s + total false (total false behind) s)
  even_even = ap (λ n. total true A s + n) (total-plus false A (total false behind) s)

  odd_odd : total false (total false A) (v ∷ s) ≡ total true (total true behind) s
  odd_odd =
      let rest : total true (λ t. 0 + total true behind t) s ≡ total true (total true behind) s =
      total-same true (λ t. 0 + total true behind t) (total true behind) s (λ t P. omega arith) in
      omega (arith, rest)

  even_odd : total true (total false A) (v ∷ s) ≡ total false A s + total false (total true behind) s
  even_odd = ap (λ n. total false A s + n) (total-same false (λ t. 0 + total true behind t) (total true behind) s (λ t P. omega arith))

  odd_even : total false (total true A) (v ∷ s) ≡ total true A s + total true (total false behind) s
  odd_even =
      let rest : total true (λ t. A t + total false behind t) s ≡ total true A s + total true (total false behind) s =
      total-plus true A (total false behind) s in
      omega (arith, rest)

total-twice : (A : List ℕ → ℕ) (s : List ℕ)
    → total true (total true A) s + total false (total false A) s ≡ total true (total false A) s + total false (total true A) s
total-twice A [] = refl
total-twice A (v ∷ s) =
    omega (arith, even_even A v s, odd_odd A v s, even_odd A v s, odd_even A v s, total-twice (λ t. A (v ∷ t)) s)

number-total : (even : Bool) (V : List ℕ → Bool) (s : List ℕ) → number even V s ≡ total even (λ t. one (V t)) s
number-total even V [] = refl
number-total even V (v ∷ s) = ap (λ n. cond even (one (V s)) 0 + n) (number-total (not even) (λ t. V (v ∷ t)) s)

-- of faces that are all zero
number-none : (even : Bool) (V : List ℕ → Bool) (s : List ℕ) → ((t : List ℕ) → length t + 1 ≡ length s → V t ≡ false) → number even V s ≡ 0
number-none even V [] none = refl
number-none even V (v ∷ s) none =
    (λ i. cond even (one (none s (omega arith) i)) 0 + number-none (not even) (λ t. V (v ∷ t)) s (λ t e. none (v ∷ t) (omega (arith, e))) i)
    ∙ nothing even
  where
    nothing : (even : Bool) → cond even 0 0 + 0 ≡ 0
    nothing true = refl
    nothing false = refl

-- the parity of a total is the sum of the parities
total-parity : (even : Bool) (C : List ℕ → ℕ) (s : List ℕ) → parity (total even C s) ≡ odd_number even (λ t. parity (C t)) s
total-parity even C [] = refl
total-parity even C (v ∷ s) =
    sym (parity-sum (cond even (C s) 0) (total (not even) (λ t. C (v ∷ t)) s))
    ∙ λ i. xor (first even i) (total-parity (not even) (λ t. C (v ∷ t)) s i)
  where
    first : (even : Bool) → parity (cond even (C s) 0) ≡ (even && parity (C s))
    first true = refl
    first false = refl

delta-same : (F G : List ℕ → Bool) (s : List ℕ) → ((t : List ℕ) → Picks t s → F t ≡ G t) → delta F s ≡ delta G s
delta-same F G [] e = refl
delta-same F G (v ∷ s) e = λ i. xor
    (e s (Picks-skip s s v (Picks-self s)) i)
    (delta-same (λ t. F (v ∷ t)) (λ t. G (v ∷ t)) s (λ t P. e (v ∷ t) (inl (refl, P))) i)

-- whole numbers: an even difference and its half, a number by its first binary digit, and what the signed sums come to
signed-even : (m n : ℕ) → difference m n % 2 ≡ 0 → m + 7 * n ≡ 2 * ((m + 7 * n) / 2)
signed-even m n e = omega (arith, e)

signed-half : (m n : ℕ) → difference m n % 2 ≡ 0 → (difference m n / 2) % 2 ≡ ((m + 7 * n) / 2) % 2
signed-half m n e = omega (arith, e)

digits : (n : ℕ) → n ≡ one (parity n) + 2 * (n / 2)
digits n = ⊎_elim
    (λ (odd : parity n ≡ true). omega (arith, eqb-true (n % 2) 1 odd, ap one odd))
    (λ (even : parity n ≡ false).
    let rest : n % 2 ≡ 0 = omega (arith, λ (q : n % 2 ≡ 1). true≢false (sym (eq-eqb (n % 2) 1 q) ∙ even)) in
    omega (arith, rest, ap one even))
    (cases_Bool (parity n))

last-half : (m n j k w : ℕ) → m + 2 * j + 7 * (n + 2 * k) ≡ 4 * w → (difference m n / 2) % 2 ≡ (j + k) % 2
last-half m n j k w e = omega (arith, e)

four : (tt tf ft ff th fh : ℕ) → tt + ff ≡ tf + ft → tt + 7 * tf ≡ 2 * th → ft + 7 * ff ≡ 2 * fh → th + 7 * fh ≡ 4 * (tf + ft + 6 * ff)
four tt tf ft ff th fh e f g = omega (arith, e, f, g)

module _ (K : Complex) (ok : IsComplex K) (p : ℕ) (a : Ids) (A : IsCocycle K p a) where
  abbrev V : List ℕ → Bool
  V = value_at K a

  abbrev signed : List ℕ → ℕ
  signed t = number true V t + 7 * number false V t

  abbrev fold : List ℕ → ℕ
  fold t = signed t / 2

  abbrev carry : List ℕ → ℕ
  carry t = fold t / 2

  abbrev rest : Ids
  rest y = nat_lt y (length K) && parity (carry (simplex_at K y))

  differ-even : (y : ℕ) → y < length K → difference (number true V (simplex_at K y)) (number false V (simplex_at K y)) % 2 ≡ 0
  differ-even y lt =
      sym (λ i. difference (faces_with-number true V (simplex_at K y) i) (faces_with-number false V (simplex_at K y) i) % 2)
      ∙ faces-even K ok a y lt (A.closed y lt)

  bockstein-is : (b : Ids) (y : ℕ)
      → bockstein K b y ≡ parity (difference (number true (value_at K b) (simplex_at K y)) (number false (value_at K b) (simplex_at K y)) / 2)
  unfolding bockstein
  bockstein-is b y = λ i. parity (difference
      (faces_with-number true (value_at K b) (simplex_at K y) i)
      (faces_with-number false (value_at K b) (simplex_at K y) i) / 2)

  -- at the faces of a simplex x, and their faces
  module _ (x : ℕ) (lt : x < length K) where
    signed-fold : (t : List ℕ) → Picks t (simplex_at K x) → signed t ≡ 2 * fold t
    signed-fold [] P = refl
    signed-fold (v ∷ t) P =
        let found : Found K (v ∷ t) = picks-found K ok x (v ∷ t) lt P (omega arith) in
        subst (λ s. signed s ≡ 2 * fold s) found.is
        (signed-even (number true V (simplex_at K found.id)) (number false V (simplex_at K found.id)) (differ-even found.id found.within))

    bockstein-fold : (t : List ℕ) → Picks t (simplex_at K x) → value_at K (bockstein K a) t ≡ parity (fold t)
    bockstein-fold [] P = value_at-empty K ok (bockstein K a)
    bockstein-fold (v ∷ t) P =
        let found : Found K (v ∷ t) = picks-found K ok x (v ∷ t) lt P (omega arith) in
        ap (value_at K (bockstein K a)) (sym found.is)
        ∙ value_at-there K ok (bockstein K a) found.id found.within
        ∙ bockstein-is a found.id
        ∙ ap (λ n. nat_eq n 1)
        (signed-half (number true V (simplex_at K found.id)) (number false V (simplex_at K found.id)) (differ-even found.id found.within))
        ∙ ap (λ s. parity (fold s)) found.is

    rest-value : (t : List ℕ) → Picks t (simplex_at K x) → value_at K rest t ≡ parity (carry t)
    rest-value [] P = value_at-empty K ok rest
    rest-value (v ∷ t) P =
        let found : Found K (v ∷ t) = picks-found K ok x (v ∷ t) lt P (omega arith) in
        ap (value_at K rest) (sym found.is)
        ∙ value_at-there K ok rest found.id found.within
        ∙ ap (λ b. b && parity (carry (simplex_at K found.id))) (lt-ltb found.id (length K) found.within)
        ∙ ap (λ s. parity (carry s)) found.is

    abbrev s : List ℕ
    s = simplex_at K x

    -- the half is the Bockstein and twice the rest
    fold-digits : (even : Bool) → total even fold s ≡ number even (value_at K (bockstein K a)) s + 2 * total even carry s
    fold-digits even =
        total-same even fold (λ t. one (value_at K (bockstein K a) t) + 2 * carry t) s
        (λ t P. digits (fold t) ∙ ap (λ b. one b + 2 * carry t) (sym (bockstein-fold t P)))
        ∙ total-plus even (λ t. one (value_at K (bockstein K a) t)) (λ t. 2 * carry t) s
        ∙ λ i. sym (number-total even (value_at K (bockstein K a)) s) i + total-double even carry s i

    -- and twice the half is the signed sum
    fold-signed : (even : Bool) → total even (number true V) s + 7 * total even (number false V) s ≡ 2 * total even fold s
    fold-signed even =
        sym (total-plus even (number true V) (λ t. 7 * number false V t) s ∙ ap (λ n. total even (number true V) s + n) (total-seven even (number false V) s))
        ∙ total-same even signed (λ t. 2 * fold t) s signed-fold
        ∙ total-double even fold s

    numbers-twice : total true (number true V) s + total false (number false V) s ≡ total true (number false V) s + total false (number true V) s
    numbers-twice =
        (λ i. total true (λ t. number-total true V t i) s + total false (λ t. number-total false V t i) s)
        ∙ total-twice (λ t. one (V t)) s
        ∙ sym (λ i. total true (λ t. number-total false V t i) s + total false (λ t. number-total true V t i) s)

    halves : (difference (number true (value_at K (bockstein K a)) s) (number false (value_at K (bockstein K a)) s) / 2) % 2
        ≡ (total true carry s + total false carry s) % 2
    halves = last-half
        (number true (value_at K (bockstein K a)) s) (number false (value_at K (bockstein K a)) s) (total true carry s) (total false carry s)
        (total true (number false V) s + total false (number true V) s + 6 * total false (number false V) s)
        (sym (λ i. fold-digits true i + 7 * fold-digits false i)
        ∙ four (total true (number true V) s) (total true (number false V) s) (total false (number true V) s) (total false (number false V) s)
        (total true fold s) (total false fold s) numbers-twice (fold-signed true) (fold-signed false))

    carries : parity (total true carry s + total false carry s) ≡ coboundary K rest x
    carries =
        sym (parity-sum (total true carry s) (total false carry s))
        ∙ (λ i. xor (total-parity true carry s i) (total-parity false carry s i))
        ∙ odd_number-both (λ t. parity (carry t)) s
        ∙ sym (delta-same (value_at K rest) (λ t. parity (carry t)) s rest-value)
        ∙ sym (value_at-coboundary K ok rest x s lt (Picks-self s))
        ∙ value_at-there K ok (coboundary K rest) x lt

    twice-inside : bockstein K (bockstein K a) x ≡ coboundary K rest x
    twice-inside = bockstein-is (bockstein K a) x ∙ ap (λ n. nat_eq n 1) halves ∙ carries

  twice-is : bockstein K (bockstein K a) ≡ coboundary K rest
  twice-is = same_members (bockstein K (bockstein K a)) (coboundary K rest) (λ x. ⊎_elim
      (λ (lt : x < length K). twice-inside x lt)
      (λ (le : length K ≤ x). bockstein-outside K (bockstein K a) x le ∙ sym (coboundary-outside K rest x le))
      (cases_lt x (length K)))

  -- a simplex of another dimension has no face in a
  rest-lowers : Lowers K (p + 1 + 1) rest
  rest-lowers y m = ⊎_elim
      (λ (long : length (simplex_at K y) ≡ p + 2). (ltb-true y (length K) both.0, omega (arith, long)))
      (λ (other : length (simplex_at K y) ≡ p + 2 → ⊥). absurd (true≢false (sym both.1 ∙ none other)))
      (cases_eq (length (simplex_at K y)) (p + 2))
    where
      both : (nat_lt y (length K) ≡ true) × (parity (carry (simplex_at K y)) ≡ true)
      both = and_parts (nat_lt y (length K)) (parity (carry (simplex_at K y))) m

      zero_face : (length (simplex_at K y) ≡ p + 2 → ⊥) → (t : List ℕ) → length t + 1 ≡ length (simplex_at K y) → V t ≡ false
      zero_face other t e = false_from_ne_true (V t) (λ one_there.
          other (omega (arith, e, value_at-length K ok p a A.cochain t one_there)))

      none : (length (simplex_at K y) ≡ p + 2 → ⊥) → parity (carry (simplex_at K y)) ≡ false
      none other = λ i. parity
          ((number-none true V (simplex_at K y) (zero_face other) i + 7 * number-none false V (simplex_at K y) (zero_face other) i) / 2 / 2)

  pub bockstein-twice : IsCoboundary K (p + 1 + 1) (bockstein K (bockstein K a))
  bockstein-twice = bounds K (p + 1 + 1) rest (bockstein K (bockstein K a)) rest-lowers twice-is
