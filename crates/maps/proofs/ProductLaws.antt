-- Products, squares and classes of cochains that are pulled back.
--     weigh-map                    splittings of a list of images are the images of splittings
--     weigh-repeats                two equal neighbours lie together in one list of each splitting: where a test fails at lists that repeat, so does its sum
--     cup-pull, square-pull        the product of two pulls, and the square of one
--     pull-cocycle, pull-cohomologous, pull-class     cocycles and their classes
use Rattle.std.proofs.Common.{◌≡◌, ℕ, zero, suc, ◌+◌, ◌-◌, ◌<◌, ◌≤◌, Bool, true, false, cond, ◌&&◌, not, List, [], ◌∷◌, map, length, nat_lt, refl, sym, ap, ◌∙◌, arith, ⊎_elim, inl, inr, ◌⊎◌}
use Rattle.std.proofs.lemmas.Bool.{and_left, and_right, cases_lt}
use Rattle.homology.specs.Parity.{xor}
use Rattle.homology.specs.Sets.{Ids, empty, plus}
use Rattle.homology.specs.Complexes.{Complex, simplex_at, IsComplex}
use Rattle.homology.specs.Chains.{IsCocycle, AreCohomologous}
use Rattle.homology.proofs.ParityLaws.{odd-none, and-false}
use Rattle.homology.proofs.SetLaws.{same_members}
use Rattle.homology.proofs.FaceLists.{Picks}
use Rattle.cohomology.specs.Classes.{class_of}
use Rattle.products.specs.Products.{value_at, cup}
use Rattle.products.proofs.SplittingLaws.{Test, put, put_both, weigh, lower, weigh-step, weigh-same, weigh-none}
use Rattle.products.proofs.HalfLaws.{meets}
use Rattle.products.proofs.ValueLaws.{Found, value_at-there, value_at-empty, picks-found}
use Rattle.products.proofs.CoboundaryLaw.{cup-weigh, cup-outside}
use Rattle.cohomology_operations.specs.Squares.{square}
use Rattle.cohomology_operations.proofs.ChangeLaws.{cocycle-closed}
use Rattle.cohomology_operations.proofs.ClassLaws.{Lowers, Bounded, difference-bounded, cohomologous-plus, class-cohomologous, cohomologous-class}
use Rattle.maps.specs.Maps.{IsMap, pull}
use Rattle.maps.proofs.ImageLaws.{Repeats}
use Rattle.maps.proofs.PullLaws.{map-length, repeats-more, repeats-none, pull-plus, pull-outside, images, pull-value, image-cases, coboundary-pull, pull-within, pull-source, pull-chain}

-- a test of images
abbrev after : (ℕ → ℕ) → Test → Test
after m W = λ p q. W (map m p) (map m q)

put-after : (first : Bool) (m : ℕ → ℕ) (v : ℕ) (W : Test) → after m (put first (m v) W) ≡ put first v (after m W)
put-after true m v W = refl
put-after false m v W = refl

pub weigh-map : (k : ℕ) (first : Bool) (m : ℕ → ℕ) (s : List ℕ) (W : Test) → weigh k first (map m s) W ≡ weigh k first s (after m W)
weigh-map zero first m [] W = refl
weigh-map (suc k) first m [] W = refl
weigh-map zero first m (v ∷ s) W = weigh-map zero first m s (put first (m v) W) ∙ ap (weigh zero first s) (put-after first m v W)
weigh-map (suc k) first m (v ∷ s) W = λ i. xor
    (weigh-map k (not first) m s (put_both (m v) W) i)
    ((weigh-map (suc k) first m s (put first (m v) W) ∙ ap (weigh (suc k) first s) (put-after first m v W)) i)

-- a test that fails wherever v is put into one list, or both
front-none : (k : ℕ) (first : Bool) (v : ℕ) (s : List ℕ) (W : Test) → ((p q : List ℕ) → W (v ∷ p) (v ∷ q) ≡ false)
    → ((p q : List ℕ) → put first v W p q ≡ false) → weigh k first (v ∷ s) W ≡ false
front-none k first v s W both one =
    weigh-step k first v s W
    ∙ λ i. xor (lower-none k i) (weigh-none k first s (put first v W) (λ p q P Q. one p q) i)
  where
    lower-none : (k : ℕ) → lower k (not first) s (put_both v W) ≡ false
    lower-none zero = refl
    lower-none (suc k) = weigh-none k (not first) s (put_both v W) (λ p q P Q. both p q)

-- a test that fails where one of the lists repeats
abbrev Strict : Test → Type 0
Strict W = (p q : List ℕ) → Repeats p ⊎ Repeats q → W p q ≡ false

-- with one vertex more in front of one list or both it is again one
strict-put : (first : Bool) (v : ℕ) (W : Test) → Strict W → Strict (put first v W)
strict-put true v W none p q h = none (v ∷ p) q (⊎_elim
    (λ (l : Repeats p). inl (repeats-more v p l)) (λ (r : Repeats q). inr r) h)
strict-put false v W none p q h = none p (v ∷ q) (⊎_elim
    (λ (l : Repeats p). inl l) (λ (r : Repeats q). inr (repeats-more v q r)) h)

strict-both : (v : ℕ) (W : Test) → Strict W → Strict (put_both v W)
strict-both v W none p q h = none (v ∷ p) (v ∷ q) (⊎_elim
    (λ (l : Repeats p). inl (repeats-more v p l)) (λ (r : Repeats q). inr (repeats-more v q r)) h)

-- two equal vertices in front: where the first is shared the second stands beside it in one of the lists; where it is single the
-- second follows it to its side
front-equal : (k : ℕ) (first : Bool) (u v : ℕ) (s : List ℕ) (W : Test) → Strict W → u ≡ v → weigh k first (u ∷ v ∷ s) W ≡ false
front-equal k first u v s W none same =
    weigh-step k first u (v ∷ s) W
    ∙ λ i. xor (shared k i)
    (front-none k first v s (put first u W) (λ p q. single first p q) (λ p q. single_twice first p q) i)
  where
    beside : (side : Bool) (p q : List ℕ) → put side v (put_both u W) p q ≡ false
    beside true p q = none (u ∷ v ∷ p) (u ∷ q) (inl (inl same))
    beside false p q = none (u ∷ p) (u ∷ v ∷ q) (inr (inl same))

    shared : (k : ℕ) → lower k (not first) (v ∷ s) (put_both u W) ≡ false
    shared zero = refl
    shared (suc k) = front-none k (not first) v s (put_both u W)
        (λ p q. none (u ∷ v ∷ p) (u ∷ v ∷ q) (inl (inl same))) (λ p q. beside (not first) p q)

    single : (side : Bool) (p q : List ℕ) → put side u W (v ∷ p) (v ∷ q) ≡ false
    single true p q = none (u ∷ v ∷ p) (v ∷ q) (inl (inl same))
    single false p q = none (v ∷ p) (u ∷ v ∷ q) (inr (inl same))

    single_twice : (side : Bool) (p q : List ℕ) → put side v (put side u W) p q ≡ false
    single_twice true p q = none (u ∷ v ∷ p) q (inl (inl same))
    single_twice false p q = none p (u ∷ v ∷ q) (inr (inl same))

pub weigh-repeats : (k : ℕ) (first : Bool) (us : List ℕ) (W : Test) → Strict W → Repeats us → weigh k first us W ≡ false
weigh-repeats k first [] W none p = absurd p
weigh-repeats k first (u ∷ []) W none p = absurd p
weigh-repeats zero first (u ∷ v ∷ s) W none p = ⊎_elim
    (λ (same : u ≡ v). front-equal zero first u v s W none same)
    (λ (later : Repeats (v ∷ s)). weigh-repeats zero first (v ∷ s) (put first u W) (strict-put first u W none) later)
    p
weigh-repeats (suc k) first (u ∷ v ∷ s) W none p = ⊎_elim
    (λ (same : u ≡ v). front-equal (suc k) first u v s W none same)
    (λ (later : Repeats (v ∷ s)). λ i. xor
    (weigh-repeats k (not first) (v ∷ s) (put_both u W) (strict-both u W none) later i)
    (weigh-repeats (suc k) first (v ∷ s) (put first u W) (strict-put first u W none) later i))
    p

module _ (K A : Complex) (k : IsComplex K) (a : IsComplex A) (m : ℕ → ℕ) (M : IsMap K A m) where
  -- the value at a sublist of a simplex is that at its images
  value_at-pull : (b : Ids) (x : ℕ) (p : List ℕ) → x < length K → Picks p (simplex_at K x) → value_at K (pull K A m b) p ≡ value_at A b (map m p)
  value_at-pull b x [] lt P = value_at-empty K k (pull K A m b) ∙ sym (value_at-empty A a b)
  value_at-pull b x (v ∷ p) lt P =
      let found : Found K (v ∷ p) = picks-found K k x (v ∷ p) lt P (omega arith) in
      ap (value_at K (pull K A m b)) (sym found.is)
      ∙ value_at-there K k (pull K A m b) found.id found.within
      ∙ pull-value K A k a m M b found.id found.within
      ∙ ap (λ s. value_at A b (map m s)) found.is

  -- at the images a product is the sum over their splittings, also where they repeat
  cup-images : (i : ℕ) (b c : Ids) (x : ℕ) → x < length K
      → value_at A (cup A i b c) (images K A k a m M x) ≡ weigh (suc i) true (images K A k a m M x) (meets (value_at A b) (value_at A c))
  cup-images i b c x lt = ⊎_elim
      (λ (found : Found A (images K A k a m M x)).
      ap (value_at A (cup A i b c)) (sym found.is)
      ∙ value_at-there A a (cup A i b c) found.id found.within
      ∙ cup-weigh A i b c found.id
      ∙ ap (λ s. weigh (suc i) true s (meets (value_at A b) (value_at A c))) found.is)
      (λ (twice : Repeats (images K A k a m M x)).
      repeats-none A a (cup A i b c) (images K A k a m M x) twice
      ∙ sym (weigh-repeats (suc i) true (images K A k a m M x) (meets (value_at A b) (value_at A c)) strict twice))
      (image-cases K A k a m M x lt)
    where
      strict : (p q : List ℕ) → Repeats p ⊎ Repeats q → (value_at A b p && value_at A c q) ≡ false
      strict p q h = ⊎_elim
          (λ (l : Repeats p). and_left (value_at A b p) (value_at A c q) (repeats-none A a b p l))
          (λ (r : Repeats q). and_right (value_at A b p) (value_at A c q) (repeats-none A a c q r))
          h

  cup-pull_inside : (i : ℕ) (b c : Ids) (x : ℕ) → x < length K → cup K i (pull K A m b) (pull K A m c) x ≡ pull K A m (cup A i b c) x
  cup-pull_inside i b c x lt =
      cup-weigh K i (pull K A m b) (pull K A m c) x
      ∙ weigh-same (suc i) true (simplex_at K x) (meets (value_at K (pull K A m b)) (value_at K (pull K A m c)))
      (after m (meets (value_at A b) (value_at A c)))
      (λ p q P Q. λ j. value_at-pull b x p lt P j && value_at-pull c x q lt Q j)
      ∙ sym (weigh-map (suc i) true m (simplex_at K x) (meets (value_at A b) (value_at A c)))
      ∙ sym (cup-images i b c x lt)
      ∙ sym (pull-value K A k a m M (cup A i b c) x lt)

  pub cup-pull : (i : ℕ) (b c : Ids) → cup K i (pull K A m b) (pull K A m c) ≡ pull K A m (cup A i b c)
  cup-pull i b c = same_members (cup K i (pull K A m b) (pull K A m c)) (pull K A m (cup A i b c)) (λ x. ⊎_elim
      (λ (lt : x < length K). cup-pull_inside i b c x lt)
      (λ (le : length K ≤ x). cup-outside K i (pull K A m b) (pull K A m c) x le ∙ sym (pull-outside K A m (cup A i b c) x le))
      (cases_lt x (length K)))

  pub pull-empty : pull K A m empty ≡ empty
  unfolding pull
  pull-empty = same_members (pull K A m empty) empty (λ x.
      ap (λ t. nat_lt x (length K) && t) (odd-none (length A) _ (λ t _. refl)) ∙ and-false (nat_lt x (length K)))

  pub square-pull : (e p : ℕ) (b : Ids) → square K e p (pull K A m b) ≡ pull K A m (square A e p b)
  square-pull e p b = at (nat_lt p e)
    where
      at : (t : Bool) → cond t empty (cup K (p - e) (pull K A m b) (pull K A m b)) ≡ pull K A m (cond t empty (cup A (p - e) b b))
      at true = sym pull-empty
      at false = cup-pull (p - e) b b

  pub pull-cocycle : (p : ℕ) (b : Ids) → IsCocycle A p b → IsCocycle K p (pull K A m b)
  pull-cocycle p b B = record {
    cochain = pull-chain K A k a m M p b B.cochain;
    closed = λ x lt. ap (λ z. z x) (coboundary-pull K A k a m M b ∙ ap (pull K A m) (cocycle-closed A p b B) ∙ pull-empty);
  }

  pull-lowers : (n : ℕ) (w : Ids) → Lowers A n w → Lowers K n (pull K A m w)
  pull-lowers n w low x e =
      let s = pull-source K A k a m M w x e in
      let long : length (simplex_at A s.0) ≡ length (simplex_at K x) = ap length s.2 ∙ map-length m (simplex_at K x) in
      (pull-within K A k a m M w x e, ap (λ n. n - 1 + 1) (sym long) ∙ (low s.0 s.3).1)

  pub pull-cohomologous : (p : ℕ) (b c : Ids) → AreCohomologous A p b c → AreCohomologous K p (pull K A m b) (pull K A m c)
  pull-cohomologous p b c E =
      let u : Bounded A p (plus b c) = difference-bounded A a p b c E in
      cohomologous-plus K k p (pull K A m b) (pull K A m c) (pull K A m u.by)
      (pull-cocycle p b E.first) (pull-cocycle p c E.second) (pull-lowers p u.by u.lowers)
      (sym (pull-plus K A m b c) ∙ ap (pull K A m) u.is ∙ sym (coboundary-pull K A k a m M u.by))

  pub pull-class : (p : ℕ) (b c : Ids) → IsCocycle A p b → IsCocycle A p c → class_of A p b ≡ class_of A p c
      → class_of K p (pull K A m b) ≡ class_of K p (pull K A m c)
  pull-class p b c B C e =
      class-cohomologous K k p (pull K A m b) (pull K A m c) (pull-cohomologous p b c (cohomologous-class A a p b c B C e))
