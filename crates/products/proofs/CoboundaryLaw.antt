-- Laws of cup-i products in a complex.
--     cup-weigh                     the product at x is the sum over the splittings of x
--     cup-outside, cup-plus_left, cup-plus_right
--                                   it is zero where there is no simplex, and additive in each factor
--     cup-degree                    degrees add up, less i
--     splittings-some, splittings-none
--                                   the law of splittings, for two functions of lists
--     coboundary-cup                the coboundary of a product
use Rattle.std.proofs.Common.{◌≡◌, ℕ, zero, suc, ◌+◌, ◌<◌, ◌≤◌, Bool, true, false, ◌&&◌, not, List, [], ◌∷◌, length, refl, sym, ap, ◌∙◌, arith, ⊎_elim, inl, inr, ◌⊎◌}
use Rattle.std.proofs.lemmas.Bool.{true≢false, and_parts, cases_lt}
use Rattle.std.proofs.lemmas.List.{get_or_past}
use Rattle.homology.specs.Parity.{xor}
use Rattle.homology.specs.Sets.{Ids, plus}
use Rattle.homology.specs.Complexes.{Complex, simplex_at, dim, incidence, IsComplex}
use Rattle.homology.specs.Chains.{coboundary, IsChain}
use Rattle.homology.proofs.ParityLaws.{and-comm, and-false, and-xor, xor-and, odd-same, odd-none}
use Rattle.homology.proofs.BoundaryLaws.{incidence-is, incidence_of}
use Rattle.homology.proofs.SetLaws.{same_members}
use Rattle.products.specs.Products.{odd_of, value_at, cup, cup_below}
use Rattle.products.specs.Splittings.{splittings, over_faces}
use Rattle.products.proofs.TruthTables.{by_table}
use Rattle.products.proofs.SplittingLaws.{Test, sum, put, put_both, each, weigh, weigh-splittings, weigh-xor, weigh-same, weigh-flip, weigh-zero, delta, weigh-delta}
use Rattle.products.proofs.HalfLaws.{meets, product_at-weigh}
use Rattle.products.proofs.ValueLaws.{value_at-plus, value_at-empty, value_at-found, value_at-coboundary, delta-odd, faces-delta}

pub cup-weigh : (K : Complex) (i : ℕ) (a b : Ids) (x : ℕ)
    → cup K i a b x ≡ weigh (suc i) true (simplex_at K x) (meets (value_at K a) (value_at K b))
unfolding cup
cup-weigh K i a b x = product_at-weigh i (value_at K a) (value_at K b) (simplex_at K x)

pub cup-outside : (K : Complex) (i : ℕ) (a b : Ids) (x : ℕ) → length K ≤ x → cup K i a b x ≡ false
cup-outside K i a b x out =
    cup-weigh K i a b x ∙ ap (λ s. weigh (suc i) true s (meets (value_at K a) (value_at K b))) (get_or_past K x [] out)

pub cup-plus_left : (K : Complex) (i : ℕ) (a a' b : Ids) → cup K i (plus a a') b ≡ plus (cup K i a b) (cup K i a' b)
cup-plus_left K i a a' b = same_members (cup K i (plus a a') b) (plus (cup K i a b) (cup K i a' b)) at
  where
    at : (x : ℕ) → cup K i (plus a a') b x ≡ xor (cup K i a b x) (cup K i a' b x)
    at x =
        cup-weigh K i (plus a a') b x
        ∙ ap (weigh (suc i) true (simplex_at K x))
        (λ j p q. (ap (λ t. t && value_at K b q) (value_at-plus K a a' p) ∙ xor-and (value_at K a p) (value_at K a' p) (value_at K b q)) j)
        ∙ weigh-xor (suc i) true (simplex_at K x) (meets (value_at K a) (value_at K b)) (meets (value_at K a') (value_at K b))
        ∙ sym (λ j. xor (cup-weigh K i a b x j) (cup-weigh K i a' b x j))

pub cup-plus_right : (K : Complex) (i : ℕ) (a b b' : Ids) → cup K i a (plus b b') ≡ plus (cup K i a b) (cup K i a b')
cup-plus_right K i a b b' = same_members (cup K i a (plus b b')) (plus (cup K i a b) (cup K i a b')) at
  where
    at : (x : ℕ) → cup K i a (plus b b') x ≡ xor (cup K i a b x) (cup K i a b' x)
    at x =
        cup-weigh K i a (plus b b') x
        ∙ ap (weigh (suc i) true (simplex_at K x))
        (λ j p q. (ap (λ t. value_at K a p && t) (value_at-plus K b b' q) ∙ and-xor (value_at K a p) (value_at K b q) (value_at K b' q)) j)
        ∙ weigh-xor (suc i) true (simplex_at K x) (meets (value_at K a) (value_at K b)) (meets (value_at K a) (value_at K b'))
        ∙ sym (λ j. xor (cup-weigh K i a b x j) (cup-weigh K i a b' x j))

-- the vertices of a splitting, together: those that are shared count twice
pub record Term (k : ℕ) (s : List ℕ) (W : Test) : Type 0 where
  pub first : List ℕ
  pub second : List ℕ
  pub holds : W first second ≡ true
  pub count : length first + length second ≡ length s + k

term-put : (k : ℕ) (first : Bool) (v : ℕ) (s : List ℕ) (W : Test) → Term k s (put first v W) → Term k (v ∷ s) W
term-put k true v s W t = record { first = v ∷ t.first; second = t.second; holds = t.holds; count = omega (arith, t.count) }
term-put k false v s W t = record { first = t.first; second = v ∷ t.second; holds = t.holds; count = omega (arith, t.count) }

xor-source : (a b : Bool) → xor a b ≡ true → (a ≡ true) ⊎ (b ≡ true)
xor-source true b e = inl refl
xor-source false b e = inr e

-- a sum that is one has a term
weigh-source : (k : ℕ) (first : Bool) (s : List ℕ) (W : Test) → weigh k first s W ≡ true → Term k s W
weigh-source zero first [] W e = record { first = []; second = []; holds = e; count = omega arith }
weigh-source (suc k) first [] W e = absurd (true≢false (sym e))
weigh-source zero first (v ∷ s) W e = term-put zero first v s W (weigh-source zero first s (put first v W) e)
weigh-source (suc k) first (v ∷ s) W e = ⊎_elim
    (λ (shared : weigh k (not first) s (put_both v W) ≡ true).
    let t : Term k s (put_both v W) = weigh-source k (not first) s (put_both v W) shared in
    record { first = v ∷ t.first; second = v ∷ t.second; holds = t.holds; count = omega (arith, t.count) })
    (λ (single : weigh (suc k) first s (put first v W) ≡ true).
    term-put (suc k) first v s W (weigh-source (suc k) first s (put first v W) single))
    (xor-source (weigh k (not first) s (put_both v W)) (weigh (suc k) first s (put first v W)) e)

-- a list with a value of a cochain of degree p has p + 1 vertices
pub value_at-length : (K : Complex) → IsComplex K → (p : ℕ) (a : Ids) → IsChain K p a → (s : List ℕ) → value_at K a s ≡ true → length s ≡ p + 1
value_at-length K c p a chain s e =
    let found : (x : ℕ) × (x < length K) × (simplex_at K x ≡ s) × (a x ≡ true) = value_at-found K a s e in
    let long : length (simplex_at K found.0) ≡ length s = ap length found.2 in
    omega (arith, chain.degree found.0 found.3, (c.simplices found.0 found.1).nonempty, long)

-- a product of degrees p and q has members of dimension p + q - i alone
pub cup-degree : (K : Complex) → IsComplex K → (i p q : ℕ) (a b : Ids) → IsChain K p a → IsChain K q b
    → (x : ℕ) → cup K i a b x ≡ true → (x < length K) × (dim K x + i ≡ p + q)
cup-degree K c i p q a b A B x e =
    let term : Term (suc i) (simplex_at K x) (meets (value_at K a) (value_at K b)) =
    weigh-source (suc i) true (simplex_at K x) (meets (value_at K a) (value_at K b)) (sym (cup-weigh K i a b x) ∙ e) in
    let both : (value_at K a term.first ≡ true) × (value_at K b term.second ≡ true) =
    and_parts (value_at K a term.first) (value_at K b term.second) term.holds in
    let front : length term.first ≡ p + 1 = value_at-length K c p a A term.first both.0 in
    let back : length term.second ≡ q + 1 = value_at-length K c q b B term.second both.1 in
    let there : x < length K = ⊎_elim
    (λ (lt : x < length K). lt)
    (λ (le : length K ≤ x). absurd (true≢false (sym e ∙ cup-outside K i a b x le)))
    (cases_lt x (length K)) in
    (there, omega (arith, term.count, front, back, (c.simplices x there).nonempty))

-- a factor goes out of a sum over vertices left out
delta-and_right : (F : List ℕ → Bool) (b : Bool) (s : List ℕ) → delta (λ t. F t && b) s ≡ (delta F s && b)
delta-and_right F b [] = refl
delta-and_right F b (v ∷ s) =
    ap (xor (F s && b)) (delta-and_right (λ t. F (v ∷ t)) b s) ∙ sym (xor-and (F s) (delta (λ t. F (v ∷ t)) s) b)

delta-and : (a : Bool) (F : List ℕ → Bool) (s : List ℕ) → delta (λ t. a && F t) s ≡ (a && delta F s)
delta-and a F [] = sym (and-false a)
delta-and a F (v ∷ s) =
    ap (xor (a && F s)) (delta-and a (λ t. F (v ∷ t)) s) ∙ sym (and-xor a (F s) (delta (λ t. F (v ∷ t)) s))

-- one vertex left out in both factors
each-meets : (A B : List ℕ → Bool) → each (meets A B) ≡ sum (meets (delta A) B) (meets A (delta B))
each-meets A B = λ i p q. xor (delta-and_right A (B q) p i) (delta-and (A p) B q i)

-- the sums over splittings, and over entries left out, as they are weighed
weigh-terms : (k : ℕ) (first : Bool) (A B : List ℕ → Bool) (s : List ℕ)
    → xor (xor (odd_of (splittings k first s) (λ p. over_faces A p.0 && B p.1))
    (odd_of (splittings k first s) (λ p. A p.0 && over_faces B p.1)))
    (over_faces (λ t. odd_of (splittings k first t) (λ p. A p.0 && B p.1)) s)
    ≡ xor (weigh k first s (each (meets A B))) (delta (λ t. weigh k first t (meets A B)) s)
weigh-terms k first A B s = λ j. xor (lists j) (whole j)
  where
    lists : xor (odd_of (splittings k first s) (λ p. over_faces A p.0 && B p.1)) (odd_of (splittings k first s) (λ p. A p.0 && over_faces B p.1))
        ≡ weigh k first s (each (meets A B))
    lists =
        (λ j. xor
        ((weigh-splittings k first s (meets (over_faces A) B) ∙ ap (weigh k first s) (λ j p q. sym (delta-odd A p) j && B q)) j)
        ((weigh-splittings k first s (meets A (over_faces B)) ∙ ap (weigh k first s) (λ j p q. A p && sym (delta-odd B q) j)) j))
        ∙ sym (weigh-xor k first s (meets (delta A) B) (meets A (delta B)))
        ∙ sym (ap (weigh k first s) (each-meets A B))

    whole : over_faces (λ t. odd_of (splittings k first t) (λ p. A p.0 && B p.1)) s ≡ delta (λ t. weigh k first t (meets A B)) s
    whole =
        sym (delta-odd (λ t. odd_of (splittings k first t) (λ p. A p.0 && B p.1)) s)
        ∙ (λ j. delta (λ t. weigh-splittings k first t (meets A B) j) s)

pub splittings-some : (k : ℕ) (first : Bool) (A B : List ℕ → Bool) (s : List ℕ)
    → xor (xor (odd_of (splittings (suc k) first s) (λ p. over_faces A p.0 && B p.1))
    (odd_of (splittings (suc k) first s) (λ p. A p.0 && over_faces B p.1)))
    (over_faces (λ t. odd_of (splittings (suc k) first t) (λ p. A p.0 && B p.1)) s)
    ≡ xor (odd_of (splittings k first s) (λ p. A p.0 && B p.1)) (odd_of (splittings k (not first) s) (λ p. A p.0 && B p.1))
splittings-some k first A B s =
    weigh-terms (suc k) first A B s
    ∙ weigh-delta (suc k) first s (meets A B)
    ∙ sym (λ j. xor (weigh-splittings k first s (meets A B) j) (weigh-splittings k (not first) s (meets A B) j))

pub splittings-none : (first : Bool) (A B : List ℕ → Bool) (s : List ℕ)
    → xor (xor (odd_of (splittings zero first s) (λ p. over_faces A p.0 && B p.1))
    (odd_of (splittings zero first s) (λ p. A p.0 && over_faces B p.1)))
    (over_faces (λ t. odd_of (splittings zero first t) (λ p. A p.0 && B p.1)) s) ≡ false
splittings-none first A B s = weigh-terms zero first A B s ∙ weigh-delta zero first s (meets A B)

module _ (K : Complex) (c : IsComplex K) (i : ℕ) (a b : Ids) (x : ℕ) where
  -- the two products with a coboundary, together
  coboundary-factors : x < length K
      → xor (cup K i (coboundary K a) b x) (cup K i a (coboundary K b) x)
      ≡ weigh (suc i) true (simplex_at K x) (each (meets (value_at K a) (value_at K b)))
  coboundary-factors x_in =
      (λ j. xor (left j) (right j))
      ∙ sym (weigh-xor (suc i) true (simplex_at K x) (meets (delta (value_at K a)) (value_at K b)) (meets (value_at K a) (delta (value_at K b))))
      ∙ sym (ap (weigh (suc i) true (simplex_at K x)) (each-meets (value_at K a) (value_at K b)))
    where
      left : cup K i (coboundary K a) b x ≡ weigh (suc i) true (simplex_at K x) (meets (delta (value_at K a)) (value_at K b))
      left =
          cup-weigh K i (coboundary K a) b x
          ∙ weigh-same (suc i) true (simplex_at K x) (meets (value_at K (coboundary K a)) (value_at K b)) (meets (delta (value_at K a)) (value_at K b))
          (λ p q P Q. ap (λ t. t && value_at K b q) (value_at-coboundary K c a x p x_in P))

      right : cup K i a (coboundary K b) x ≡ weigh (suc i) true (simplex_at K x) (meets (value_at K a) (delta (value_at K b)))
      right =
          cup-weigh K i a (coboundary K b) x
          ∙ weigh-same (suc i) true (simplex_at K x) (meets (value_at K a) (value_at K (coboundary K b))) (meets (value_at K a) (delta (value_at K b)))
          (λ p q P Q. ap (λ t. value_at K a p && t) (value_at-coboundary K c b x q x_in Q))

  -- the coboundary of the product
  coboundary-whole : x < length K
      → coboundary K (cup K i a b) x ≡ delta (λ t. weigh (suc i) true t (meets (value_at K a) (value_at K b))) (simplex_at K x)
  coboundary-whole x_in =
      odd-same (length K) _ _ (λ t _. ap (λ v. v && incidence K t x) (cup-weigh K i a b t))
      ∙ faces-delta K c (λ t. weigh (suc i) true t (meets (value_at K a) (value_at K b))) refl x x_in

-- the products with an index less by one, from either side
cup_below-first : (K : Complex) → IsComplex K → (i : ℕ) (a b : Ids) (x : ℕ)
    → cup_below K i a b x ≡ weigh i true (simplex_at K x) (meets (value_at K a) (value_at K b))
cup_below-first K c zero a b x = sym (
    weigh-zero (simplex_at K x) (meets (value_at K a) (value_at K b))
    ∙ ap (λ t. value_at K a (simplex_at K x) && t) (value_at-empty K c b)
    ∙ and-false (value_at K a (simplex_at K x)))
cup_below-first K c (suc i) a b x = cup-weigh K i a b x

cup_below-second : (K : Complex) → IsComplex K → (i : ℕ) (a b : Ids) (x : ℕ)
    → cup_below K i b a x ≡ weigh i false (simplex_at K x) (meets (value_at K a) (value_at K b))
cup_below-second K c i a b x =
    cup_below-first K c i b a x
    ∙ weigh-flip i true (simplex_at K x) (meets (value_at K b) (value_at K a))
    ∙ ap (weigh i false (simplex_at K x)) (λ j p q. and-comm (value_at K b q) (value_at K a p) j)

-- a term of a sum on its own
other_side : (u v w : Bool) → xor u v ≡ w → v ≡ xor u w
other_side u v w e = by_table 2 (λ u v. v) (λ u v. xor u (xor u v)) refl u v ∙ ap (xor u) e

-- at a simplex, by the law of splittings
coboundary-cup_inside : (K : Complex) → IsComplex K → (i : ℕ) (a b : Ids) (x : ℕ) → x < length K
    → coboundary K (cup K i a b) x
    ≡ xor (xor (cup K i (coboundary K a) b x) (cup K i a (coboundary K b) x)) (xor (cup_below K i a b x) (cup_below K i b a x))
coboundary-cup_inside K c i a b x x_in =
    other_side
    (xor (cup K i (coboundary K a) b x) (cup K i a (coboundary K b) x))
    (coboundary K (cup K i a b) x)
    (xor (cup_below K i a b x) (cup_below K i b a x))
    ((λ j. xor (coboundary-factors K c i a b x x_in j) (coboundary-whole K c i a b x x_in j))
    ∙ weigh-delta (suc i) true (simplex_at K x) (meets (value_at K a) (value_at K b))
    ∙ sym (λ j. xor (cup_below-first K c i a b x j) (cup_below-second K c i a b x j)))

-- where there is no simplex, all is zero
pub coboundary-outside : (K : Complex) (a : Ids) (x : ℕ) → length K ≤ x → coboundary K a x ≡ false
coboundary-outside K a x out = odd-none (length K) _ (λ t _. ap (λ v. a t && v) (none t) ∙ and-false (a t))
  where
    none : (t : ℕ) → incidence K t x ≡ false
    none t = incidence-is K t x ∙ ap (λ s. incidence_of (simplex_at K t) s) (get_or_past K x [] out)

cup_below-outside : (K : Complex) (i : ℕ) (a b : Ids) (x : ℕ) → length K ≤ x → cup_below K i a b x ≡ false
cup_below-outside K zero a b x out = refl
cup_below-outside K (suc i) a b x out = cup-outside K i a b x out

-- the coboundary of a product, as sets of simplices
pub coboundary-cup : (K : Complex) → IsComplex K → (i : ℕ) (a b : Ids)
    → coboundary K (cup K i a b)
    ≡ plus (plus (cup K i (coboundary K a) b) (cup K i a (coboundary K b))) (plus (cup_below K i a b) (cup_below K i b a))
coboundary-cup K c i a b = same_members
    (coboundary K (cup K i a b))
    (plus (plus (cup K i (coboundary K a) b) (cup K i a (coboundary K b))) (plus (cup_below K i a b) (cup_below K i b a)))
    (λ x. ⊎_elim
    (λ (lt : x < length K). coboundary-cup_inside K c i a b x lt)
    (λ (le : length K ≤ x).
    coboundary-outside K (cup K i a b) x le
    ∙ sym (λ j. xor
    (xor (cup-outside K i (coboundary K a) b x le j) (cup-outside K i a (coboundary K b) x le j))
    (xor (cup_below-outside K i a b x le j) (cup_below-outside K i b a x le j))))
    (cases_lt x (length K)))
