-- Laws of splittings.
--     odd_of-append, odd_of-map       sums over two lists joined, and over the values of a function
--     weigh k first s W               the sum of W over the splittings of s with k shared vertices
--     weigh-splittings                it is that
--     weigh-xor, weigh-false, weigh-and, weigh-odd
--                                     it is additive
--     weigh-same, weigh-none          it depends on W at sublists of s alone
--     weigh-flip, weigh-wide, weigh-zero
--                                     the lists exchanged; more shared vertices than there are; none shared
--     delta F s                       the sum of F over s without each one of its entries
--     weigh-delta                     the law of splittings
use Rattle.std.proofs.Common.{◌≡◌, ℕ, zero, suc, ◌<◌, Bool, true, false, cond, ◌&&◌, not, List, [], ◌∷◌, ◌++◌, map, length, refl, sym, ap, ◌∙◌, arith, inl}
use Rattle.homology.specs.Parity.{xor, odd}
use Rattle.homology.proofs.ParityLaws.{xor-false, xor-self, xor-assoc, xor-middle}
use Rattle.homology.proofs.FaceLists.{Picks, Picks-skip}
use Rattle.products.specs.Products.{odd_of}
use Rattle.products.specs.Splittings.{into, into_both, splittings}
use Rattle.products.proofs.TruthTables.{by_table}

pub odd_of-append : {A : Type 0} (xs ys : List A) (p : A → Bool) → odd_of (xs ++ ys) p ≡ xor (odd_of xs p) (odd_of ys p)
odd_of-append [] ys p = refl
odd_of-append (x ∷ xs) ys p = ap (xor (p x)) (odd_of-append xs ys p) ∙ sym (xor-assoc (p x) (odd_of xs p) (odd_of ys p))

pub odd_of-map : {A B : Type 0} (f : A → B) (xs : List A) (p : B → Bool) → odd_of (map f xs) p ≡ odd_of xs (λ x. p (f x))
odd_of-map f [] p = refl
odd_of-map f (x ∷ xs) p = ap (xor (p (f x))) (odd_of-map f xs p)

-- what is summed: a test of two lists
abbrev pub Test : Type 0
Test = List ℕ → List ℕ → Bool

abbrev pub sum : Test → Test → Test
sum W V = λ p q. xor (W p q) (V p q)

-- the test with v put into the first list, or the second; into both
abbrev pub put : Bool → ℕ → Test → Test
put first v W = λ p q. W (cond first (v ∷ p) p) (cond first q (v ∷ q))

abbrev pub put_both : ℕ → Test → Test
put_both v W = λ p q. W (v ∷ p) (v ∷ q)

abbrev pub weigh : ℕ → Bool → List ℕ → Test → Bool
weigh zero first [] W = W [] []
weigh (suc k) first [] W = false
weigh zero first (v ∷ s) W = weigh zero first s (put first v W)
weigh (suc k) first (v ∷ s) W = xor (weigh k (not first) s (put_both v W)) (weigh (suc k) first s (put first v W))

-- with one shared vertex less; zero where none is left
abbrev pub lower : ℕ → Bool → List ℕ → Test → Bool
lower zero first s W = false
lower (suc k) first s W = weigh k first s W

pub weigh-splittings : (k : ℕ) (first : Bool) (s : List ℕ) (W : Test) → odd_of (splittings k first s) (λ p. W p.0 p.1) ≡ weigh k first s W
weigh-splittings zero first [] W = xor-false (W [] [])
weigh-splittings (suc k) first [] W = refl
weigh-splittings zero first (v ∷ s) W =
    odd_of-map (into first v) (splittings zero first s) (λ p. W p.0 p.1) ∙ weigh-splittings zero first s (put first v W)
weigh-splittings (suc k) first (v ∷ s) W =
    odd_of-append (map (into_both v) (splittings k (not first) s)) (map (into first v) (splittings (suc k) first s)) (λ p. W p.0 p.1)
    ∙ λ i. xor
    ((odd_of-map (into_both v) (splittings k (not first) s) (λ p. W p.0 p.1) ∙ weigh-splittings k (not first) s (put_both v W)) i)
    ((odd_of-map (into first v) (splittings (suc k) first s) (λ p. W p.0 p.1) ∙ weigh-splittings (suc k) first s (put first v W)) i)

-- one vertex more: it is shared, or goes to its side
pub weigh-step : (k : ℕ) (first : Bool) (v : ℕ) (s : List ℕ) (W : Test)
    → weigh k first (v ∷ s) W ≡ xor (lower k (not first) s (put_both v W)) (weigh k first s (put first v W))
weigh-step zero first v s W = refl
weigh-step (suc k) first v s W = refl

pub weigh-xor : (k : ℕ) (first : Bool) (s : List ℕ) (W V : Test) → weigh k first s (sum W V) ≡ xor (weigh k first s W) (weigh k first s V)
weigh-xor zero first [] W V = refl
weigh-xor (suc k) first [] W V = refl
weigh-xor zero first (v ∷ s) W V = weigh-xor zero first s (put first v W) (put first v V)
weigh-xor (suc k) first (v ∷ s) W V =
    (λ i. xor (weigh-xor k (not first) s (put_both v W) (put_both v V) i) (weigh-xor (suc k) first s (put first v W) (put first v V) i))
    ∙ xor-middle (weigh k (not first) s (put_both v W)) (weigh k (not first) s (put_both v V)) (weigh (suc k) first s (put first v W)) (weigh (suc k) first s (put first v V))

pub weigh-false : (k : ℕ) (first : Bool) (s : List ℕ) → weigh k first s (λ p q. false) ≡ false
weigh-false zero first [] = refl
weigh-false (suc k) first [] = refl
weigh-false zero first (v ∷ s) = weigh-false zero first s
weigh-false (suc k) first (v ∷ s) = λ i. xor (weigh-false k (not first) s i) (weigh-false (suc k) first s i)

pub weigh-and : (k : ℕ) (first : Bool) (s : List ℕ) (c : Bool) (W : Test) → weigh k first s (λ p q. c && W p q) ≡ (c && weigh k first s W)
weigh-and k first s true W = refl
weigh-and k first s false W = weigh-false k first s

pub weigh-odd : (k : ℕ) (first : Bool) (s : List ℕ) (n : ℕ) (W : ℕ → Test)
    → weigh k first s (λ p q. odd n (λ y. W y p q)) ≡ odd n (λ y. weigh k first s (W y))
weigh-odd k first s zero W = weigh-false k first s
weigh-odd k first s (suc n) W =
    weigh-xor k first s (W n) (λ p q. odd n (λ y. W y p q)) ∙ ap (xor (weigh k first s (W n))) (weigh-odd k first s n W)

-- sublists with v in front of both, or of one, are sublists
put-same : (first : Bool) (v : ℕ) (s : List ℕ) (W V : Test) → ((p q : List ℕ) → Picks p (v ∷ s) → Picks q (v ∷ s) → W p q ≡ V p q)
    → (p q : List ℕ) → Picks p s → Picks q s → put first v W p q ≡ put first v V p q
put-same true v s W V e p q P Q = e (v ∷ p) q (inl (refl, P)) (Picks-skip q s v Q)
put-same false v s W V e p q P Q = e p (v ∷ q) (Picks-skip p s v P) (inl (refl, Q))

-- tests that agree at sublists have one sum
pub weigh-same : (k : ℕ) (first : Bool) (s : List ℕ) (W V : Test) → ((p q : List ℕ) → Picks p s → Picks q s → W p q ≡ V p q)
    → weigh k first s W ≡ weigh k first s V
weigh-same zero first [] W V e = e [] [] tt tt
weigh-same (suc k) first [] W V e = refl
weigh-same zero first (v ∷ s) W V e = weigh-same zero first s (put first v W) (put first v V) (put-same first v s W V e)
weigh-same (suc k) first (v ∷ s) W V e = λ i. xor
    (weigh-same k (not first) s (put_both v W) (put_both v V) (λ p q P Q. e (v ∷ p) (v ∷ q) (inl (refl, P)) (inl (refl, Q))) i)
    (weigh-same (suc k) first s (put first v W) (put first v V) (put-same first v s W V e) i)

-- a test that fails at all sublists has the sum zero
pub weigh-none : (k : ℕ) (first : Bool) (s : List ℕ) (W : Test) → ((p q : List ℕ) → Picks p s → Picks q s → W p q ≡ false)
    → weigh k first s W ≡ false
weigh-none k first s W e = weigh-same k first s W (λ p q. false) e ∙ weigh-false k first s

-- the two lists exchanged
abbrev pub flip : Test → Test
flip W = λ p q. W q p

put-flip : (first : Bool) (v : ℕ) (W : Test) → flip (put first v W) ≡ put (not first) v (flip W)
put-flip true v W = refl
put-flip false v W = refl

pub weigh-flip : (k : ℕ) (first : Bool) (s : List ℕ) (W : Test) → weigh k first s W ≡ weigh k (not first) s (flip W)
weigh-flip zero first [] W = refl
weigh-flip (suc k) first [] W = refl
weigh-flip zero first (v ∷ s) W = weigh-flip zero first s (put first v W) ∙ ap (weigh zero (not first) s) (put-flip first v W)
weigh-flip (suc k) first (v ∷ s) W = λ i. xor
    (weigh-flip k (not first) s (put_both v W) i)
    ((weigh-flip (suc k) first s (put first v W) ∙ ap (weigh (suc k) (not first) s) (put-flip first v W)) i)

-- there are not more shared vertices than vertices
pub weigh-wide : (k : ℕ) (first : Bool) (s : List ℕ) (W : Test) → length s < k → weigh k first s W ≡ false
weigh-wide zero first s W lt = absurd (omega arith)
weigh-wide (suc k) first [] W lt = refl
weigh-wide (suc k) first (v ∷ s) W lt = λ i. xor
    (weigh-wide k (not first) s (put_both v W) (omega arith) i)
    (weigh-wide (suc k) first s (put first v W) (omega arith) i)

-- with none shared, all go to one side
pub weigh-zero : (s : List ℕ) (W : Test) → weigh 0 true s W ≡ W s []
weigh-zero [] W = refl
weigh-zero (v ∷ s) W = weigh-zero s (put true v W)

abbrev pub delta : (List ℕ → Bool) → List ℕ → Bool
delta F [] = false
delta F (v ∷ s) = xor (F s) (delta (λ t. F (v ∷ t)) s)

pub delta-xor : (F G : List ℕ → Bool) (s : List ℕ) → delta (λ t. xor (F t) (G t)) s ≡ xor (delta F s) (delta G s)
delta-xor F G [] = refl
delta-xor F G (v ∷ s) =
    ap (xor (xor (F s) (G s))) (delta-xor (λ t. F (v ∷ t)) (λ t. G (v ∷ t)) s)
    ∙ xor-middle (F s) (G s) (delta (λ t. F (v ∷ t)) s) (delta (λ t. G (v ∷ t)) s)

-- one entry left out in the first list, and in the second
abbrev pub each : Test → Test
each W = λ p q. xor (delta (λ u. W u q) p) (delta (W p) q)

-- the new entry left out, or one behind it
each-put : (first : Bool) (v : ℕ) (W : Test) (p q : List ℕ) → put first v (each W) p q ≡ xor (W p q) (each (put first v W) p q)
each-put true v W p q = xor-assoc (W p q) (delta (λ u. W (v ∷ u) q) p) (delta (W (v ∷ p)) q)
each-put false v W p q =
    by_table 3 (λ a b c. xor a (xor b c)) (λ a b c. xor b (xor a c)) refl (delta (λ u. W u (v ∷ q)) p) (W p q) (delta (λ u. W p (v ∷ u)) q)

each-put_both : (first : Bool) (v : ℕ) (W : Test) (p q : List ℕ)
    → put_both v (each W) p q ≡ xor (xor (put first v W p q) (put (not first) v W p q)) (each (put_both v W) p q)
each-put_both true v W p q =
    by_table 4 (λ a b c d. xor (xor a b) (xor c d)) (λ a b c d. xor (xor c a) (xor b d)) refl
    (W p (v ∷ q)) (delta (λ u. W (v ∷ u) (v ∷ q)) p) (W (v ∷ p) q) (delta (λ u. W (v ∷ p) (v ∷ u)) q)
each-put_both false v W p q =
    by_table 4 (λ a b c d. xor (xor a b) (xor c d)) (λ a b c d. xor (xor a c) (xor b d)) refl
    (W p (v ∷ q)) (delta (λ u. W (v ∷ u) (v ∷ q)) p) (W (v ∷ p) q) (delta (λ u. W (v ∷ p) (v ∷ u)) q)

weigh-each_put : (k : ℕ) (first : Bool) (v : ℕ) (s : List ℕ) (W : Test)
    → weigh k first s (put first v (each W)) ≡ xor (weigh k first s W) (weigh k first s (each (put first v W)))
weigh-each_put k first v s W =
    ap (weigh k first s) (λ i p q. each-put first v W p q i) ∙ weigh-xor k first s W (each (put first v W))

weigh-each_both : (k : ℕ) (o first : Bool) (v : ℕ) (s : List ℕ) (W : Test)
    → weigh k o s (put_both v (each W))
    ≡ xor (xor (weigh k o s (put first v W)) (weigh k o s (put (not first) v W))) (weigh k o s (each (put_both v W)))
weigh-each_both k o first v s W =
    ap (weigh k o s) (λ i p q. each-put_both first v W p q i)
    ∙ weigh-xor k o s (sum (put first v W) (put (not first) v W)) (each (put_both v W))
    ∙ ap (λ b. xor b (weigh k o s (each (put_both v W)))) (weigh-xor k o s (put first v W) (put (not first) v W))

-- the terms of the law at one vertex more, with those that come twice
collect_none : (x d e : Bool) → xor d e ≡ false → xor (xor x d) (xor x e) ≡ false
collect_none x d e h = by_table 3 (λ a b c. xor (xor a b) (xor a c)) (λ a b c. xor b c) refl x d e ∙ h

collect : (x1 x2 d1 y d2 e1 e2 u w z : Bool) → xor d1 e1 ≡ xor u w → xor d2 e2 ≡ xor z x1
    → xor (xor (xor (xor x1 x2) d1) (xor y d2)) (xor y (xor e1 e2)) ≡ xor (xor u z) (xor w x2)
collect x1 x2 d1 y d2 e1 e2 u w z h g =
    by_table 7 (λ x1 x2 d1 y d2 e1 e2. xor (xor (xor (xor x1 x2) d1) (xor y d2)) (xor y (xor e1 e2)))
    (λ x1 x2 d1 y d2 e1 e2. xor (xor x1 x2) (xor (xor d1 e1) (xor d2 e2))) refl x1 x2 d1 y d2 e1 e2
    ∙ (λ i. xor (xor x1 x2) (xor (h i) (g i)))
    ∙ by_table 5 (λ x1 x2 u w z. xor (xor x1 x2) (xor (xor u w) (xor z x1))) (λ x1 x2 u w z. xor (xor u z) (xor w x2)) refl x1 x2 u w z

lower-nil : (k : ℕ) (first : Bool) (W : Test) → false ≡ xor (weigh k first [] W) (weigh k (not first) [] W)
lower-nil zero first W = sym (xor-self (W [] []))
lower-nil (suc k) first W = refl

-- the law of splittings: one vertex left out of the two lists, or of s before it is split, are the splittings with one shared
-- vertex less, from either side
pub weigh-delta : (k : ℕ) (first : Bool) (s : List ℕ) (W : Test)
    → xor (weigh k first s (each W)) (delta (λ t. weigh k first t W) s) ≡ xor (lower k first s W) (lower k (not first) s W)
weigh-delta zero first [] W = refl
weigh-delta (suc k) first [] W = lower-nil k first W
weigh-delta zero first (v ∷ s) W =
    ap (λ b. xor b (delta (λ t. weigh zero first t W) (v ∷ s))) (weigh-each_put zero first v s W)
    ∙ collect_none (weigh zero first s W) (weigh zero first s (each (put first v W))) (delta (λ t. weigh zero first t (put first v W)) s)
    (weigh-delta zero first s (put first v W))
weigh-delta (suc k) first (v ∷ s) W =
    (λ i. xor
    (xor (weigh-each_both k (not first) first v s W i) (weigh-each_put (suc k) first v s W i))
    (xor (weigh (suc k) first s W)
    (delta-xor (λ t. weigh k (not first) t (put_both v W)) (λ t. weigh (suc k) first t (put first v W)) s i)))
    ∙ collect
    (weigh k (not first) s (put first v W)) (weigh k (not first) s (put (not first) v W))
    (weigh k (not first) s (each (put_both v W)))
    (weigh (suc k) first s W) (weigh (suc k) first s (each (put first v W)))
    (delta (λ t. weigh k (not first) t (put_both v W)) s) (delta (λ t. weigh (suc k) first t (put first v W)) s)
    (lower k (not first) s (put_both v W)) (lower k (not (not first)) s (put_both v W)) (weigh k first s (put first v W))
    (weigh-delta k (not first) s (put_both v W)) (weigh-delta (suc k) first s (put first v W))
    ∙ sym (λ i. xor (weigh-step k first v s W i) (weigh-step k (not first) v s W i))
