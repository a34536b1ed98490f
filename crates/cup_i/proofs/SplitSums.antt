-- Sums over splittings, vertex by vertex.
--     split_sum-none      with none shared, all go to the first list
--     split_sum-first, split_sum-second
--                         it is zero where one of the two is zero at all lists that are no longer than the whole one
--     split_sum-more      one vertex more: it is shared, and then the factors change places; or it is single
--     split_sum-step      the same, by what is known of the two sums
--     split_sum-cup       the cup-i product as such a sum
use Rattle.std.proofs.Common.{◌≡◌, ℕ, suc, ◌+◌, ◌≤◌, Bool, true, false, ◌&&◌, List, [], ◌∷◌, ◌++◌, length, refl, sym, ap, ◌∙◌, arith, add-one, append_assoc}
use Rattle.homology.specs.Parity.{xor}
use Rattle.homology.specs.Sets.{Ids}
use Rattle.homology.specs.Complexes.{Complex, simplex_at}
use Rattle.homology.proofs.FaceLists.{Picks-length}
use Rattle.homology.proofs.ParityLaws.{and-comm, and-false}
use Rattle.products.specs.Products.{value_at, cup}
use Rattle.products.proofs.SplittingLaws.{put_both, weigh, weigh-splittings, weigh-none, weigh-zero, weigh-flip}
use Rattle.products.proofs.HalfLaws.{meets}
use Rattle.products.proofs.CoboundaryLaw.{cup-weigh}
use Rattle.cup_i.specs.Splits.{split_sum, after}

split_sum-weigh : (k : ℕ) (A B : List ℕ → Bool) (s : List ℕ) → split_sum k A B s ≡ weigh k true s (meets A B)
unfolding split_sum
split_sum-weigh k A B s = weigh-splittings k true s (meets A B)

pub split_sum-none : (k : ℕ) (A B : List ℕ → Bool) (s : List ℕ) → k ≡ 0 → split_sum k A B s ≡ (A s && B [])
split_sum-none k A B s none = ap (λ j. split_sum j A B s) none ∙ split_sum-weigh 0 A B s ∙ weigh-zero s (meets A B)

-- one of the two is zero at all lists that are no longer
pub split_sum-first : (k : ℕ) (A B : List ℕ → Bool) (s : List ℕ) → ((p : List ℕ) → length p ≤ length s → A p ≡ false) → split_sum k A B s ≡ false
split_sum-first k A B s none =
    split_sum-weigh k A B s
    ∙ weigh-none k true s (meets A B) (λ p q P Q. ap (λ a. a && B q) (none p (Picks-length p s P)))

pub split_sum-second : (k : ℕ) (A B : List ℕ → Bool) (s : List ℕ) → ((q : List ℕ) → length q ≤ length s → B q ≡ false) → split_sum k A B s ≡ false
split_sum-second k A B s none =
    split_sum-weigh k A B s
    ∙ weigh-none k true s (meets A B) (λ p q P Q. ap (λ b. A p && b) (none q (Picks-length q s Q)) ∙ and-false (A p))

-- one vertex more, in front
split_sum-front : (k : ℕ) (A B : List ℕ → Bool) (v : ℕ) (s : List ℕ)
    → split_sum (suc k) A B (v ∷ s) ≡ xor (split_sum k (λ p. B (v ∷ p)) (λ p. A (v ∷ p)) s) (split_sum (suc k) (λ p. A (v ∷ p)) B s)
split_sum-front k A B v s =
    split_sum-weigh (suc k) A B (v ∷ s)
    ∙ λ i. xor
    ((weigh-flip k false s (put_both v (meets A B))
    ∙ ap (weigh k true s) (λ j p q. and-comm (A (v ∷ q)) (B (v ∷ p)) j)
    ∙ sym (split_sum-weigh k (λ p. B (v ∷ p)) (λ p. A (v ∷ p)) s)) i)
    (sym (split_sum-weigh (suc k) (λ p. A (v ∷ p)) B s) i)

-- what follows one more vertex
after-more : (A : List ℕ → Bool) (u : List ℕ) (v : ℕ) → (λ p. after A u (v ∷ p)) ≡ after A (u ++ v ∷ [])
after-more A u v = λ i p. A (sym (append_assoc u (v ∷ []) p) i)

pub split_sum-more : (k j : ℕ) (A B : List ℕ → Bool) (u w : List ℕ) (v : ℕ) (s : List ℕ) → k ≡ j + 1
    → split_sum k (after A u) (after B w) (v ∷ s)
    ≡ xor (split_sum j (after B (w ++ v ∷ [])) (after A (u ++ v ∷ [])) s) (split_sum k (after A (u ++ v ∷ [])) (after B w) s)
split_sum-more k j A B u w v s e =
    let more : k ≡ suc j = e ∙ add-one j in
    ap (λ n. split_sum n (after A u) (after B w) (v ∷ s)) more
    ∙ split_sum-front j (after A u) (after B w) v s
    ∙ (λ i. xor (split_sum j (after-more B w v i) (after-more A u v i) s) (split_sum (sym more i) (after-more A u v i) (after B w) s))

pub split_sum-cup : (K : Complex) (i : ℕ) (a b : Ids) (x : ℕ) → cup K i a b x ≡ split_sum (i + 1) (value_at K a) (value_at K b) (simplex_at K x)
split_sum-cup K i a b x =
    cup-weigh K i a b x
    ∙ sym (split_sum-weigh (suc i) (value_at K a) (value_at K b) (simplex_at K x))
    ∙ ap (λ n. split_sum n (value_at K a) (value_at K b) (simplex_at K x)) (sym (add-one i))

-- the same, by what is known of the two sums
pub split_sum-step : (k j : ℕ) (A B : List ℕ → Bool) (u w s : List ℕ) (n : ℕ) (single both : Bool) → k ≡ j + 1 → length s ≡ n + 1
    → ((v : ℕ) (l : List ℕ) → s ≡ v ∷ l → length l ≡ n → single ≡ split_sum k (after A (u ++ v ∷ [])) (after B w) l)
    → ((v : ℕ) (l : List ℕ) → s ≡ v ∷ l → length l ≡ n → both ≡ split_sum j (after B (w ++ v ∷ [])) (after A (u ++ v ∷ [])) l)
    → xor both single ≡ split_sum k (after A u) (after B w) s
split_sum-step k j A B u w [] n single both more long one two = absurd (omega (arith, long))
split_sum-step k j A B u w (v ∷ s) n single both more long one two =
    let rest : length s ≡ n = omega (arith, long) in
    (λ i. xor (two v s refl rest i) (one v s refl rest i)) ∙ sym (split_sum-more k j A B u w v s more)
