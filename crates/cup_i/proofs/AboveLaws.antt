-- The cofaces of the members of a cochain a.
--     coface-in, coface-kept         the cofaces that are kept
--     part-same, part-step           a part with as many vertices is the list; of a longer list one vertex may be left out
--     above-first, above-next        the cofaces of the members are reached from the members, one vertex more at a time
--     above-within                   they are simplices of the complex
--     factor-first, factor-second, factor-front
--                                    a simplex at which a product is one has a part in each factor; with index 0 its first vertices
--     over-first, over-second        so it is found over the members of either
--     at-these                       so the product is known from these simplices
use Rattle.std.proofs.Common.{◌≡◌, ℕ, suc, ◌+◌, ◌-◌, ◌<◌, ◌≤◌, Bool, true, false, not, ◌&&◌, ◌||◌, List, [], ◌∷◌, length, take, drop, nat_eq, refl, sym, ap, subst, ◌∙◌, arith, eqb-true, ⊎_elim, inl, inr}
use Rattle.std.specs.List.{All, filter, list_any, range_with_len, remove}
use Rattle.std.specs.List.Sorted.{IsStrictlyIncreasing}
use Rattle.std.proofs.lemmas.Bool.{true≢false, and_parts, and_from, or_cases, or_left, or_right, false_from_ne_true}
use Rattle.std.proofs.lemmas.List.{length-take-le, take-take, take_all}
use Rattle.std.proofs.lemmas.List.Edits.{length-remove}
use Rattle.homology.specs.Sets.{Ids, set_of}
use Rattle.homology.specs.Simplices.{same_list}
use Rattle.homology.specs.Complexes.{Complex, IsComplex, HasFace, dim, incidence, simplex_at}
use Rattle.homology.specs.Chains.{IsChain}
use Rattle.homology.specs.Growth.{choices, is_there}
use Rattle.homology.proofs.SetLaws.{same_members}
use Rattle.homology.proofs.ParityLaws.{nat_eq-self}
use Rattle.homology.proofs.KindSteps.{tests-same}
use Rattle.homology.proofs.KindLaws.{set_of-filter, set_of-range, set_of-range_holds}
use Rattle.homology.proofs.ListSetLaws.{set_of-All}
use Rattle.homology.proofs.BoundaryLaws.{FaceAt-incidence, FaceAt-length, incidence-is, incidence_of, odd-some, same_list-same}
use Rattle.homology.proofs.FaceLists.{Picks, Picks-length, choices-sound, choices-complete}
use Rattle.complex_store.specs.Cofaces.{cofaces}
use Rattle.complex_store.proofs.FaceLaws.{incidence_of-face}
use Rattle.products.specs.Products.{cup, value_at}
use Rattle.products.proofs.SplittingLaws.{weigh-none}
use Rattle.products.proofs.HalfLaws.{meets}
use Rattle.products.proofs.ValueLaws.{value_at-there}
use Rattle.products.proofs.CoboundaryLaw.{cup-weigh, cup-degree, value_at-length}
use Rattle.products.proofs.CapLaws.{weigh-one}
use Rattle.cup_i.specs.Above.{is_kept, kept_cofaces, IsPart, IsAbove}
use Rattle.complex_store.proofs.FrontLaws.{remove-last}
use Rattle.f2_chains.proofs.Passing.{any-found, any-holds}

-- the cofaces
pub coface-in : (K : Complex) (u c : ℕ) → set_of (cofaces K u) c ≡ true → (c < length K) × (incidence K u c ≡ true)
coface-in K u c e =
    let both = and_parts (incidence K u c) (set_of (range_with_len 0 (length K)) c) (sym (set_of-filter (incidence K u) (range_with_len 0 (length K)) c) ∙ e) in
    (omega (arith, (set_of-range 0 (length K) c both.1).1), both.0)

coface-holds : (K : Complex) (u c : ℕ) → c < length K → incidence K u c ≡ true → set_of (cofaces K u) c ≡ true
coface-holds K u c h e =
    set_of-filter (incidence K u) (range_with_len 0 (length K)) c
    ∙ and_from (incidence K u c) (set_of (range_with_len 0 (length K)) c) e (set_of-range_holds 0 (length K) c (omega arith) (omega (arith, h)))

pub coface-within : (K : Complex) (u : ℕ) → All (λ c. c < length K) (cofaces K u)
coface-within K u = set_of-All (λ c. c < length K) (cofaces K u) (λ c e. (coface-in K u c e).0)

pub coface-wide : (K : Complex) (u : ℕ) → All (λ c. 1 < length (simplex_at K c)) (cofaces K u)
coface-wide K u = set_of-All (λ c. 1 < length (simplex_at K c)) (cofaces K u) (λ c e. (FaceAt-incidence K u c (coface-in K u c e).1).wide)

kept-in : (K : Complex) (behind : Bool) (u c : ℕ) → set_of (kept_cofaces K behind u) c ≡ true → set_of (cofaces K u) c ≡ true
kept-in K behind u c e =
    (and_parts (is_kept K behind u c) (set_of (cofaces K u) c) (sym (set_of-filter (is_kept K behind u) (cofaces K u) c) ∙ e)).1

-- a list with some members left out
picks-same : (s t : List ℕ) → Picks s t → length s ≡ length t → s ≡ t
picks-same [] [] p h = refl
picks-same [] (y ∷ t) p h = absurd (omega (arith, h))
picks-same (x ∷ s) [] p h = absurd p
picks-same (x ∷ s) (y ∷ t) p h = ⊎_elim
    (λ (here : (x ≡ y) × Picks s t). λ i. here.0 i ∷ picks-same s t here.1 (omega (arith, h)) i)
    (λ (later : Picks (x ∷ s) t). absurd (omega (arith, h, Picks-length (x ∷ s) t later)))
    p

picks-step : (s t : List ℕ) → Picks s t → length s < length t → (k : ℕ) × (k < length t) × Picks s (remove t k)
picks-step [] [] p h = absurd (omega arith)
picks-step [] (y ∷ t) p h = (0, omega arith, tt)
picks-step (x ∷ s) [] p h = absurd p
picks-step (x ∷ s) (y ∷ t) p h = ⊎_elim
    (λ (here : (x ≡ y) × Picks s t).
    let rest = picks-step s t here.1 (omega arith) in
    (suc rest.0, omega (arith, rest.1), inl (here.0, rest.2)))
    (λ (later : Picks (x ∷ s) t). (0, omega arith, later))
    p

part-same : (behind : Bool) (p s : List ℕ) → IsPart behind p s → length p ≡ length s → p ≡ s
part-same true p s part long = part ∙ take_all (length p) s (omega (arith, long))
part-same false p s part long = picks-same p s (choices-sound (length p) s p part).1 long

-- of a longer list one vertex may be left out, and where behind is set the last one
record PartStep (behind : Bool) (p s : List ℕ) : Type 0 where
  place : ℕ
  below : place < length s
  part : IsPart behind p (remove s place)
  last : behind ≡ true → place ≡ length s - 1

part-step : (behind : Bool) (p s : List ℕ) → IsPart behind p s → length p < length s → PartStep behind p s
part-step true p s part less = record {
  place = length s - 1;
  below = omega (arith, less);
  part =
      part
      ∙ sym (take-take (length p) (length s - 1) s (omega (arith, less)))
      ∙ ap (take (length p)) (sym (remove-last s (omega (arith, less))));
  last = λ _. refl;
}
part-step false p s part less =
    let step = picks-step p s (choices-sound (length p) s p part).1 less in
    record {
      place = step.0;
      below = step.1;
      part = choices-complete p (remove s step.0) step.2;
      last = λ e. absurd (true≢false (sym e));
    }

module _ (K : Complex) (c : IsComplex K) (behind : Bool) (d : ℕ) (a : Ids) (chain : IsChain K d a) where
  -- with no vertex more they are the members
  pub above-first : (xs : List ℕ) → IsStrictlyIncreasing xs → set_of xs ≡ a → IsAbove K behind a (d + 1 + 0) xs
  above-first xs up is = record {
    ascending = up;
    within = λ x e. chain.there x (member x e);
    wide = λ x e. omega (arith, chain.degree x (member x e), (c.simplices x (chain.there x (member x e))).nonempty);
    all = λ x p x_in long val part.
        let short : length p ≡ d + 1 = value_at-length K c d a chain p val in
        let same : p ≡ simplex_at K x = part-same behind p (simplex_at K x) part (omega (arith, short, long)) in
        ap (λ s. s x) is ∙ sym (value_at-there K c a x x_in) ∙ ap (value_at K a) (sym same) ∙ val;
  }
    where
      member : (x : ℕ) → set_of xs x ≡ true → a x ≡ true
      member x e = ap (λ s. s x) (sym is) ∙ e

  -- and with one more their cofaces
  pub above-next : (n : ℕ) (us xs : List ℕ) → d + 1 ≤ n → IsAbove K behind a n us → IsStrictlyIncreasing xs
      → ((z : ℕ) → set_of xs z ≡ list_any (λ u. set_of (kept_cofaces K behind u) z) us) → IsAbove K behind a (n + 1) xs
  above-next n us xs least above up members = record {
    ascending = up;
    within = λ z e. (coface-in K (under z e).0 z (kept-in K behind (under z e).0 z (under z e).2)).0;
    wide = λ z e.
        let low = under z e in
        let face = FaceAt-incidence K low.0 z (coface-in K low.0 z (kept-in K behind low.0 z low.2)).1 in
        omega (arith, FaceAt-length face, above.wide low.0 low.1);
    all = each;
  }
    where
      under : (z : ℕ) → set_of xs z ≡ true → (u : ℕ) × (set_of us u ≡ true) × (set_of (kept_cofaces K behind u) z ≡ true)
      under z e = any-found (λ u. set_of (kept_cofaces K behind u) z) us (sym (members z) ∙ e)

      kept : (b : Bool) (u x k : ℕ) → simplex_at K u ≡ remove (simplex_at K x) k → (b ≡ true → k ≡ length (simplex_at K x) - 1) → is_kept K b u x ≡ true
      kept true u x k is last =
          same_list-same (simplex_at K u) (remove (simplex_at K x) (length (simplex_at K x) - 1)) (is ∙ ap (remove (simplex_at K x)) (last refl))
      kept false u x k is last = refl

      each : (x : ℕ) (p : List ℕ) → x < length K → length (simplex_at K x) ≡ n + 1 → value_at K a p ≡ true → IsPart behind p (simplex_at K x) → set_of xs x ≡ true
      each x p x_in long val part =
          let s = simplex_at K x in
          let short : length p ≡ d + 1 = value_at-length K c d a chain p val in
          let step = part-step behind p s part (omega (arith, short, long, least)) in
          let wide : 1 < length s = omega (arith, long, least) in
          let face : HasFace K x step.place = c.closed x step.place x_in wide step.below in
          let lower : set_of us face.id ≡ true =
          above.all face.id p (omega (arith, face.earlier, x_in)) (ap length face.is ∙ omega (arith, length-remove s step.place step.below, long)) val
          (subst (IsPart behind p) (sym face.is) step.part) in
          let incident : incidence K face.id x ≡ true =
          incidence-is K face.id x
          ∙ ap (λ l. incidence_of l s) face.is
          ∙ incidence_of-face s step.place (c.simplices x x_in).ascending wide step.below in
          members x ∙ any-holds (λ u. set_of (kept_cofaces K behind u) x) us face.id lower
          (set_of-filter (is_kept K behind face.id) (cofaces K face.id) x
          ∙ and_from (is_kept K behind face.id x) (set_of (cofaces K face.id) x) (kept behind face.id x step.place face.is step.last)
          (coface-holds K face.id x x_in incident))

pub above-within : (K : Complex) (behind : Bool) (a : Ids) (n : ℕ) (xs : List ℕ) → IsAbove K behind a n xs → All (λ x. x < length K) xs
above-within K behind a n xs above = set_of-All (λ x. x < length K) xs above.within

pub above-degree : (K : Complex) (behind : Bool) (a : Ids) (n i m : ℕ) (xs : List ℕ) → IsAbove K behind a n xs → n + i ≡ m
    → All (λ x. length (simplex_at K x) + i ≡ m) xs
above-degree K behind a n i m xs above e = set_of-All (λ x. length (simplex_at K x) + i ≡ m) xs (λ x h. omega (arith, above.wide x h, e))

-- a test that is never false is true
truly : (b : Bool) → (b ≡ false → ⊥) → b ≡ true
truly true h = refl
truly false h = absurd (h refl)

module _ (K : Complex) (i : ℕ) (a b : Ids) (n x : ℕ) (xs : List ℕ) (x_in : x < length K) (long : length (simplex_at K x) ≡ n) (one : cup K i a b x ≡ true) where
  pub factor-first : IsAbove K false a n xs → set_of xs x ≡ true
  factor-first above = truly (set_of xs x) (λ none. true≢false (sym one ∙ cup-weigh K i a b x
      ∙ weigh-none (suc i) true (simplex_at K x) (meets (value_at K a) (value_at K b)) (λ p q P Q. ap (λ v. v && value_at K b q)
      (false_from_ne_true (value_at K a p) (λ val. true≢false (sym (above.all x p x_in long val (choices-complete p (simplex_at K x) P)) ∙ none))))))

  pub factor-second : IsAbove K false b n xs → set_of xs x ≡ true
  factor-second above = truly (set_of xs x) (λ none. true≢false (sym one ∙ cup-weigh K i a b x
      ∙ weigh-none (suc i) true (simplex_at K x) (meets (value_at K a) (value_at K b)) (λ p q P Q. and-none (value_at K a p)
      (false_from_ne_true (value_at K b q) (λ val. true≢false (sym (above.all x q x_in long val (choices-complete q (simplex_at K x) Q)) ∙ none))))))
    where
      and-none : (v : Bool) {w : Bool} → w ≡ false → (v && w) ≡ false
      and-none true e = e
      and-none false e = refl

pub factor-front : (K : Complex) (a b : Ids) (n x : ℕ) (xs : List ℕ) → x < length K → length (simplex_at K x) ≡ n → cup K 0 a b x ≡ true
    → IsAbove K true a n xs → set_of xs x ≡ true
factor-front K a b n x xs x_in long one above =
    let s = simplex_at K x in
    let some = odd-some (length s) (λ j. value_at K a (take (suc j) s) && value_at K b (drop j s))
    (sym (weigh-one s (meets (value_at K a) (value_at K b))) ∙ sym (cup-weigh K 0 a b x) ∙ one) in
    let both = and_parts (value_at K a (take (suc some.0) s)) (value_at K b (drop some.0 s)) some.2 in
    above.all x (take (suc some.0) s) x_in long both.0
    (ap (λ m. take m s) (sym (length-take-le (suc some.0) s (omega (arith, some.1)))))

module _ (K : Complex) (c : IsComplex K) (i p q n : ℕ) (a b : Ids) (A : IsChain K p a) (B : IsChain K q b) (long : n + i ≡ p + q + 1)
    (xs : List ℕ) (x : ℕ) (one : cup K i a b x ≡ true) where
  at-degree : (x < length K) × (length (simplex_at K x) ≡ n)
  at-degree =
      let known = cup-degree K c i p q a b A B x one in
      (known.0, omega (arith, known.1, (c.simplices x known.0).nonempty, long))

  pub over-first : (behind : Bool) → (behind ≡ true → i ≡ 0) → IsAbove K behind a n xs → set_of xs x ≡ true
  over-first true index above = factor-front K a b n x xs at-degree.0 at-degree.1 (ap (λ m. cup K m a b x) (sym (index refl)) ∙ one) above
  over-first false index above = factor-first K i a b n x xs at-degree.0 at-degree.1 one above

  pub over-second : IsAbove K false b n xs → set_of xs x ≡ true
  over-second above = factor-second K i a b n x xs at-degree.0 at-degree.1 one above

-- the product is known from simplices among which are all at which it is one
pub at-these : (f : Ids) (xs kept : List ℕ) → ((x : ℕ) → f x ≡ true → set_of xs x ≡ true) → kept ≡ filter f xs → set_of kept ≡ f
at-these f xs kept all is = ap set_of is ∙ same_members (set_of (filter f xs)) f (λ q. set_of-filter f xs q ∙ with-all (f q) (set_of xs q) (all q))
  where
    with-all : (v w : Bool) → (v ≡ true → w ≡ true) → (v && w) ≡ v
    with-all true w h = h refl
    with-all false w h = refl
