-- Cycles of the dimension of a shelling.
--     facet-once             each simplex with n vertices stands once in the list
--     ridge-sum              the boundary at a ridge is the sum of the values at the facets in which it lies
--     ridge-values           these are two, so they have one value at a cycle
--     cycle-constant         along the list, all facets have
--     facets, facets-cycle   the sum of all facets is a cycle
--     betti-top              so there is one class
use Rattle.std.proofs.Common.{◌≡◌, ℕ, ◌+◌, ◌-◌, ◌<◌, ◌≤◌, Bool, true, false, not, ◌&&◌, ◌||◌, List, [], ◌∷◌, ◌++◌, length, nat_eq, nat_lt, refl, sym, ap, ◌∙◌, subst, arith, eqb-true, eq-eqb, lt-ltb, ltb-true, ⊎_elim, inl, inr, ◌⊎◌}
use Rattle.std.specs.List.{filter, list_any}
use Rattle.std.specs.List.Sorted.{IsStrictlyIncreasing}
use Rattle.std.proofs.lemmas.Bool.{true≢false, and_parts, or_cases, or_left, or_right, cases_Bool, cases_lt, false_from_ne_true}
use Rattle.homology.specs.Parity.{xor, odd}
use Rattle.homology.specs.Sets.{Ids, empty, set_of}
use Rattle.homology.specs.Simplices.{same_list}
use Rattle.homology.specs.Complexes.{Complex, IsComplex, simplex_at, dim, incidence}
use Rattle.homology.specs.Chains.{IsCycle, boundary}
use Rattle.homology.specs.Kinds.{betti, is_positive, is_bounding, is_essential, IsBounding}
use Rattle.homology.specs.Contractions.{cycle_of}
use Rattle.homology.specs.Growth.{is_there}
use Rattle.homology.proofs.ParityLaws.{and-true, odd-same, odd-none}
use Rattle.homology.proofs.SetLaws.{same_members}
use Rattle.homology.proofs.BoundaryLaws.{same_list-true, same_list-same, boundary-within, incidence-dim, odd-some}
use Rattle.homology.proofs.FaceLists.{Picks-length, there-first, there-right, there-left, there-append}
use Rattle.homology.proofs.KindLaws.{is_positive-holds, is_bounding-true}
use Rattle.homology.proofs.LatestMembers.{Latest, latest_or_empty}
use Rattle.factors.proofs.Existence.{contraction-exists}
use Rattle.cohomology.specs.Classes.{essential_at}
use Rattle.cohomology.specs.Cycles.{IsClassCycle, class_cycle}
use Rattle.cohomology.proofs.Naming.{Number, number, essential-at, simplices_of-at}
use Rattle.cohomology.proofs.CycleLaws.{class_cycle-found}
use Rattle.products.specs.Products.{value_at, odd_of}
use Rattle.products.proofs.ValueLaws.{Found, value_at-there}
use Rattle.manifolds.specs.Closed.{lies_in}
use Rattle.manifolds.proofs.LinkLaws.{there-id}
use Rattle.manifolds.proofs.LyingLaws.{picks-same}
use Rattle.shellings.specs.Shellings.{times_in}
use Rattle.shellings.proofs.ShellingFacts.{old, old-more, any-witness, without, Fits, Shells, Lacks, lacks}
use Rattle.shellings.proofs.FacetSums.{sum-same, sum-none, sum-swap, sum-filter, filter-there, filter-source, two-members, two-true}
use Rattle.shellings.proofs.FaceLaws.{lying-picks, face-found, filter-ascends, length-without, without-lies}
use Rattle.shellings.proofs.BettiLaws.{one-class}
use Rattle.shellings.proofs.IncidenceLaws.{lies-incidence}

-- no member of F stands among E
fresh-absent : (L : Complex) (n : ℕ) (F E : List (List ℕ)) → Shells L n E F → (s : List ℕ) → is_there E s ≡ true → odd_of F (λ t. same_list t s) ≡ false
fresh-absent L n [] E S s h = refl
fresh-absent L n (t ∷ F) E S s h = λ i. xor
    (false_from_ne_true (same_list t s) (λ e. true≢false (sym h ∙ ap (is_there E) (sym (same_list-true t s e)) ∙ S.2)) i)
    (fresh-absent L n F (E ++ t ∷ []) S.4 s (there-left E (t ∷ []) s h) i)

-- each member stands once
facet-once : (L : Complex) (n : ℕ) (F E : List (List ℕ)) → Shells L n E F → (s : List ℕ) → is_there F s ≡ true → odd_of F (λ t. same_list t s) ≡ true
facet-once L n [] E S s h = absurd (true≢false (sym h))
facet-once L n (t ∷ F) E S s h = by (cases_Bool (same_list t s)) (λ later. facet-once L n F (E ++ t ∷ []) S.4 s later)
  where
    by : (same_list t s ≡ true) ⊎ (same_list t s ≡ false) → (is_there F s ≡ true → odd_of F (λ t. same_list t s) ≡ true)
        → xor (same_list t s) (odd_of F (λ t. same_list t s)) ≡ true
    by (inl here) rest = λ i. xor (here i)
        (fresh-absent L n F (E ++ t ∷ []) S.4 s (there-right E (t ∷ []) s (or_left (same_list s t) false (same_list-same s t (sym (same_list-true t s here))))) i)
    by (inr other) rest = (λ i. xor (other i) (odd_of F (λ t. same_list t s))) ∙ rest (⊎_elim
        (λ (same : same_list s t ≡ true). absurd (true≢false (sym (same_list-same t s (sym (same_list-true s t same))) ∙ other)))
        (λ (later : is_there F s ≡ true). later)
        (or_cases (same_list s t) (is_there F s) h))

-- what is in a complex L, whose simplices all lie in those of F, which shell it
pub record Shelled (L : Complex) (n : ℕ) (F : List (List ℕ)) : Type 0 where
  pub complex : IsComplex L
  pub wide : 2 ≤ n
  pub shells : Shells L n [] F
  pub covered : (x : ℕ) → x < length L → old F (simplex_at L x) ≡ true
  pub ridges : (x : ℕ) → x < length L → length (simplex_at L x) + 1 ≡ n → times_in F (simplex_at L x) ≡ 2

pub facet-length : (L : Complex) (n : ℕ) (F E : List (List ℕ)) → Shells L n E F → (t : List ℕ) → is_there F t ≡ true → (length t ≡ n) × (is_there L t ≡ true)
facet-length L n [] E S t h = absurd (true≢false (sym h))
facet-length L n (s ∷ F) E S t h = ⊎_elim
    (λ (here : same_list t s ≡ true).
    let same : s ≡ t = sym (same_list-true t s here) in
    (ap length (sym same) ∙ S.0, ap (is_there L) (sym same) ∙ S.1))
    (λ (later : is_there F t ≡ true). facet-length L n F (E ++ s ∷ []) S.4 t later)
    (or_cases (same_list t s) (is_there F t) h)

module _ (L : Complex) (n : ℕ) (F : List (List ℕ)) (H : Shelled L n F) where
  found-facet : (t : List ℕ) → is_there F t ≡ true → Found L t
  found-facet t h = let id = there-id L t (facet-length L n F [] H.shells t h).1 in record { id = id.0; within = id.1; is = id.2 }

  facet-up : (t : List ℕ) → is_there F t ≡ true → IsStrictlyIncreasing t
  facet-up t h = let f = found-facet t h in subst IsStrictlyIncreasing f.is (H.complex.simplices f.id f.within).ascending

  -- a simplex lies in a facet, and is one where it is as long
  in-facet : (x : ℕ) → x < length L → (d : List ℕ) × (lies_in (simplex_at L x) d ≡ true) × (is_there F d ≡ true)
  in-facet x lt =
      let w = any-witness (lies_in (simplex_at L x)) F (H.covered x lt) in
      (w.0, w.1, w.2 (same_list w.0) (same_list-same w.0 w.0 refl))

  long-facet : (x : ℕ) → x < length L → length (simplex_at L x) ≡ n → is_there F (simplex_at L x) ≡ true
  long-facet x lt long =
      let d = in-facet x lt in
      let same : simplex_at L x ≡ d.0 =
      picks-same (simplex_at L x) d.0 (lying-picks (simplex_at L x) d.0 (H.complex.simplices x lt).ascending (facet-up d.0 d.2) d.1)
      (long ∙ sym (facet-length L n F [] H.shells d.0 d.2).0) in
      ap (is_there F) same ∙ d.2

  -- the value of a chain of facets at a facet, summed over those in which y lies
  ridge-sum : (z : Ids) → ((x : ℕ) → z x ≡ true → (x < length L) × (length (simplex_at L x) ≡ n)) → (y : ℕ) → y < length L
      → length (simplex_at L y) + 1 ≡ n → boundary L z y ≡ odd_of (filter (lies_in (simplex_at L y)) F) (value_at L z)
  unfolding value_at
  ridge-sum z top y ly short =
      odd-same (length L) _ _ (λ x lt. at x lt (cases_Bool (z x)))
      ∙ sym (sum-swap (length L) F (λ t x. lies_in (simplex_at L y) t && (z x && same_list t (simplex_at L x))))
      ∙ sum-same F _ _ (λ t _. inner (lies_in (simplex_at L y) t) t)
      ∙ sum-filter F (lies_in (simplex_at L y)) (λ t. odd (length L) (λ x. z x && same_list t (simplex_at L x)))
    where
      inner : (b : Bool) (t : List ℕ) → odd (length L) (λ x. b && (z x && same_list t (simplex_at L x))) ≡ (b && odd (length L) (λ x. z x && same_list t (simplex_at L x)))
      inner true t = refl
      inner false t = odd-none (length L) _ (λ x _. refl)

      zero_term : (b : Bool) → (b && false) ≡ false
      zero_term true = refl
      zero_term false = refl

      -- only the facet x itself counts at x
      only : (x : ℕ) → x < length L → length (simplex_at L x) ≡ n
          → odd_of F (λ t. lies_in (simplex_at L y) t && same_list t (simplex_at L x)) ≡ incidence L y x
      only x lt long =
          sum-same F _ _ (λ t _. term t (cases_Bool (same_list t (simplex_at L x))))
          ∙ pulled (lies_in (simplex_at L y) (simplex_at L x)) F
          ∙ ap (λ b. lies_in (simplex_at L y) (simplex_at L x) && b) (facet-once L n F [] H.shells (simplex_at L x) (long-facet x lt long))
          ∙ and-true (lies_in (simplex_at L y) (simplex_at L x))
          ∙ lies-incidence L H.complex y x ly lt (long ∙ sym short)
        where
          term : (t : List ℕ) → (same_list t (simplex_at L x) ≡ true) ⊎ (same_list t (simplex_at L x) ≡ false)
              → (lies_in (simplex_at L y) t && same_list t (simplex_at L x)) ≡ (lies_in (simplex_at L y) (simplex_at L x) && same_list t (simplex_at L x))
          term t (inl e) = ap (λ s. lies_in (simplex_at L y) s && same_list t (simplex_at L x)) (same_list-true t (simplex_at L x) e)
          term t (inr e) =
              ap (λ b. lies_in (simplex_at L y) t && b) e ∙ zero_term (lies_in (simplex_at L y) t)
              ∙ sym (ap (λ b. lies_in (simplex_at L y) (simplex_at L x) && b) e ∙ zero_term (lies_in (simplex_at L y) (simplex_at L x)))

          pulled : (b : Bool) (G : List (List ℕ)) → odd_of G (λ t. b && same_list t (simplex_at L x)) ≡ (b && odd_of G (λ t. same_list t (simplex_at L x)))
          pulled true G = refl
          pulled false G = sum-none G

      at : (x : ℕ) → x < length L → (z x ≡ true) ⊎ (z x ≡ false)
          → (z x && incidence L y x) ≡ odd_of F (λ t. lies_in (simplex_at L y) t && (z x && same_list t (simplex_at L x)))
      at x lt (inl m) =
          ap (λ b. b && incidence L y x) m ∙ sym (only x lt (top x m).1)
          ∙ λ i. odd_of F (λ t. lies_in (simplex_at L y) t && (sym m i && same_list t (simplex_at L x)))
      at x lt (inr e) =
          ap (λ b. b && incidence L y x) e
          ∙ sym (sum-same F _ _ (λ t _. ap (λ b. lies_in (simplex_at L y) t && (b && same_list t (simplex_at L x))) e ∙ zero_term (lies_in (simplex_at L y) t)) ∙ sum-none F)

  -- a cycle of the dimension of F
  module _ (z : Ids) (Z : IsCycle L (n - 1) z) where
    top : (x : ℕ) → z x ≡ true → (x < length L) × (length (simplex_at L x) ≡ n)
    top x m =
        let lt : x < length L = Z.chain.there x m in
        (lt, omega (arith, Z.chain.degree x m, (H.complex.simplices x lt).nonempty, H.wide))

    -- two facets that have a ridge in common have one value
    ridge-values : (d t y : List ℕ) → is_there F d ≡ true → is_there F t ≡ true → (d ≡ t → ⊥) → Found L y → length y + 1 ≡ n
        → lies_in y d ≡ true → lies_in y t ≡ true → value_at L z d ≡ value_at L z t
    ridge-values d t y hd ht other f short yd yt =
        two-members (filter (lies_in (simplex_at L f.id)) F) (H.ridges f.id f.within long) d t other
        (filter-there F (lies_in (simplex_at L f.id)) d hd (ap (λ s. lies_in s d) f.is ∙ yd))
        (filter-there F (lies_in (simplex_at L f.id)) t ht (ap (λ s. lies_in s t) f.is ∙ yt))
        (value_at L z)
        (sym (ridge-sum z top f.id f.within long) ∙ ap (λ b. b f.id) Z.closed)
      where
        long : length (simplex_at L f.id) + 1 ≡ n
        long = ap (λ s. length s + 1) f.is ∙ short

    -- a facet has a ridge in common with an earlier one
    next-value : (E : List (List ℕ)) (t : List ℕ) → ((s : List ℕ) → is_there E s ≡ true → is_there F s ≡ true) → is_there F t ≡ true
        → is_there E t ≡ false → Fits E t → old E [] ≡ true → (value : Bool) → ((s : List ℕ) → is_there E s ≡ true → value_at L z s ≡ value)
        → value_at L z t ≡ value
    next-value E t sub ht fresh fits begun value before =
        sym (ridge-values d.0 t (without l.vertex t) (sub d.0 d_in) ht (λ e. true≢false (sym d_in ∙ ap (is_there E) e ∙ fresh)) ridge short
        d.1 (without-lies l.vertex t))
        ∙ before d.0 d_in
      where
        up : IsStrictlyIncreasing t
        up = facet-up t ht

        l : Lacks E t []
        l = lacks E t [] up fits refl begun

        d : (d : List ℕ) × (lies_in (without l.vertex t) d ≡ true) × ((q : List ℕ → Bool) → q d ≡ true → list_any q E ≡ true)
        d = any-witness (lies_in (without l.vertex t)) E l.is_old

        d_in : is_there E d.0 ≡ true
        d_in = d.2 (same_list d.0) (same_list-same d.0 d.0 refl)

        short : length (without l.vertex t) + 1 ≡ n
        short = length-without l.vertex t up l.there ∙ (facet-length L n F [] H.shells t ht).0

        ridge : Found L (without l.vertex t)
        ridge = face-found L H.complex t (without l.vertex t) (found-facet t ht) (filter-ascends _ t up) (without-lies l.vertex t)
            (omega (arith, short, H.wide))

    along-values : (E G : List (List ℕ)) → Shells L n E G → ((s : List ℕ) → (is_there E s || is_there G s) ≡ true → is_there F s ≡ true)
        → old E [] ≡ true → (value : Bool) → ((s : List ℕ) → is_there E s ≡ true → value_at L z s ≡ value)
        → (s : List ℕ) → is_there G s ≡ true → value_at L z s ≡ value
    along-values E [] S sub begun value before s h = absurd (true≢false (sym h))
    along-values E (t ∷ G) S sub begun value before s h = ⊎_elim
        (λ (here : same_list s t ≡ true). ap (value_at L z) (same_list-true s t here) ∙ mine)
        (λ (later : is_there G s ≡ true). along-values (E ++ t ∷ []) G S.4 wider
        (old-more E t [] ∙ or_left (old E []) (lies_in [] t) begun) value next s later)
        (or_cases (same_list s t) (is_there G s) h)
      where
        mine : value_at L z t ≡ value
        mine = next-value E t (λ r e. sub r (or_left (is_there E r) (is_there (t ∷ G) r) e)) (sub t (or_right (is_there E t) (is_there (t ∷ G) t) (there-first t G)))
            S.2 S.3 begun value before

        pushed : (r : List ℕ) → is_there (E ++ t ∷ []) r ≡ true → (is_there E r ≡ true) ⊎ (same_list r t ≡ true)
        pushed r e = ⊎_elim
            (λ (earlier : is_there E r ≡ true). inl earlier)
            (λ (last : is_there (t ∷ []) r ≡ true). ⊎_elim
            (λ (here : same_list r t ≡ true). inr here)
            (λ (never : false ≡ true). absurd (true≢false (sym never)))
            (or_cases (same_list r t) false last))
            (or_cases (is_there E r) (is_there (t ∷ []) r) (sym (there-append E (t ∷ []) r) ∙ e))

        next : (r : List ℕ) → is_there (E ++ t ∷ []) r ≡ true → value_at L z r ≡ value
        next r e = ⊎_elim
            (λ (earlier : is_there E r ≡ true). before r earlier)
            (λ (here : same_list r t ≡ true). ap (value_at L z) (same_list-true r t here) ∙ mine)
            (pushed r e)

        wider : (r : List ℕ) → (is_there (E ++ t ∷ []) r || is_there G r) ≡ true → is_there F r ≡ true
        wider r e = ⊎_elim
            (λ (front : is_there (E ++ t ∷ []) r ≡ true). ⊎_elim
            (λ (earlier : is_there E r ≡ true). sub r (or_left (is_there E r) (is_there (t ∷ G) r) earlier))
            (λ (here : same_list r t ≡ true). sub r (or_right (is_there E r) (is_there (t ∷ G) r) (or_left (same_list r t) (is_there G r) here)))
            (pushed r front))
            (λ (later : is_there G r ≡ true). sub r (or_right (is_there E r) (is_there (t ∷ G) r) (or_right (same_list r t) (is_there G r) later)))
            (or_cases (is_there (E ++ t ∷ []) r) (is_there G r) e)

  -- so a cycle has one value at all facets
  cycle-constant : (z : Ids) → IsCycle L (n - 1) z → (s t : List ℕ) → is_there F s ≡ true → is_there F t ≡ true → value_at L z s ≡ value_at L z t
  cycle-constant z Z s t hs ht = by F refl H.shells
    where
      by : (G : List (List ℕ)) → G ≡ F → Shells L n [] G → value_at L z s ≡ value_at L z t
      by [] e S = absurd (true≢false (sym hs ∙ ap (λ G. is_there G s) (sym e)))
      by (a ∷ G) e S = all s (ap (λ J. is_there J s) e ∙ hs) ∙ sym (all t (ap (λ J. is_there J t) e ∙ ht))
        where
          first : (r : List ℕ) → is_there (a ∷ []) r ≡ true → value_at L z r ≡ value_at L z a
          first r h = ⊎_elim
              (λ (here : same_list r a ≡ true). ap (value_at L z) (same_list-true r a here))
              (λ (never : false ≡ true). absurd (true≢false (sym never)))
              (or_cases (same_list r a) false h)

          spread : (r : List ℕ) → (is_there (a ∷ []) r || is_there G r) ≡ true → is_there F r ≡ true
          spread r h = ap (λ J. is_there J r) (sym e) ∙ joined (same_list r a) (is_there G r) h
            where
              joined : (x y : Bool) → ((x || false) || y) ≡ true → (x || y) ≡ true
              joined true y h = refl
              joined false y h = h

          all : (r : List ℕ) → is_there (a ∷ G) r ≡ true → value_at L z r ≡ value_at L z a
          all r h = ⊎_elim
              (λ (here : same_list r a ≡ true). ap (value_at L z) (same_list-true r a here))
              (λ (later : is_there G r ≡ true). along-values z Z (a ∷ []) G S.4 spread refl (value_at L z a) first r later)
              (or_cases (same_list r a) (is_there G r) h)

  -- two cycles with members have the same
  cycle-members : (z : Ids) → IsCycle L (n - 1) z → (x y : ℕ) → z x ≡ true → y < length L → length (simplex_at L y) ≡ n → z y ≡ true
  cycle-members z Z x y m ly long =
      let at = top z Z x m in
      sym (value_at-there L H.complex z y ly)
      ∙ cycle-constant z Z (simplex_at L y) (simplex_at L x) (long-facet y ly long) (long-facet x at.0 at.1)
      ∙ value_at-there L H.complex z x at.0
      ∙ m

  abbrev facets : Ids
  facets x = nat_lt x (length L) && nat_eq (length (simplex_at L x)) n

  facets-top : (x : ℕ) → facets x ≡ true → (x < length L) × (length (simplex_at L x) ≡ n)
  facets-top x m =
      let both = and_parts (nat_lt x (length L)) (nat_eq (length (simplex_at L x)) n) m in
      (ltb-true x (length L) both.0, eqb-true (length (simplex_at L x)) n both.1)

  facets-at : (x : ℕ) → x < length L → length (simplex_at L x) ≡ n → facets x ≡ true
  facets-at x lt long = λ i. lt-ltb x (length L) lt i && eq-eqb (length (simplex_at L x)) n long i

  facets-value : (t : List ℕ) → is_there F t ≡ true → value_at L facets t ≡ true
  facets-value t h =
      let f = found-facet t h in
      ap (value_at L facets) (sym f.is)
      ∙ value_at-there L H.complex facets f.id f.within
      ∙ facets-at f.id f.within (ap length f.is ∙ (facet-length L n F [] H.shells t h).0)

  facets-cycle : IsCycle L (n - 1) facets
  facets-cycle = record {
    chain = record {
      there = λ x m. (facets-top x m).0;
      degree = λ x m. ap (λ k. k - 1) (facets-top x m).1;
    };
    closed = same_members (boundary L facets) empty (λ y. false_from_ne_true (boundary L facets y) (λ m. clash y m));
  }
    where
      clash : (y : ℕ) → boundary L facets y ≡ true → ⊥
      clash y m =
          let ly : y < length L = boundary-within L H.complex facets y m in
          let some = odd-some (length L) (λ t. facets t && incidence L y t) m in
          let both = and_parts (facets some.0) (incidence L y some.0) some.2 in
          let at = facets-top some.0 both.0 in
          let short : length (simplex_at L y) + 1 ≡ n =
          omega (arith, incidence-dim L H.complex y some.0 at.0 both.1, at.1, H.wide, (H.complex.simplices y ly).nonempty) in
          true≢false
          (sym m
          ∙ ridge-sum facets facets-top y ly short
          ∙ two-true (filter (lies_in (simplex_at L y)) F) (value_at L facets) (H.ridges y ly short)
          (λ t h. facets-value t (filter-source F (lies_in (simplex_at L y)) t h)))

  -- no simplex has more vertices
  none-longer : (x : ℕ) → x < length L → length (simplex_at L x) ≤ n
  none-longer x lt =
      let d = in-facet x lt in
      omega (
        arith,
        (facet-length L n F [] H.shells d.0 d.2).0,
        Picks-length (simplex_at L x) d.0 (lying-picks (simplex_at L x) d.0 (H.complex.simplices x lt).ascending (facet-up d.0 d.2) d.1),
      )

  -- so nothing of the dimension of F bounds
  none-bounding : (x : ℕ) → x < length L → length (simplex_at L x) ≡ n → is_bounding L x ≡ false
  none-bounding x lt long = false_from_ne_true (is_bounding L x) (λ e. clash (is_bounding-true L H.complex x e).0)
    where
      clash : IsBounding L x → ⊥
      clash B =
          let nothing : B.is_boundary.filling ≡ empty = same_members B.is_boundary.filling empty (λ y. false_from_ne_true (B.is_boundary.filling y) (λ m.
          omega (arith, none-longer y (B.is_boundary.chain.there y m), B.is_boundary.chain.degree y m, long, H.wide))) in
          true≢false (sym B.latest.member
          ∙ ap (λ z. z x) (B.is_boundary.is ∙ ap (boundary L) nothing ∙ boundary-empty))
        where
          boundary-empty : boundary L empty ≡ empty
          boundary-empty = same_members (boundary L empty) empty (λ y. odd-none (length L) _ (λ t _. refl))

  some-class : 0 < length L → 0 < betti L (n - 1)
  some-class some = by (latest_or_empty (length L) facets (λ x m. (facets-top x m).0))
    where
      facet : (d : List ℕ) × (lies_in (simplex_at L 0) d ≡ true) × (is_there F d ≡ true)
      facet = in-facet 0 some

      by : (facets ≡ empty) ⊎ Latest facets → 0 < betti L (n - 1)
      by (inl none) =
          let f = found-facet facet.0 facet.2 in
          absurd (true≢false (sym (facets-at f.id f.within (ap length f.is ∙ (facet-length L n F [] H.shells facet.0 facet.2).0)) ∙ ap (λ z. z f.id) none))
      by (inr l) =
          let at = facets-top l.at l.latest.member in
          let d : dim L l.at ≡ n - 1 = ap (λ k. k - 1) at.1 in
          let positive : is_positive L l.at ≡ true = is_positive-holds L H.complex l.at (record {
            cycle = facets;
            is_cycle = subst (λ k. IsCycle L k facets) (sym d) facets-cycle;
            latest = l.latest;
          }) in
          let essential : is_essential L l.at ≡ true =
          λ i. positive i && not (none-bounding l.at at.0 at.1 i) in
          let k : Number L (n - 1) l.at = number L (n - 1) H.complex l.at essential d in
          omega (arith, k.below)

  pub betti-top : 0 < length L → betti L (n - 1) ≡ 1
  betti-top some = ⊎_elim
      (λ (more : 1 < betti L (n - 1)). absurd (clash more))
      (λ (le : betti L (n - 1) ≤ 1). omega (arith, le, some-class some))
      (cases_lt 1 (betti L (n - 1)))
    where
      cycle-of : (k : ℕ) → k < betti L (n - 1) → IsClassCycle L (n - 1) (k ∷ []) (set_of (class_cycle L (n - 1) (k ∷ [])))
      cycle-of k lt =
          let C = contraction-exists L H.complex in
          (class_cycle-found L H.complex C.f (cycle_of L C.phi) C.phi C.is (n - 1) (k ∷ []) (one-class L (n - 1) k lt)).0

      is_positive-at : (k : ℕ) (lt : k < betti L (n - 1)) → is_positive L (essential_at L (n - 1) k) ≡ true
      is_positive-at k lt =
          (and_parts (is_positive L (essential_at L (n - 1) k)) (not (is_bounding L (essential_at L (n - 1) k))) (essential-at L (n - 1) k lt).0).0

      value : (k j : ℕ) (lt : k < betti L (n - 1)) (in_b : j < betti L (n - 1))
          → set_of (class_cycle L (n - 1) (k ∷ [])) (essential_at L (n - 1) j) ≡ set_of (k ∷ []) j
      value k j lt in_b =
          (cycle-of k lt).positive (essential_at L (n - 1) j) (is_positive-at j in_b)
          ∙ simplices_of-at L (n - 1) (k ∷ []) (one-class L (n - 1) k lt).numbers j in_b

      clash : 1 < betti L (n - 1) → ⊥
      clash more =
          let zero_in : 0 < betti L (n - 1) = omega (arith, more) in
          let e = essential-at L (n - 1) 1 more in
          true≢false
          (sym (cycle-members (set_of (class_cycle L (n - 1) (0 ∷ []))) (cycle-of 0 zero_in).cycle (essential_at L (n - 1) 0) (essential_at L (n - 1) 1)
          (value 0 0 zero_in zero_in) e.1 (omega (arith, e.2, H.wide, (H.complex.simplices (essential_at L (n - 1) 1) e.1).nonempty)))
          ∙ value 0 1 zero_in more)
